-- `clear_rows` meets its contract. The loop has cleared the rows passed. Assumes nothing.
use Prim.Native.Nat.{◌+◌, ◌*◌, ◌-◌}
use lib.ListN.{replicate}
use Rattle.layouts.specs.Storing.{put}
use Rattle.layouts.proofs.Loops.{Walked}
use Rattle.layouts.proofs.margins.clear_rows.Given as goal

abbrev pub invariant-loop-y : goal.invariant-loop-y
invariant-loop-y l = Walked (λ i d. put d (l.target.offset + i * l.pitch + l.target.width) (replicate (l.pitch - l.target.width) 0)) l.initial.frame l.frame l.height l.y

abbrev pub decreases-loop-y : goal.decreases-loop-y
decreases-loop-y l = l.height - l.y
