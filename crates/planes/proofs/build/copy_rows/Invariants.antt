-- `copy_rows` meets its contract. The loop has copied the rows passed. Assumes nothing.
use Prim.Native.Nat.{◌*◌, ◌-◌}
use Rattle.layouts.specs.Storing.{put}
use Rattle.layouts.proofs.Loops.{Walked}
use Rattle.builder.specs.Canvas.{fetch}
use Rattle.planes.proofs.build.copy_rows.Given as goal

abbrev pub invariant-loop-y : goal.invariant-loop-y
invariant-loop-y l = Walked (λ i d. put d (i * l.layout.pitch) (fetch l.src (i * l.src_pitch) l.w)) l.initial.frame l.frame l.h l.y

abbrev pub decreases-loop-y : goal.decreases-loop-y
decreases-loop-y l = l.h - l.y
