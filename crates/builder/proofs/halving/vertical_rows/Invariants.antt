-- `vertical_rows` meets its contract. The loop has stored the rows passed. Assumes nothing.
use Prim.Native.Nat.{◌+◌, ◌*◌}
use Rattle.layouts.specs.Storing.{put}
use Rattle.layouts.proofs.Loops.{Walked}
use Rattle.builder.specs.Halving.{whole_of, vertical_line}
use Rattle.builder.proofs.halving.vertical_rows.Given as goal

abbrev pub invariant-loop-y : goal.invariant-loop-y
invariant-loop-y l = Walked (λ i d. put d (l.target.offset + i * l.pitch) (vertical_line l.filter (whole_of l.filter (2 * l.target.width)) (2 * l.target.width) l.target.height d l.base l.pitch i)) l.initial.frame l.frame l.target.height l.y
