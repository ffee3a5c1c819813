-- `reduce_cubic` meets its contract. The loop has stored the rows passed. Assumes nothing.
use Prim.Native.Nat.{◌+◌, ◌*◌}
use Rattle.filters.specs.declared.halving.ReduceFilter.TheVariants.{Cubic}
use Rattle.layouts.specs.Storing.{put}
use Rattle.layouts.proofs.Loops.{Walked}
use Rattle.builder.specs.Halving.{vertical_line, fused_line}
use Rattle.builder.proofs.halving.reduce_cubic.Given as goal

abbrev pub invariant-loop-y : goal.invariant-loop-y
invariant-loop-y l = Walked (λ i d. put d (l.target.offset + i * l.pitch) (fused_line l.pitch l.target.width (vertical_line Cubic (2 * l.target.width) (2 * l.target.width) l.target.height d l.base l.pitch i))) l.initial.frame l.frame l.target.height l.y
