-- `horizontal_rows` meets its contract. The loop has halved the rows passed. Assumes nothing.
use Prim.Native.Nat.{◌+◌, ◌*◌}
use Rattle.layouts.proofs.Loops.{Walked}
use Rattle.builder.specs.Halving.{halve_run}
use Rattle.builder.proofs.halving.horizontal_rows.Given as goal

abbrev pub invariant-loop-y : goal.invariant-loop-y
invariant-loop-y l = Walked (λ i. halve_run l.filter l.target.width (l.target.offset + i * l.pitch)) l.initial.frame l.frame l.target.height l.y
