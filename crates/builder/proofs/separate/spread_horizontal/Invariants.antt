-- `spread_horizontal` meets its contract. The loop has halved the rows passed. Assumes nothing.
use Prim.Native.Nat.{◌+◌, ◌*◌}
use Rattle.builder.specs.Halving.{halve_run}
use Rattle.builder.proofs.Runs.{Passed}
use Rattle.builder.proofs.separate.spread_horizontal.Given as goal

abbrev pub invariant-loop-y : goal.invariant-loop-y
invariant-loop-y l = Passed (λ i. halve_run l.filter l.target.width (l.target.offset + i * (2 * l.pitch))) l.initial.canvas l.canvas l.target.height l.y
