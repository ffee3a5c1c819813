-- `pair` meets its contract. The loop has made the rows passed. Assumes nothing.
use Prim.Native.Nat.{◌+◌, ◌*◌}
use Rattle.builder.specs.Refining.{pair_run}
use Rattle.builder.proofs.Runs.{Passed}
use Rattle.builder.proofs.refining.Interp.pair.Given as goal

abbrev pub invariant-loop-y : goal.invariant-loop-y
invariant-loop-y l = Passed (λ k. pair_run (l.t + k * l.self.pitch) (l.l + k * l.self.pitch) (l.r + k * l.self.pitch) l.n) l.initial.canvas l.canvas l.self.height l.y
