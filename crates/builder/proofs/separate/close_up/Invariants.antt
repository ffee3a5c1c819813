-- `close_up` meets its contract. The loop has closed up the rows passed. Assumes nothing.
use Prim.Native.Nat.{◌+◌, ◌*◌, ◌-◌, ◌≤◌}
use Rattle.builder.specs.Canvas.{copy_run}
use Rattle.builder.proofs.Runs.{Passed}
use Rattle.builder.proofs.separate.close_up.Given as goal

abbrev pub invariant-loop-y : goal.invariant-loop-y
invariant-loop-y l = (1 ≤ l.y) × Passed (λ i. copy_run (l.target.offset + (i + 1) * (2 * l.pitch)) (l.target.offset + (i + 1) * l.pitch) l.pitch) l.initial.canvas l.canvas (l.target.height - 1) (l.y - 1)
