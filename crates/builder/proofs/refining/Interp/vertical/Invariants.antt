-- `vertical` meets its contract. The loop has made the rows passed. Assumes nothing.
use Prim.Native.Nat.{◌+◌, ◌*◌}
use Rattle.layouts.specs.Storing.{put}
use Rattle.layouts.proofs.Loops.{Walked}
use Rattle.builder.specs.Refining.{vertical_run}
use Rattle.builder.proofs.refining.Interp.vertical.Given as goal

abbrev pub invariant-loop-y : goal.invariant-loop-y
invariant-loop-y l = Walked (λ k d. put d (l.t + k * l.self.pitch) (vertical_run l.kernel l.self l.s k d)) l.initial.frame l.frame l.self.height l.y
