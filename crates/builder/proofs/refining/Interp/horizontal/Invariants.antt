-- `horizontal` meets its contract. The loop has made the rows passed. Assumes nothing.
use Prim.Native.Nat.{◌+◌, ◌*◌}
use Rattle.filters.specs.Refine.{half_horizontal}
use Rattle.layouts.specs.Storing.{put}
use Rattle.layouts.proofs.Loops.{Walked}
use Rattle.builder.specs.Canvas.{fetch}
use Rattle.builder.proofs.refining.Interp.horizontal.Given as goal

abbrev pub invariant-loop-y : goal.invariant-loop-y
invariant-loop-y l = Walked (λ k d. put d (l.t + k * l.self.pitch) (half_horizontal l.kernel l.self.width (fetch d (l.s + k * l.self.pitch) l.self.width))) l.initial.frame l.frame l.self.height l.y
