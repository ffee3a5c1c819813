-- `kernel_planes` meets its contract. Assumes nothing.
use native.Mathlib.Omega.{arith}
use Rattle.builder.proofs.Refined.{horizontal_fits}
use Rattle.builder.proofs.refining.Interp.kernel_planes.Goals as goal

pub horizontal-requires : goal.horizontal-requires
horizontal-requires c = let at = c.args.at in horizontal_fits c.requires at.horizontal _ 0 0 (omega (arith, at.ordered)) c.plane-across.ensures (omega arith) (omega arith)
