-- `spill_need` meets its contract. Assumes nothing.
use native.Mathlib.Omega.{arith}
use Rattle.settings.specs.Limits.{most_side, most_pitch}
use Rattle.settings.proofs.Heights.{prod_le}
use Rattle.layouts.proofs.Layouts.{allowed, height_le}
use Rattle.layouts.proofs.fitting.Fitting.spill_need.Goals as goal

pub overflow_mul-result : goal.overflow_mul-result
overflow_mul-result c =
    let q = c.args.self.layout in
    let a = allowed q c.args.self.fits in
    rw c.height.ensures (omega (arith, prod_le most_side most_pitch (height_le q a 1) a.most))
