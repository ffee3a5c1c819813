-- `scratch_need` meets its contract. Assumes nothing.
use native.Mathlib.Omega.{arith}
use Rattle.layouts.proofs.Layouts.{allowed}
use Rattle.layouts.proofs.fitting.Fitting.scratch_need.Goals as goal

pub overflow_add-result : goal.overflow_add-result
overflow_add-result c = omega (arith, (allowed c.args.self.layout c.args.self.fits).most)

pub overflow_mul-result : goal.overflow_mul-result
overflow_mul-result c = omega (arith, (allowed c.args.self.layout c.args.self.fits).most)
