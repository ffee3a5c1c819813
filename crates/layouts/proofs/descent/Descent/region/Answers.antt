-- `region` meets its contract. Assumes nothing.
use native.Mathlib.Omega.{arith}
use Rattle.layouts.proofs.Layouts.{allowed}
use Rattle.layouts.proofs.descent.Descent.region.Goals as goal

pub overflow_shr-result : goal.overflow_shr-result
overflow_shr-result c = omega (arith, (allowed c.args.self.layout c.requires).x)

pub overflow_shr-result-2 : goal.overflow_shr-result-2
overflow_shr-result-2 c = omega (arith, (allowed c.args.self.layout c.requires).y)
