use native.Mathlib.Omega.{arith}
use Rattle.lines.proofs.Lines.{counts_fit}
use Rattle.lines.proofs.text.number_of.Goals as goal

pub overflow_mul-v : goal.overflow_mul-v
overflow_mul-v c = let l = c.loop-b in omega (arith, counts_fit c.args.base l.v l.b-index 0 c.requires.0 l.invariant.1 (omega arith) (omega (arith, c.requires.1)))

pub overflow_add-v : goal.overflow_add-v
overflow_add-v c = let l = c.loop-b in omega (arith, counts_fit c.args.base l.v l.b-index c.hex_of.result c.requires.0 l.invariant.1 c.hex_of.ensures.1 (omega (arith, c.requires.1)))
