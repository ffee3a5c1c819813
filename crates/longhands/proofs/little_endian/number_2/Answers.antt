-- `number_2` meets its contract. Assumes nothing.
use native.Mathlib.Omega.{arith}
use Rattle.longhands.proofs.Bytes.{number_of_2}
use Rattle.longhands.proofs.little_endian.number_2.Goals as goal

pub returns : goal.returns
returns c = omega (arith, c.from_le_bytes.ensures, number_of_2 c.args.bytes.now c.args.at c.requires)
