-- `number_4` meets its contract. Assumes nothing.
use native.Mathlib.Omega.{arith}
use Rattle.longhands.proofs.Bytes.{number_of_4}
use Rattle.longhands.proofs.little_endian.number_4.Goals as goal

pub returns : goal.returns
returns c = omega (arith, c.from_le_bytes.ensures, number_of_4 c.args.bytes.now c.args.at c.requires)
