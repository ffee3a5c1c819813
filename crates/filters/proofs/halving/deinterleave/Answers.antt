-- `deinterleave` meets its contract. Assumes nothing.
use native.Mathlib.Omega.{arith}
use Rattle.filters.proofs.Pairs.{apart_headed}
use Rattle.filters.proofs.halving.deinterleave.Goals as goal

pub returns : goal.returns
returns c = apart_headed c.take_apart.ensures (omega arith) c.mean.ensures
