-- Both sums stay below their modulus.
use Prim.Native.Nat.{◌<◌}
use Rattle.frame_cases.proofs.put_sums.Given as goal

abbrev pub invariant-loop-x : goal.invariant-loop-x
invariant-loop-x g l = (l.a < 4294967291) × (l.b < 4294967291)
