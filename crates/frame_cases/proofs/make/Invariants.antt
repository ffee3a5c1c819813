-- The number that makes the next byte stays below the modulus.
use Prim.Native.Nat.{◌<◌}
use Rattle.frame_cases.proofs.make.Given as goal

abbrev pub invariant-loop-b : goal.invariant-loop-b
invariant-loop-b l = l.x < 2147483647
