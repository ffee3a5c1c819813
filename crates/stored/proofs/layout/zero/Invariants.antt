-- `zero` meets its contract. Assumes nothing.
use Prim.Native.Nat.{ℕ, ◌-◌}
use lib.ListN.{length}
use Rattle.filters.proofs.Filling.{Filled}
use Rattle.stored.proofs.layout.zero.Given as goal

abbrev pub invariant-loop-i : goal.invariant-loop-i
invariant-loop-i l = Filled (λ (k : ℕ). 0) l.numbers (length l.initial.numbers) l.i

abbrev pub decreases-loop-i : goal.decreases-loop-i
decreases-loop-i l = length l.initial.numbers - l.i
