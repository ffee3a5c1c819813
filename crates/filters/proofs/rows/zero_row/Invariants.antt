-- `zero_row` meets its contract. Assumes nothing.
use Prim.Native.Nat.{ℕ}
use lib.ListN.{length}
use Rattle.filters.proofs.Filling.{Filled}
use Rattle.filters.proofs.rows.zero_row.Given as goal

abbrev pub invariant-loop-i : goal.invariant-loop-i
invariant-loop-i l = Filled (λ (k : ℕ). 0) l.out (length l.out) l.i
