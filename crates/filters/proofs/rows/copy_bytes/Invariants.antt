-- `copy_bytes` meets its contract. Assumes nothing.
use Prim.Native.Nat.{ℕ}
use lib.ListN.{length, get_or}
use Rattle.filters.proofs.Filling.{Filled}
use Rattle.filters.proofs.rows.copy_bytes.Given as goal

abbrev pub invariant-loop-i : goal.invariant-loop-i
invariant-loop-i l = Filled (λ (k : ℕ). get_or l.row k 0) l.out (length l.out) l.i
