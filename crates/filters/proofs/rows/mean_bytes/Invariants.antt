-- `mean_bytes` meets its contract. Assumes nothing.
use Prim.Native.Nat.{ℕ}
use lib.ListN.{length, get_or}
use Rattle.filters.proofs.Filling.{Filled}
use Rattle.filters.specs.Row.{mean_of}
use Rattle.filters.proofs.rows.mean_bytes.Given as goal

abbrev pub invariant-loop-i : goal.invariant-loop-i
invariant-loop-i l = Filled (λ (k : ℕ). mean_of (get_or l.a k 0) (get_or l.b k 0)) l.out (length l.out) l.i
