-- A run stored in a list of bytes, steps in order, and where a part of a lent slice lies.
use Rattle.std.specs.Prelude.{ℕ, zero, suc, ◌+◌, ◌-◌, List, ◌++◌, take, drop, length, replicate}
use Rattle.std.specs.Borrow.{Bor, MutBor}

-- c with the run ys stored at at; where c ends before at, zeros lie between, as reading there gave
unfoldable pub put : List ℕ → ℕ → List ℕ → List ℕ
put c at ys = take at c ++ (replicate (at - length c) 0 ++ (ys ++ drop (length ys) (drop at c)))

-- step 0, step 1 .. step (n - 1), one after the other
unfoldable pub steps : (ℕ → List ℕ → List ℕ) → ℕ → List ℕ → List ℕ
steps step zero c = c
steps step (suc n) c = step n (steps step n c)

-- the place in memory of the part of s from its byte `at` on: a part that lies there is s's own bytes and no copy
abbrev pub part_at : Bor (List ℕ) → ℕ → ℕ × ℕ
part_at s at = (s.ref_ptr.0, at + s.ref_ptr.1)

-- the same of a slice that is lent to be written
abbrev pub part_at_mut : MutBor (List ℕ) → ℕ → ℕ × ℕ
part_at_mut s at = (s.ref_ptr.0, at + s.ref_ptr.1)
