-- An input parted into lines, byte by byte and line by line. Assumes nothing.
use mathlib.Core.Path.{◌≡◌, refl, ap}
use mathlib.Core.Bool.{Bool, true, false, cond, not}
use mathlib.Core.List.{List, [], ◌∷◌}
use Prim.Native.Nat.{ℕ, suc, ◌+◌, ◌≤◌}
use native.Mathlib.Omega.{arith}
use lib.Dec.{eqb}
use lib.ListN.{length, take, drop}
use Rattle.lines.specs.Parting.{before, ahead, lines_of}

-- ---- a line more
line_first : (b : ℕ) (s : List ℕ) (t : Bool) → ahead b (lines_of s) ≡ (b ∷ take (before 10 s) s) ∷ lines_of (drop (suc (before 10 s)) s) → cond t ([] ∷ lines_of s) (ahead b (lines_of s)) ≡ take (cond (not t) (1 + before 10 s) 0) (b ∷ s) ∷ lines_of (drop (suc (cond (not t) (1 + before 10 s) 0)) (b ∷ s))
line_first b s true e = refl
line_first b s false e = let one : 1 + before 10 s ≡ suc (before 10 s) = omega arith in rw one e

pub lines_next : (s : List ℕ) → 1 ≤ length s → lines_of s ≡ take (before 10 s) s ∷ lines_of (drop (suc (before 10 s)) s)
unfolding lines_of
lines_next [] h = absurd (omega arith)
lines_next (b ∷ []) h = line_first b [] (eqb b 10) refl
lines_next (b ∷ a ∷ s) h = line_first b (a ∷ s) (eqb b 10) (ap (ahead b) (lines_next (a ∷ s) (omega arith)))
