-- Tests: two numbers are ordered, what `&&` and `||` say, and a place that is counted from the end. Assumes nothing.
use mathlib.Core.Path.{◌≡◌, refl}
use mathlib.Core.Bool.{Bool, true, false, ◌&&◌, ◌||◌}
use mathlib.Core.Logic.{◌⊎◌, inl, inr, ⊎_elim}
use Prim.Native.Nat.{ℕ, ◌+◌, ◌-◌, ◌≤◌, ◌<◌}
use native.Mathlib.Omega.{arith}
use lib.Dec.{ltb, leb}
use borrow.Author.Tests.{ltb-true, ltb-false, le-leb, lt-leb}

below_go : (a b : ℕ) (t : Bool) → ltb a b ≡ t → (a < b) ⊎ (b ≤ a)
below_go a b true e = inl (ltb-true a b e)
below_go a b false e = inr (ltb-false a b e)

pub below_or : (a b : ℕ) → (a < b) ⊎ (b ≤ a)
below_or a b = below_go a b (ltb a b) refl

pub and_no : (t : Bool) → (t && false) ≡ false
and_no true = refl
and_no false = refl

pub or_yes : (t : Bool) → (t || true) ≡ true
or_yes true = refl
or_yes false = refl

-- place y of h, counted from the end
pub near_end : (y h t : ℕ) → leb (h - y) t ≡ leb h (y + t)
near_end y h t =
    ⊎_elim
    (λ (lt : y + t < h). rw (lt-leb (h - y) t (omega arith), lt-leb h (y + t) lt))
    (λ (le : h ≤ y + t). rw (le-leb (h - y) t (omega arith), le-leb h (y + t) le))
    (below_or (y + t) h)
