-- Tests: what `&&`, `||` and `not` say, and a choice by a test; last, tests that contradict each other. Assumes nothing.
use mathlib.Core.Path.{◌≡◌, refl, sym, ap, ◌∙◌}
use mathlib.Core.Logic.{◌⊎◌, inl, inr}
use mathlib.Core.Bool.{Bool, true, false, cond, not, ◌&&◌, ◌||◌}
use Prim.Native.Nat.{ℕ, ◌≤◌}
use native.Mathlib.Omega.{arith}

pub and_left : (a b : Bool) → (a && b) ≡ true → a ≡ true
and_left true b e = refl
and_left false b e = e

pub and_right : (a b : Bool) → (a && b) ≡ true → b ≡ true
and_right true b e = e
and_right false b e = cc

pub and_no : (a : Bool) → (a && false) ≡ false
and_no true = refl
and_no false = refl

pub and_yes : (a : Bool) → (a && true) ≡ a
and_yes true = refl
and_yes false = refl

pub and_off : (a b : Bool) → (a && b) ≡ false → (a ≡ false) ⊎ (b ≡ false)
and_off true b e = inr e
and_off false b e = inl refl

pub or_yes : (a : Bool) → (a || true) ≡ true
or_yes true = refl
or_yes false = refl

pub or_none : (a : Bool) → (a || false) ≡ true → a ≡ true
or_none true e = refl
or_none false e = e

pub or_cases : (a b : Bool) → (a || b) ≡ true → (a ≡ true) ⊎ (b ≡ true)
or_cases true b e = inl refl
or_cases false b e = inr e

pub or_right : (a b : Bool) → a ≡ false → (a || b) ≡ true → b ≡ true
or_right true b e f = cc
or_right false b e f = f

pub or_false_left : (a b : Bool) → (a || b) ≡ false → a ≡ false
or_false_left true b e = e
or_false_left false b e = refl

pub or_false_right : (a b : Bool) → (a || b) ≡ false → b ≡ false
or_false_right true b e = cc
or_false_right false b e = e

pub not_not : (t : Bool) → not (not t) ≡ t
not_not true = refl
not_not false = refl

pub not_known : (a b : Bool) → not a ≡ not b → a ≡ b
not_known a b e = sym (not_not a) ∙ ap not e ∙ not_not b

pub cond_not : {A : Type 0} (t : Bool) (a b : A) → cond (not t) a b ≡ cond t b a
cond_not true a b = refl
cond_not false a b = refl

pub cond_le : (t : Bool) (a n : ℕ) → a ≤ n → cond t a 0 ≤ n
cond_le true a n h = h
cond_le false a n h = omega arith

-- ---- contradictions
pub yes_no : true ≡ false → ⊥
yes_no e = let z : ◌≡◌ {A = ℕ} 0 1 = cc in omega arith

pub clash : (t : Bool) → t ≡ true → t ≡ false → ⊥
clash t p q = yes_no (sym p ∙ q)

pub false_by : (t : Bool) → (t ≡ true → ⊥) → t ≡ false
false_by true h = absurd (h refl)
false_by false h = refl

pub true_by : (t : Bool) → (t ≡ false → ⊥) → t ≡ true
true_by true h = refl
true_by false h = absurd (h refl)
