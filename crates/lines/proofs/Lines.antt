-- Text: putting one text after another, and the bound of a number whose digits are read. Assumes nothing.
use mathlib.Core.Path.{◌≡◌, refl, ap, ◌∙◌, subst}
use mathlib.Core.List.{List, [], ◌∷◌, ◌++◌, append_assoc}
use Prim.Native.Nat.{ℕ, zero, suc, ◌+◌, ◌*◌, ◌-◌, ◌/◌, ◌%◌, ◌≤◌, ◌<◌, ◌^◌}
use native.Mathlib.Nat.{pow-suc, pow-le-pow_right, mul-le-mul_right}
use native.Mathlib.Numerals.{add-one, sub-one}
use native.Mathlib.Omega.{arith}
use lib.IntN.{ℤ}
use mir.Syntax.{w32}
use mir.Val.{SFits, of_z, to_z}
use borrow.Author.Tests.{le-ltb}
use Rattle.lines.specs.Text.{digits, signed, spaced, Appended}
use Rattle.settings.proofs.Integers.{same}

-- ---- one text after another
infixr 20 ◌after◌
pub ◌after◌ : {l m r s t : List ℕ} {j k : ℕ} → Appended m r t k → Appended l m s j → Appended l r (s ++ t) (j + k)
◌after◌ {l} {m} {r} {s} {t} q p = record { text = q.text ∙ ap (λ (x : List ℕ). x ++ t) p.text ∙ append_assoc l s t; room = omega (arith, p.room, q.room) }

pub said : {l r s t : List ℕ} {k : ℕ} → s ≡ t → Appended l r s k → Appended l r t k
said {l} {r} {s} {t} {k} e p = subst (λ (x : List ℕ). Appended l r x k) e p

-- the text of an integer that was handed on by its bits
pub int_said : {l r : List ℕ} {k : ℕ} (z : ℤ) → SFits w32 z → Appended l r (spaced (signed (to_z w32 (of_z w32 z)))) k → Appended l r (spaced (signed z)) k
int_said z fit = said (ap (λ (y : ℤ). spaced (signed y)) (same z fit))

-- ---- decimal digits, the last one apart
pub more : (k n : ℕ) → 1 ≤ k → 10 ≤ n → digits k n ≡ digits (k - 1) (n / 10) ++ ((48 + n % 10) ∷ [])
unfolding digits
more zero n some h = absurd (omega arith)
more (suc k) n some h = rw (le-ltb n 10 h, sub-one (suc k)) refl

-- what is left of a number of 16 digits at most is small
module _ (base v i d : ℕ) (low : base ≤ 16) (small : v < 16 ^ i) (few : d < 16) where
  grown : base * v + d < 16 ^ (i + 1)
  grown = rw (add-one i) (omega (arith, mul-le-mul_right v low, pow-suc 16 i))

  pub counts_fit : i < 16 → base * v + d < 2 ^ 64
  counts_fit h = omega (arith, grown, pow-le-pow_right {n = 16} (omega arith) {i = i + 1} {j = 16} (omega arith))
