-- A row of refusals that gives none: each of its tests is false. Assumes nothing.
use mathlib.Core.Path.{◌≡◌, refl}
use mathlib.Core.Bool.{Bool, true, false}
use Prim.Native.Nat.{ℕ, zero, suc}
use native.Mathlib.Omega.{arith}
use Rattle.settings.specs.Numbers.{refuse, ◌then◌}

pub then_first : (m n : ℕ) → (m then n) ≡ 0 → m ≡ 0
then_first zero n e = refl
then_first (suc m) n e = e

pub then_rest : (m n : ℕ) → (m then n) ≡ 0 → n ≡ 0
then_rest zero n e = e
then_rest (suc m) n e = absurd (omega arith)

pub refuse_not : (t : Bool) (k : ℕ) → refuse t (suc k) ≡ 0 → t ≡ false
refuse_not true k e = absurd (omega arith)
refuse_not false k e = refl
