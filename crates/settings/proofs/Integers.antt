-- A signed local holds bits. What a test on them says of the integer; and two's complement. Assumes nothing.
use mathlib.Core.Path.{◌≡◌, refl, sym, ap, ◌∙◌}
use mathlib.Core.Bool.{Bool, true, false, cond}
use Prim.Native.Nat.{ℕ, ◌-◌, ◌<◌, ◌^◌}
use native.Mathlib.Omega.{arith}
use lib.Dec.{T, eqb, ltb}
use lib.IntN.{ℤ, pos, negsuc, nat_abs}
use lib.Signed.{lt_z, non_neg}
use borrow.Author.Tests.{eq-eqb, ne_eqb, eqb-true, eqb-false, ltb-true, ltb-false, lt-ltb, le-ltb}
use mir.Syntax.{w32}
use mir.Val.{Fits, SFits, of_z, to_z}
use mir.Facts.{to_z-of_z, to_z_pos}
use Rattle.settings.specs.Numbers.{is_nat, to_nat, is_i32, bits_of, of_bits}
use Rattle.settings.proofs.Tests.{yes_no}

-- the integer that the bits of z are: z
pub same : (z : ℤ) → SFits w32 z → to_z w32 (of_z w32 z) ≡ z
same z fit = to_z-of_z fit

-- the bits of z are the number n: z is n
pub is_pos : (z : ℤ) (n : ℕ) → SFits w32 z → of_z w32 z ≡ n → n < 2 ^ 31 → z ≡ pos n
is_pos z n fit e lt = sym (to_z-of_z fit) ∙ ap (to_z w32) e ∙ to_z_pos w32 lt

pub is_nat_lem : (z : ℤ) (n : ℕ) → SFits w32 z → of_z w32 z ≡ n → n < 2 ^ 31 → is_nat z n ≡ true
is_nat_lem z n fit e lt = ap (λ (x : ℤ). is_nat x n) (is_pos z n fit e lt) ∙ eq-eqb n n refl

pub is_not : (z : ℤ) (n : ℕ) → (of_z w32 z ≡ n → ⊥) → is_nat z n ≡ false
is_not (pos a) n h = ne_eqb a n h
is_not (negsuc a) n h = refl

is_go : (z : ℤ) (n : ℕ) (t : Bool) → SFits w32 z → n < 2 ^ 31 → eqb (of_z w32 z) n ≡ t → t ≡ is_nat z n
is_go z n true fit lt e = sym (is_nat_lem z n fit (eqb-true (of_z w32 z) n e) lt)
is_go z n false fit lt e = sym (is_not z n (eqb-false (of_z w32 z) n e))

-- a test on the bits is a test of the integer
pub is_by_bits : (z : ℤ) (n : ℕ) → SFits w32 z → n < 2 ^ 31 → eqb (of_z w32 z) n ≡ is_nat z n
is_by_bits z n fit lt = is_go z n (eqb (of_z w32 z) n) fit lt refl

-- ---- an integer as a number
-- what `natural` gives of a field
pub counts : (z : ℤ) (n : ℕ) → SFits w32 z → n ≡ to_nat (to_z w32 (of_z w32 z)) → n ≡ to_nat z
counts z n fit e = e ∙ ap to_nat (same z fit)

pub never : (n : ℕ) → n < 0 → ⊥
never n h = omega arith

pub below : (z : ℤ) → lt_z z (pos 0) ≡ true → 0 ≡ to_nat z
below (pos n) e = absurd (never n (ltb-true n 0 e))
below (negsuc n) e = refl

pub casts : (z : ℤ) → SFits w32 z → lt_z z (pos 0) ≡ false → T (non_neg z) × Fits w32 (nat_abs z)
casts (pos n) fit e = (tt, record { fits = omega (arith, fit.sfits) })
casts (negsuc n) fit e = absurd (yes_no e)

pub kept : (z : ℤ) → lt_z z (pos 0) ≡ false → nat_abs z ≡ to_nat z
kept (pos n) e = refl
kept (negsuc n) e = cc

-- ---- two's complement, there and back
pub of_bits_back : (z : ℤ) → is_i32 z ≡ true → of_bits (bits_of z) ≡ z
of_bits_back (pos n) e = rw e
of_bits_back (negsuc n) e =
    let small = ltb-true n (2 ^ 31) e in
    rw (le-ltb (2 ^ 32 - 1 - n) (2 ^ 31) (omega arith)) (ap negsuc (omega arith))

bits_go : (n : ℕ) (t : Bool) → ltb n (2 ^ 31) ≡ t → n < 2 ^ 32 → (bits_of (cond t (pos n) (negsuc (2 ^ 32 - 1 - n))) ≡ n) × (is_i32 (cond t (pos n) (negsuc (2 ^ 32 - 1 - n))) ≡ true)
bits_go n true e h = (refl, e)
bits_go n false e h = let high = ltb-false n (2 ^ 31) e in (omega arith, lt-ltb (2 ^ 32 - 1 - n) (2 ^ 31) (omega arith))

pub bits_back : (n : ℕ) → n < 2 ^ 32 → bits_of (of_bits n) ≡ n
bits_back n h = (bits_go n (ltb n (2 ^ 31)) refl h).0

pub of_bits_fit : (n : ℕ) → n < 2 ^ 32 → is_i32 (of_bits n) ≡ true
of_bits_fit n h = (bits_go n (ltb n (2 ^ 31)) refl h).1

pub bits_small : (z : ℤ) → is_i32 z ≡ true → bits_of z < 2 ^ 32
bits_small (pos n) e = omega (arith, ltb-true n (2 ^ 31) e)
bits_small (negsuc n) e = omega arith
