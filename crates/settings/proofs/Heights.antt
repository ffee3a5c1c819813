-- Super heights: sums of reduced heights, and that a height fits. Assumes nothing.
use Rattle.std.specs.Int.{div_ceil}
use Rattle.std.proofs.Math.Nat.{div-eq_of_lt-le}
use Rattle.std.proofs.lemmas.Grind.{div_ceil_times}
use mathlib.Core.Path.{◌≡◌, refl, sym, ap, ◌∙◌}
use Prim.Native.Nat.{ℕ, zero, suc, ◌+◌, ◌*◌, ◌-◌, ◌≤◌}
use native.Mathlib.Nat.{le_trans, mul-le-mul_left, mul-le-mul_right, suc-mul, div-le_self}
use native.Mathlib.Numerals.{add-one}
use native.Mathlib.Omega.{arith}
use Rattle.settings.specs.Limits.{most_side, most_levels}
use Rattle.settings.specs.Numbers.{total}
use Rattle.settings.specs.Sizes.{reduce, reduced}
use Rattle.settings.specs.Check.{upward}
use Rattle.settings.proofs.Levels.{reduced_next}

-- a product is bounded by the product of the bounds
pub prod_le : {a b : ℕ} (A B : ℕ) → a ≤ A → b ≤ B → a * b ≤ A * B
prod_le {a} {b} A B p q = le_trans (mul-le-mul_right b p) (mul-le-mul_left A q)

pub reduced_le : (d n : ℕ) → reduced d n ≤ d
unfolding reduced
reduced_le d zero = omega arith
reduced_le d (suc n) = omega (arith, reduced_le d n)

-- ---- a sum
pub total_le : (f : ℕ → ℕ) (b n : ℕ) → ((i : ℕ) → f i ≤ b) → total f n ≤ n * b
unfolding total
total_le f b zero h = omega arith
total_le f b (suc n) h = omega (arith, total_le f b n h, h n, suc-mul n b)

pub total_suc : (f : ℕ → ℕ) (n : ℕ) → total f (suc n) ≡ total f n + f n
unfolding total
total_suc f n = refl

-- the heights of levels 1 to n
abbrev pub heights : ℕ → ℕ → ℕ
heights h n = total (λ i. reduced h (i + 1)) n

pub heights_le : (h n : ℕ) → heights h n ≤ n * h
heights_le h n = total_le (λ i. reduced h (i + 1)) h n (λ i. reduced_le h (i + 1))

-- one level more, its height reduced from the one before
pub heights_next : (h n : ℕ) → heights h (n + 1) ≡ heights h n + reduce (reduced h n)
heights_next h n = ap (heights h) (add-one n) ∙ total_suc (λ i. reduced h (i + 1)) n ∙ ap (λ (k : ℕ). heights h n + k) (reduced_next h n)

-- ---- heights fit
pub square_le : (pel h : ℕ) → pel ≤ 4 → h ≤ most_side → pel * pel * h ≤ 16 * most_side
square_le pel h p q = prod_le 16 most_side (prod_le 4 4 p p) q

pub heights_small : (h n : ℕ) → h ≤ most_side → n ≤ most_levels → heights h n ≤ most_levels * most_side
heights_small h n p q = le_trans (heights_le h n) (prod_le most_levels most_side q p)

pub upward_le : (n d : ℕ) → upward n d ≤ n + d - 1
upward_le n d = div-le_self (n + d - 1) d

-- the library's quotient rounded up
pub upward_ceil : (n d : ℕ) → 1 ≤ d → div_ceil n d ≡ upward n d
upward_ceil n d h = let b = div_ceil_times n d h in let c = div_ceil n d in sym (div-eq_of_lt-le {k = c} d {m = n + d - 1} (omega (arith, b.0, b.1)) (omega (arith, suc-mul c d, b.0, b.1)))

pub area_small : (w h : ℕ) → w ≤ most_side → h ≤ most_side → w * h ≤ most_side * most_side
area_small w h p q = prod_le most_side most_side p q
