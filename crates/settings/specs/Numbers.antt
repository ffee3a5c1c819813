-- Integers that are settings, bits, sums, and the order of refusals.
use Rattle.std.specs.Prelude.{ℕ, zero, suc, ◌+◌, ◌-◌, ◌^◌, Bool, true, false, cond, eqb, ltb, ℤ, pos, negsuc}

-- an integer is the number n
abbrev pub is_nat : ℤ → ℕ → Bool
is_nat (pos a) n = eqb a n
is_nat (negsuc a) n = false

-- the number that an integer is; 0 below 0
abbrev pub to_nat : ℤ → ℕ
to_nat (pos a) = a
to_nat (negsuc a) = 0

-- an integer is an i32
abbrev pub is_i32 : ℤ → Bool
is_i32 (pos n) = ltb n (2 ^ 31)
is_i32 (negsuc n) = ltb n (2 ^ 31)

-- two's complement at 32 bits: the bits of an integer, and the integer of bits
abbrev pub bits_of : ℤ → ℕ
bits_of (pos n) = n
bits_of (negsuc n) = 2 ^ 32 - 1 - n

abbrev pub of_bits : ℕ → ℤ
of_bits n = cond (ltb n (2 ^ 31)) (pos n) (negsuc (2 ^ 32 - 1 - n))

abbrev pub bit : Bool → ℕ
bit true = 1
bit false = 0

-- "The lowest number that applies is given, and none other": 0 is none
abbrev pub refuse : Bool → ℕ → ℕ
refuse true n = n
refuse false n = 0

infixl 20 ◌then◌
abbrev pub ◌then◌ : ℕ → ℕ → ℕ
zero then n = n
suc m then n = suc m

-- f 0 + f 1 + .. + f (n - 1)
unfoldable pub total : (ℕ → ℕ) → ℕ → ℕ
total f zero = 0
total f (suc n) = total f n + f n
