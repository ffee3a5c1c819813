-- A line into fields, "parted by single spaces", and the settings that fields are: an integer, a flag, or a lone `-`.
use Rattle.std.specs.Prelude.{ℕ, ◌-◌, ◌^◌, Bool, cond, ◌&&◌, ◌||◌, List, [], ◌∷◌, leb, eqb, ◌==◌, count_by, ℤ, pos, neg_ℤ, length, get_or, Option, Some, None, is_some}
use Rattle.std.specs.List.{slice_split}
use Rattle.lines.specs.Text.{all_digits, number_of}

-- ---- fields
-- how often b stands there
abbrev pub times : ℕ → List ℕ → ℕ
times b l = count_by (λ a. a == b) l

-- "parted by single spaces"; past the last, nothing
abbrev pub field_at : List ℕ → ℕ → List ℕ
field_at l k = get_or (slice_split (λ b. b == 32) l) k []

-- ---- an integer is an optional minus sign and 1 to 10 digits, and fits i32
-- digits whose number is at most m
abbrev pub is_decimal : ℕ → List ℕ → Bool
is_decimal m l = leb 1 (length l) && leb (length l) 10 && all_digits 10 l && leb (number_of 10 0 l) m

abbrev pub plain_of : List ℕ → Option ℤ
plain_of l = cond (is_decimal (2 ^ 31 - 1) l) (Some (pos (number_of 10 0 l))) None

abbrev pub minus_of : List ℕ → Option ℤ
minus_of l = cond (is_decimal (2 ^ 31) l) (Some (neg_ℤ (pos (number_of 10 0 l)))) None

-- the integer that a field is; none where it is none
abbrev pub int_of : List ℕ → Option ℤ
int_of [] = None
int_of (b ∷ l) = cond (eqb b 45) (minus_of l) (plain_of (b ∷ l))

-- a field of the one byte b
abbrev pub is_byte : List ℕ → ℕ → Bool
is_byte l b = eqb (length l) 1 && eqb (get_or l 0 0) b

-- an integer, or a lone `-` for a setting that is absent
abbrev pub is_setting : List ℕ → Bool
is_setting l = is_some (int_of l) || is_byte l 45

-- 0, 1, or a lone `-`
abbrev pub is_flag : List ℕ → Bool
is_flag l = is_byte l 48 || is_byte l 49 || is_byte l 45

abbrev pub flag_of : List ℕ → Option Bool
flag_of l = cond (is_byte l 45) None (Some (is_byte l 49))
