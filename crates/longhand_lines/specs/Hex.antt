-- Bytes as hexadecimal digits, two for each.
use Rattle.std.specs.Prelude.{ℕ, zero, suc, ◌+◌, ◌*◌, ◌/◌, ◌%◌, cond, List, [], ◌∷◌, ◌++◌, ltb}
use Rattle.std.specs.List.{flat_map}
use Rattle.lines.specs.Text.{hex_of}

-- ---- in: the bytes that digits spell
unfoldable pub bytes_of : List ℕ → List ℕ
bytes_of [] = []
bytes_of (a ∷ []) = []
bytes_of (a ∷ b ∷ l) = (16 * hex_of a + hex_of b) ∷ bytes_of l

-- ---- out: hexadecimal, the last k digits of n; and two for each byte
abbrev pub hex_digit : ℕ → ℕ
hex_digit d = cond (ltb d 10) (48 + d) (87 + d)

unfoldable pub hex_digits : ℕ → ℕ → List ℕ
hex_digits zero n = []
hex_digits (suc k) n = hex_digits k (n / 16) ++ (hex_digit (n % 16) ∷ [])

abbrev pub hex_text : List ℕ → List ℕ
hex_text l = flat_map (hex_digits 2) l
