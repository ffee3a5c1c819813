-- Document 02, order 1: "all numbers little-endian".
use Rattle.std.specs.Prelude.{ℕ, zero, suc, ◌+◌, ◌*◌, ◌/◌, ◌%◌, Bool, true, ◌&&◌, List, [], ◌∷◌, ltb, take, drop}

-- each is a byte
abbrev pub bytes : List ℕ → Bool
bytes [] = true
bytes (b ∷ l) = ltb b 256 && bytes l

-- k bytes of n, the lowest first
unfoldable pub little_endian : ℕ → ℕ → List ℕ
little_endian zero n = []
little_endian (suc k) n = n % 256 ∷ little_endian k (n / 256)

-- the number that bytes are
unfoldable pub value_of : List ℕ → ℕ
value_of [] = 0
value_of (b ∷ l) = b + 256 * value_of l

-- the number that k bytes of l are, from place i on
abbrev pub number_at : List ℕ → ℕ → ℕ → ℕ
number_at l i k = value_of (take k (drop i l))
