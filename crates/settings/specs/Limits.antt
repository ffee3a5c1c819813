-- The limits of document 01, each named once. src/limits.rt has the same numbers for the code.
use Rattle.std.specs.Prelude.{ℕ}

-- number 5: "width or height outside 1 to 16,384"
abbrev pub most_side : ℕ
most_side = 16384

-- numbers 8 and 9: "above 32,768"
abbrev pub most_pitch : ℕ
most_pitch = 32768

-- the levels that an accepted record can have: those of a square of the largest side
abbrev pub most_levels : ℕ
most_levels = 13

-- number 14: "more than 63 levels", the largest count that six bits hold
abbrev pub most_packed : ℕ
most_packed = 63
