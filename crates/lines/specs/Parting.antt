-- An input parted into lines.
use Rattle.std.specs.Prelude.{ℕ, cond, List, [], ◌∷◌, ◌==◌, eqb}
use Rattle.std.specs.List.{position_or_len}

-- how many bytes stand before the first b; all of them where there is none
abbrev pub before : ℕ → List ℕ → ℕ
before b l = position_or_len (λ a. a == b) l

-- b in front of the first line
abbrev pub ahead : ℕ → List (List ℕ) → List (List ℕ)
ahead b [] = (b ∷ []) ∷ []
ahead b (l ∷ ls) = (b ∷ l) ∷ ls

-- the lines of an input, their newlines left out: "A last line may lack its newline"; after a newline there is a further line only if there is a further byte
unfoldable pub lines_of : List ℕ → List (List ℕ)
lines_of [] = []
lines_of (b ∷ s) = cond (eqb b 10) ([] ∷ lines_of s) (ahead b (lines_of s))
