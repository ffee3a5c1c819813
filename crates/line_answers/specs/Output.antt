-- What a program prints for its whole input: document 01, "Words read and compared", and the same for `longhand`.
use Rattle.std.specs.Prelude.{ℕ, ◌≡◌, cond, List, [], ◌∷◌, leb, length}
use Rattle.std.specs.List.{flat_map}
use Rattle.settings.specs.Answers.{written}
use Rattle.lines.specs.Limits.{most_input}
use Rattle.lines.specs.Parting.{lines_of}

-- what it prints for lines, in their order; the first argument is what it prints for a line
unfoldable pub lines_for : (List ℕ → List ℕ) → List (List ℕ) → List ℕ
lines_for line_for ls = flat_map line_for ls

-- "above that it prints only `too long`"
abbrev pub too_long : List ℕ
too_long = 116 ∷ 111 ∷ 111 ∷ 32 ∷ 108 ∷ 111 ∷ 110 ∷ 103 ∷ 10 ∷ []

-- "The program reads up to 64 KiB of lines from standard input"
abbrev pub output_of : (List ℕ → List ℕ) → List ℕ → List ℕ
output_of line_for input = cond (leb (length input) most_input) (lines_for line_for (lines_of input)) too_long

-- ---- output in a lent slice
-- t, of n bytes, stands at the front of out, which was lent; the rest is as it was
pub record Front (t lent : List ℕ) (n : ℕ) (out : List ℕ) : Type 0 where
  pub count : n ≡ length t
  pub bytes : out ≡ written t lent
