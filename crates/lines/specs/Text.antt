-- Text in and out: digits, numbers, and last, inner, a line that is being made; between them document 01, "Words read and compared": the line that the program `words` prints for a line.
use Rattle.std.specs.Prelude.{ℕ, zero, suc, ◌+◌, ◌*◌, ◌-◌, ◌/◌, ◌%◌, ◌≤◌, ◌≡◌, Bool, cond, ◌&&◌, ◌||◌, List, [], ◌∷◌, ◌++◌, leb, ltb, eqb, ℤ, pos, negsuc, length, replicate, fold, Option, Some, None}
use Rattle.std.specs.List.{list_all}
use Rattle.settings.specs.declared.word.Description.{Description}
use Rattle.settings.specs.Numbers.{bit}
use Rattle.settings.specs.Answers.{read_answer}
use Rattle.lines.specs.Limits.{most_printed}

-- ---- in: "A line of 16 digits 0-9a-f"
abbrev pub is_hex : ℕ → Bool
is_hex b = (leb 48 b && leb b 57) || (leb 97 b && leb b 102)

abbrev pub hex_of : ℕ → ℕ
hex_of b = cond (leb b 57) (b - 48) (b - 87)

-- a digit of numbers to that base
abbrev pub is_digit : ℕ → ℕ → Bool
is_digit base b = is_hex b && ltb (hex_of b) base

abbrev pub all_digits : ℕ → List ℕ → Bool
all_digits base l = list_all (is_digit base) l

-- v and the digits of l after it
abbrev pub number_of : ℕ → ℕ → List ℕ → ℕ
number_of base v l = fold (λ v b. base * v + hex_of b) v l

abbrev pub hex_read : List ℕ → Option ℕ
hex_read l = cond (eqb (length l) 16 && all_digits 16 l) (Some (number_of 16 0 l)) None

-- ---- out: decimal, of at most k digits
unfoldable pub digits : ℕ → ℕ → List ℕ
digits zero n = []
digits (suc k) n = let more = digits k (n / 10) ++ ((48 + n % 10) ∷ []) in cond (ltb n 10) ((48 + n) ∷ []) more

abbrev pub decimal : ℕ → List ℕ
decimal n = digits 20 n

abbrev pub signed : ℤ → List ℕ
signed (pos n) = decimal n
signed (negsuc n) = 45 ∷ decimal (suc n)

-- "parted by single spaces"
abbrev pub spaced : List ℕ → List ℕ
spaced l = 32 ∷ l

-- "`-` for one that doesn't matter"
abbrev pub optional : Option ℤ → List ℕ
optional (Some z) = spaced (signed z)
optional None = spaced (45 ∷ [])

-- "width, height, pel, levels, gpu, full, rc, lean, down, up"
abbrev pub sizes_text : Description → List ℕ
sizes_text d =
    spaced (signed d.width)
    ++ spaced (signed d.height)
    ++ spaced (signed d.pel)
    ++ spaced (signed d.levels)
    ++ spaced (signed d.gpu)

abbrev pub flags_text : Bool → Bool → Bool → List ℕ
flags_text full rc lean = spaced (decimal (bit full)) ++ spaced (decimal (bit rc)) ++ spaced (decimal (bit lean))

abbrev pub filters_text : Description → List ℕ
filters_text d = optional d.down ++ optional d.up

unfoldable pub described : Description → List ℕ
described d = sizes_text d ++ flags_text d.full d.rc d.lean ++ filters_text d

-- "prints, parted by single spaces, itself and the number, and after 0: .."
unfoldable pub word_line : List ℕ → ℕ → List ℕ
word_line l v =
    let a = read_answer v in
    l ++ spaced (decimal a.no) ++ cond (eqb a.no 0) (described a.value) []

-- "Any other line prints `-`. Each printed line ends in a newline."
abbrev pub line_of : List ℕ → Option ℕ → List ℕ
line_of l (Some v) = word_line l v ++ (10 ∷ [])
line_of l None = 45 ∷ 10 ∷ []

abbrev pub line_out : List ℕ → List ℕ
line_out l = line_of l (hex_read l)

-- ---- inner: a line that is being made
-- the room of a line: each line that is made is shorter
abbrev pub room : ℕ
room = 256

-- the text t, and zeros in the room that is left
abbrev pub buffer_of : List ℕ → List ℕ
buffer_of t = t ++ replicate (room - length t) 0

-- r is l with the text t after it, of at most k bytes
pub record Appended (l r t : List ℕ) (k : ℕ) : Type 0 where
  pub text : r ≡ l ++ t
  pub room : length r ≤ length l + k

-- r is t, what is printed for a line of k bytes
pub record Printed (k : ℕ) (r t : List ℕ) : Type 0 where
  pub text : r ≡ t
  pub room : length r ≤ room
  pub most : length r ≤ most_printed (k + 1)
