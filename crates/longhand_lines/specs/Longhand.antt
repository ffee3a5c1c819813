-- The lines of the program `longhand`: a longhand record in hexadecimal, which is read, and settings, which are written as one.
use Rattle.std.specs.Prelude.{ℕ, ◌+◌, ◌-◌, ◌%◌, min, Bool, cond, ◌&&◌, ◌||◌, List, [], ◌∷◌, ◌++◌, leb, eqb, ℤ, pos, length, replicate, is_some, unwrap_or}
use Rattle.settings.specs.declared.super_opts.Settings.{Settings}
use Rattle.settings.specs.declared.super_opts.SuperOpts.{SuperOpts}
use Rattle.settings.specs.Answers.{Answer, check_answer, pack_answer}
use Rattle.longhands.specs.declared.longhand.Longhand.{Longhand}
use Rattle.longhands.specs.Longhand.{kind1_bytes, longhand_answer, write_answer}
use Rattle.lines.specs.Limits.{most_input, most_printed}
use Rattle.lines.specs.Text.{all_digits, decimal, signed, spaced, flags_text}
use Rattle.longhand_lines.specs.Fields.{times, field_at, int_of, is_setting, is_flag, flag_of}
use Rattle.longhand_lines.specs.Hex.{bytes_of, hex_digits, hex_text}

-- ---- in: a record, two digits for each byte; no line is longer than the input
abbrev pub is_record : List ℕ → Bool
is_record l = leb 2 (length l) && leb (length l) most_input && eqb (length l % 2) 0 && all_digits 16 l

-- ---- in: nine settings, width, height, pel, gpu, full, rc, lean, down and up
abbrev pub are_sizes : List ℕ → Bool
are_sizes l = is_some (int_of (field_at l 0)) && is_some (int_of (field_at l 1))

abbrev pub are_numbers : List ℕ → Bool
are_numbers l = is_setting (field_at l 2) && is_setting (field_at l 3) && is_setting (field_at l 7) && is_setting (field_at l 8)

abbrev pub are_flags : List ℕ → Bool
are_flags l = is_flag (field_at l 4) && is_flag (field_at l 5) && is_flag (field_at l 6)

unfoldable pub is_asked : List ℕ → Bool
is_asked l = eqb (times 32 l) 8 && are_sizes l && are_numbers l && are_flags l

abbrev pub asked_side : List ℕ → ℕ → ℤ
asked_side l k = unwrap_or (int_of (field_at l k)) (pos 0)

unfoldable pub asked_settings : List ℕ → Settings
asked_settings l =
    record {
      pel = int_of (field_at l 2);
      gpu = int_of (field_at l 3);
      down = int_of (field_at l 7);
      up = int_of (field_at l 8);
      full = flag_of (field_at l 4);
      rc = flag_of (field_at l 5);
      lean = flag_of (field_at l 6);
    }

-- ---- out: settings in that order, and the record's word
unfoldable pub opts_text : SuperOpts → List ℕ
opts_text r =
    spaced (signed r.width)
    ++ spaced (signed r.height)
    ++ spaced (signed r.pel)
    ++ spaced (signed r.gpu)
    ++ flags_text r.full r.rc r.lean
    ++ spaced (signed r.scale_down)
    ++ spaced (signed r.scale_up)

abbrev pub packed_word : SuperOpts → ℕ
packed_word r = (pack_answer r).value

abbrev pub word_text : SuperOpts → List ℕ
word_text r = spaced (hex_digits 16 (packed_word r))

-- ---- out: what reading a record tells, "a kind it doesn't know" with the place after it
unfoldable pub read_text : Answer Longhand → List ℕ
read_text a =
    decimal a.no
    ++ cond (eqb a.no 0 || eqb a.no 16) (spaced (decimal a.value.after)) []
    ++ cond (eqb a.no 0) (opts_text a.value.opts ++ word_text a.value.opts) []

-- inner: its bytes, at most
abbrev pub read_most : Answer Longhand → ℕ
read_most a = cond (eqb a.no 0) 253 41

-- ---- out: the record of settings, or why there is none
unfoldable pub written_text : Answer (List ℕ) → List ℕ
written_text a = decimal a.no ++ cond (eqb a.no 0) (spaced (hex_text a.value)) []

-- into as many bytes as a record takes
unfoldable pub checked_text : Answer SuperOpts → List ℕ
checked_text a = cond (eqb a.no 0) (written_text (write_answer a.value (replicate kind1_bytes 0))) (decimal a.no)

abbrev pub asked_answer : List ℕ → Answer SuperOpts
asked_answer l = check_answer (asked_settings l) (asked_side l 0) (asked_side l 1)

-- ---- the line; `-` for any other
unfoldable pub answer_text : List ℕ → List ℕ
answer_text l = cond (is_record l) (read_text (longhand_answer (bytes_of l))) (cond (is_asked l) (checked_text (asked_answer l)) (45 ∷ []))

-- inner: its bytes, at most, for a line of k: a newline after them has room too
abbrev pub text_most : ℕ → ℕ
text_most k = min 253 (most_printed (k + 1) - 1)

abbrev pub longhand_line : List ℕ → List ℕ
longhand_line l = answer_text l ++ (10 ∷ [])
