-- Document 02, order 1: the longhand record. First its frame: "length (4 bytes, counting what follows), kind (2 bytes, ..)", then a body; then the kinds that are known; last the number and value of reading and of writing.
-- A further kind adds a case to `is_known`, `kind_length`, `is_body` and `record_in`, and a body of its own beside Kind1.
use Rattle.std.specs.Prelude.{ℕ, ◌+◌, ◌-◌, ◌≡◌, Bool, true, false, cond, not, ◌||◌, List, ◌++◌, eqb, ltb, length, take, drop, Result, Ok, Err}
use Rattle.settings.specs.declared.super_opts.SuperOpts.{SuperOpts}
use Rattle.settings.specs.Numbers.{is_i32, refuse, ◌then◌}
use Rattle.settings.specs.Check.{accepted, record_no}
use Rattle.settings.specs.Answers.{Answer, answer, if_done, number, no_record, written}
use Rattle.longhands.specs.declared.longhand.Longhand.{Longhand}
use Rattle.longhands.specs.declared.longhand.Unread.{Unread}
use Rattle.longhands.specs.declared.longhand.Unread.TheVariants.{Kind, Refused}
use Rattle.longhands.specs.LittleEndian.{little_endian, number_at}
use Rattle.longhands.specs.Kind1.{kind1_length, kind1_body, kind1_record, kind1_good}

-- ---- the frame
abbrev pub framed : ℕ → List ℕ → List ℕ
framed kind body = little_endian 4 (2 + length body) ++ little_endian 2 kind ++ body

abbrev pub length_of : List ℕ → ℕ
length_of l = number_at l 0 4

abbrev pub kind_of : List ℕ → ℕ
kind_of l = number_at l 4 2

-- "the place after it by the length"
abbrev pub place_after : List ℕ → ℕ
place_after l = 4 + length_of l

abbrev pub body_of : List ℕ → List ℕ
body_of l = take (length_of l - 2) (drop 6 l)

-- ---- the kinds
abbrev pub is_known : ℕ → Bool
is_known kind = eqb kind 1

-- the length of a kind that is known
abbrev pub kind_length : ℕ → ℕ
kind_length kind = cond (eqb kind 1) kind1_length 0

-- whether a body is one of the kind's
abbrev pub is_body : ℕ → List ℕ → Bool
is_body kind body = cond (eqb kind 1) (kind1_good body) false

-- the record that it spells
abbrev pub record_in : ℕ → List ℕ → SuperOpts
record_in kind body = cond (eqb kind 1) (kind1_record body) no_record

-- ---- reading
-- "15 bytes run short of the length field or of the length"; "a length below 2 is 17 before any kind is read"
unfoldable pub length_no : List ℕ → ℕ
length_no l =
    refuse (ltb (length l) 4 || ltb (length l) (place_after l)) 15
    then refuse (ltb (length_of l) 2) 17

-- "16 unknown kind, 17 length isn't the kind's .., 18 contents aren't an accepted record or a spare flag is set; in that order"
unfoldable pub longhand_no : List ℕ → ℕ
longhand_no l =
    length_no l
    then refuse (not (is_known (kind_of l))) 16
    then refuse (not (eqb (length_of l) (kind_length (kind_of l)))) 17
    then refuse (not (is_body (kind_of l) (body_of l))) 18

abbrev pub no_longhand : ℕ → Longhand
no_longhand place = record { opts = no_record; after = place }

-- "A refused read gives zeros and, but for 16, place 0"
abbrev pub longhand_by : ℕ → List ℕ → Longhand
longhand_by n l =
    cond (eqb n 0) (record { opts = record_in (kind_of l) (body_of l); after = place_after l })
    (no_longhand (cond (eqb n 16) (place_after l) 0))

abbrev pub longhand_answer : List ℕ → Answer Longhand
longhand_answer l = answer (longhand_no l) (longhand_by (longhand_no l) l)

abbrev pub read_as : Result Longhand Unread → Answer Longhand
read_as (Ok h) = answer 0 h
read_as (Err (Kind place)) = answer 16 (no_longhand place)
read_as (Err (Refused f)) = answer (number f) (no_longhand 0)

-- ---- writing
abbrev pub longhand_of : SuperOpts → List ℕ
longhand_of r = framed 1 (kind1_body r)

-- the bytes of a record of kind 1, its length's four among them
abbrev pub kind1_bytes : ℕ
kind1_bytes = 4 + kind1_length

-- "The writer gives 6, then 15"
abbrev pub write_no : SuperOpts → List ℕ → ℕ
write_no r lent = record_no r then refuse (ltb (length lent) kind1_bytes) 15

-- "nothing is written on either"
abbrev pub write_answer : SuperOpts → List ℕ → Answer (List ℕ)
write_answer r lent = if_done (write_no r lent) (written (longhand_of r) lent) lent

-- ---- what is asked of both
-- l begins with the longhand of r, an accepted record of i32 filters: "Every accepted record survives writing and reading, and one record has one encoding"
pub record Begins (l : List ℕ) (r : SuperOpts) : Type 0 where
  pub good : accepted r ≡ true
  pub down_fits : is_i32 r.scale_down ≡ true
  pub up_fits : is_i32 r.scale_up ≡ true
  pub front : take kind1_bytes l ≡ longhand_of r
