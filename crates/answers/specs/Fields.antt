-- The numbers that a call takes or tells, and what they stand for: settings, a record, what a word tells, where a level's plane lies, what a build needs, and where the parts of a frame lie.
use Rattle.std.specs.Prelude.{Bool, cond, not, ◌&&◌, ◌||◌, List, [], ◌∷◌, ◌++◌, ℕ, ◌/◌, ◌%◌, ◌^◌, eqb, ℤ, pos, length, get_or, is_some, unwrap_or}
use Rattle.std.specs.Bool.{then_some}
use Rattle.settings.specs.declared.super_opts.Settings.{Settings}
use Rattle.settings.specs.declared.super_opts.SuperOpts.{SuperOpts}
use Rattle.settings.specs.declared.word.Description.{Description}
use Rattle.settings.specs.Numbers.{is_nat, bit}
use Rattle.settings.specs.Answers.{no_record}
use Rattle.layouts.specs.declared.layout.Needs.{Needs}
use Rattle.lookups.specs.declared.rows.Plane.{Plane}
use Rattle.frames.specs.declared.parts.Part.{Part}
use Rattle.frames.specs.declared.parts.Parts.{Parts}

abbrev pub flag : Bool → ℤ
flag b = pos (bit b)

-- ---- settings: "Each setting is present or absent"; bit k of given says that the k-th is there
abbrev pub is_present : ℕ → ℕ → Bool
is_present given k = eqb (given / 2 ^ k % 2) 1

-- a flag is yes unless it is 0, as in C
abbrev pub settings_of : ℕ → ℤ → ℤ → ℤ → ℤ → ℤ → ℤ → ℤ → Settings
settings_of given pel gpu down up full rc lean =
    record {
      pel = then_some (is_present given 0) pel;
      gpu = then_some (is_present given 1) gpu;
      down = then_some (is_present given 2) down;
      up = then_some (is_present given 3) up;
      full = then_some (is_present given 4) (not (is_nat full 0));
      rc = then_some (is_present given 5) (not (is_nat rc 0));
      lean = then_some (is_present given 6) (not (is_nat lean 0));
    }

-- ---- a record: ten numbers, in the order of its fields; they are taken as they are told (`numbers_back` of proofs/Records.antt)
abbrev pub numbers_of : SuperOpts → List ℤ
numbers_of r =
    r.pel
    ∷ r.gpu
    ∷ r.scale_down
    ∷ r.scale_up
    ∷ flag r.full
    ∷ flag r.rc
    ∷ flag r.lean
    ∷ r.levels
    ∷ r.width
    ∷ r.height
    ∷ []

abbrev pub at : List ℤ → ℕ → ℤ
at l i = get_or l i (pos 0)

abbrev pub is_bit : ℤ → Bool
is_bit z = is_nat z 0 || is_nat z 1

-- a record's numbers: ten, and each flag 0 or 1
unfoldable pub are_fields : List ℤ → Bool
are_fields l = eqb (length l) 10 && is_bit (at l 4) && is_bit (at l 5) && is_bit (at l 6)

abbrev pub fields_of : List ℤ → SuperOpts
fields_of l =
    record {
      pel = at l 0;
      gpu = at l 1;
      scale_down = at l 2;
      scale_up = at l 3;
      full = is_nat (at l 4) 1;
      rc = is_nat (at l 5) 1;
      lean = is_nat (at l 6) 1;
      levels = at l 7;
      width = at l 8;
      height = at l 9;
    }

-- the record of zeros where the numbers are none's: every call refuses it by 6 (`no_record_refused` of proofs/Records.antt)
unfoldable pub record_of : List ℤ → SuperOpts
record_of l = cond (are_fields l) (fields_of l) no_record

-- ---- what a word tells: twelve numbers, of down and up whether they matter, then which
abbrev pub told_numbers : Description → List ℤ
told_numbers d =
    d.width
    ∷ d.height
    ∷ d.pel
    ∷ d.levels
    ∷ d.gpu
    ∷ flag d.full
    ∷ flag d.rc
    ∷ flag d.lean
    ∷ flag (is_some d.down)
    ∷ unwrap_or d.down (pos 0)
    ∷ flag (is_some d.up)
    ∷ unwrap_or d.up (pos 0)
    ∷ []

-- ---- where a level's plane lies
abbrev pub plane_numbers : Plane → List ℕ
plane_numbers p = p.start ∷ p.width ∷ p.height ∷ p.pitch ∷ []

-- ---- what a build needs, and where the parts of a frame lie: of Y, U and V, then of all three
abbrev pub need_numbers : Needs → List ℕ
need_numbers n = n.spill ∷ n.scratch ∷ []

abbrev pub part_numbers : Part → List ℕ
part_numbers p = p.start ∷ p.pitch ∷ p.length ∷ []

abbrev pub parts_numbers : Parts → List ℕ
parts_numbers p = part_numbers p.y ++ part_numbers p.u ++ part_numbers p.v ++ (p.length ∷ []) ++ need_numbers p.needs
