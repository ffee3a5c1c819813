-- Document 01's number and value: of each call, and of each answer that is an enum.
use Rattle.std.specs.Prelude.{ℕ, ◌≡◌, true, false, cond, List, ◌++◌, eqb, ℤ, pos, length, drop, ⊤, None, Result, Ok, Err}
use Rattle.settings.specs.declared.refusal.Refusal.{Refusal}
use Rattle.settings.specs.declared.refusal.Refusal.TheVariants.{Setting, NoRecord, Layout, Lent, Levels, Longhand, NoRow, Word as BadCode, Planes}
use Rattle.settings.specs.declared.refusal.BadSetting.{BadSetting}
use Rattle.settings.specs.declared.refusal.BadSetting.TheVariants.{Pel, Gpu, Finest, Lean, Side}
use Rattle.settings.specs.declared.refusal.BadLayout.{BadLayout}
use Rattle.settings.specs.declared.refusal.BadLayout.TheVariants.{Shift, Pitch, Stored}
use Rattle.settings.specs.declared.refusal.BadLent.{BadLent}
use Rattle.settings.specs.declared.refusal.BadLent.TheVariants.{SourcePitch, Source, Frame, Spill, Scratch}
use Rattle.settings.specs.declared.refusal.BadLonghand.{BadLonghand}
use Rattle.settings.specs.declared.refusal.BadLonghand.TheVariants.{Short, Length, Contents}
use Rattle.settings.specs.declared.refusal.BadWord.{BadWord}
use Rattle.settings.specs.declared.refusal.BadWord.TheVariants.{NoCode, Halving, Upscale}
use Rattle.settings.specs.declared.refusal.BadPlanes.{BadPlanes}
use Rattle.settings.specs.declared.refusal.BadPlanes.TheVariants.{Side as ShortSide, Full as NotFull}
use Rattle.settings.specs.declared.super_opts.Settings.{Settings}
use Rattle.settings.specs.declared.super_opts.SuperOpts.{SuperOpts}
use Rattle.settings.specs.declared.word.Description.{Description}
use Rattle.settings.specs.Numbers.{is_i32}
use Rattle.settings.specs.Check.{settled, settings_no, record_no, super_height, super_width, SettingsI32}
use Rattle.settings.specs.Word.{pack_no, word_of}
use Rattle.settings.specs.Reading.{candidate, read_no, describe}

-- "Numbers a call can give", and document 02's, by what is at fault
abbrev pub setting_number : BadSetting → ℕ
setting_number Pel = 1
setting_number Gpu = 2
setting_number Finest = 3
setting_number Lean = 4
setting_number Side = 5

abbrev pub layout_number : BadLayout → ℕ
layout_number Shift = 7
layout_number Pitch = 8
layout_number Stored = 32

abbrev pub lent_number : BadLent → ℕ
lent_number SourcePitch = 9
lent_number Source = 10
lent_number Frame = 11
lent_number Spill = 12
lent_number Scratch = 13

abbrev pub longhand_number : BadLonghand → ℕ
longhand_number Short = 15
longhand_number Length = 17
longhand_number Contents = 18

abbrev pub word_number : BadWord → ℕ
word_number NoCode = 20
word_number Halving = 21
word_number Upscale = 22

abbrev pub planes_number : BadPlanes → ℕ
planes_number ShortSide = 23
planes_number NotFull = 24

abbrev pub number : Refusal → ℕ
number (Setting f) = setting_number f
number NoRecord = 6
number (Layout f) = layout_number f
number (Lent f) = lent_number f
number Levels = 14
number (Longhand f) = longhand_number f
number NoRow = 19
number (BadCode f) = word_number f
number (Planes f) = planes_number f

-- a number, and the value that goes with it
pub record Answer (A : Type 0) : Type 0 where
  pub no : ℕ
  pub value : A

abbrev pub answer : {A : Type 0} → ℕ → A → Answer A
answer n a = record { no = n; value = a }

-- a, or `none` where the number is a refusal's
abbrev pub if_done : {A : Type 0} → ℕ → A → A → Answer A
if_done n a none = answer n (cond (eqb n 0) a none)

-- values at the front of what is lent, the rest as it was
abbrev pub written : {A : Type 0} → List A → List A → List A
written values lent = values ++ drop (length values) lent

-- ---- the calls
-- "a record of zeros"
abbrev pub no_record : SuperOpts
no_record =
    record {
      pel = pos 0;
      gpu = pos 0;
      scale_down = pos 0;
      scale_up = pos 0;
      full = false;
      rc = false;
      lean = false;
      levels = pos 0;
      width = pos 0;
      height = pos 0;
    }

-- "A settings refusal gives a record of zeros"
abbrev pub check_answer : Settings → ℤ → ℤ → Answer SuperOpts
check_answer s w h = if_done (settings_no (settled s w h)) (settled s w h) no_record

-- "one this check can return for some settings and size": all of them i32
pub record Returns (r : SuperOpts) : Type 0 where
  pub settings : Settings
  pub width : ℤ
  pub height : ℤ
  pub settings_fit : SettingsI32 settings
  pub width_fits : is_i32 width ≡ true
  pub height_fits : is_i32 height ≡ true
  pub answers : check_answer settings width height ≡ answer 0 r

-- "a packing refusal word 0"
abbrev pub pack_answer : SuperOpts → Answer ℕ
pack_answer r = if_done (pack_no r) (word_of r) 0

-- "a refused size .. zeros"
abbrev pub height_answer : SuperOpts → Answer ℤ
height_answer r = if_done (record_no r) (pos (super_height r)) (pos 0)

abbrev pub width_answer : SuperOpts → Answer ℤ
width_answer r = if_done (record_no r) (pos (super_width r)) (pos 0)

-- "a refused word an empty description"
abbrev pub no_description : Description
no_description =
    record {
      width = pos 0;
      height = pos 0;
      pel = pos 0;
      levels = pos 0;
      gpu = pos 0;
      full = false;
      rc = false;
      lean = false;
      down = None;
      up = None;
    }

abbrev pub read_answer : ℕ → Answer Description
read_answer v = if_done (read_no v) (describe (candidate v)) no_description

-- ---- the results of calls
-- of a row of tests: 0 where none applies
abbrev pub tested : Result ⊤ Refusal → ℕ
tested (Ok t) = 0
tested (Err f) = number f

-- of a call that gives a value, and `none` where it refuses
abbrev pub outcome : {A : Type 0} → A → Result A Refusal → Answer A
outcome none (Ok a) = answer 0 a
outcome none (Err f) = answer (number f) none

abbrev pub checked : Result SuperOpts Refusal → Answer SuperOpts
checked = outcome no_record

abbrev pub packed : Result ℕ Refusal → Answer ℕ
packed = outcome 0

abbrev pub sized : Result ℤ Refusal → Answer ℤ
sized = outcome (pos 0)

abbrev pub told : Result Description Refusal → Answer Description
told = outcome no_description
