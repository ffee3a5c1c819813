-- The library's calls: the number of each, and what it leaves in the slices that are lent for its answer. "The lowest number that applies is given, and none other"; "no refusal changes a lent byte", but for the place that reading a longhand record tells with 16.
-- First what settles a layout, and the numbers of a row's place; then the calls; last reading a longhand record.
use Rattle.std.specs.Prelude.{cond, ◌||◌, List, [], ◌∷◌, ℕ, eqb, ℤ, pos, length}
use Rattle.settings.specs.declared.super_opts.Settings.{Settings}
use Rattle.settings.specs.declared.super_opts.SuperOpts.{SuperOpts}
use Rattle.settings.specs.Numbers.{◌then◌}
use Rattle.settings.specs.Check.{settled, settings_no, record_no, super_height, super_width}
use Rattle.settings.specs.Word.{pack_no, word_of}
use Rattle.settings.specs.Reading.{candidate, read_no, describe}
use Rattle.settings.specs.Answers.{Answer, answer, if_done, written}
use Rattle.longhands.specs.Longhand.{longhand_no, longhand_answer}
use Rattle.layouts.specs.declared.layout.Layout.{Layout}
use Rattle.layouts.specs.declared.rows.Run.{Run}
use Rattle.layouts.specs.Layout.{written_end}
use Rattle.layouts.specs.Refusals.{layout_no}
use Rattle.layouts.specs.Answers.{needs_of, run_of}
use Rattle.stored.specs.Layout.{view_of, stored_of}
use Rattle.stored.specs.Refusals.{stored_no}
use Rattle.stored.specs.Answers.{settled_by}
use Rattle.lookups.specs.Refusals.{row_no, level_plane_no}
use Rattle.lookups.specs.Answers.{level_plane}
use Rattle.frames.specs.Parts.{planes_no, parts_of, row_in_no, run_in_of}
use Rattle.answers.specs.Fields.{numbers_of, record_of, told_numbers, need_numbers, plane_numbers, parts_numbers}
use Rattle.answers.specs.Lent.{no_room, lowest, tells}

-- ---- the numbers
abbrev pub layout_of : List ℤ → ℕ → ℕ → ℕ → Layout
layout_of l = settled_by (record_of l)

abbrev pub run_numbers : Run → List ℕ
run_numbers r = r.offset ∷ r.length ∷ []

-- ---- the calls
abbrev pub check_tells : Settings → ℤ → ℤ → List ℤ → Answer (List ℤ)
check_tells s w h = tells (settings_no (settled s w h)) (numbers_of (settled s w h))

abbrev pub pack_tells : SuperOpts → List ℕ → Answer (List ℕ)
pack_tells r = tells (pack_no r) (word_of r ∷ [])

abbrev pub read_tells : ℕ → List ℤ → Answer (List ℤ)
read_tells v = tells (read_no v) (told_numbers (describe (candidate v)))

abbrev pub sizes_tells : SuperOpts → List ℤ → Answer (List ℤ)
sizes_tells r = tells (record_no r) (pos (super_width r) ∷ pos (super_height r) ∷ [])

abbrev pub layout_tells : Layout → List ℕ → Answer (List ℕ)
layout_tells q = tells (layout_no q) (stored_of q)

-- of the record r, for the shifts x, y and the pitch p: the layout in l is the one that is changed
abbrev pub change_tells : SuperOpts → ℕ → ℕ → ℕ → List ℕ → Answer (List ℕ)
change_tells r x y p l = let q = settled_by r x y p in if_done (stored_no r l then layout_no q) (stored_of q) l

abbrev pub end_tells : SuperOpts → List ℕ → List ℕ → Answer (List ℕ)
end_tells r s = tells (stored_no r s) (written_end (view_of r s) ∷ [])

abbrev pub needs_tells : SuperOpts → List ℕ → List ℕ → Answer (List ℕ)
needs_tells r s = tells (stored_no r s) (need_numbers (needs_of (view_of r s)))

-- row y of plane k of level l, in a frame of len bytes
abbrev pub row_tells : SuperOpts → List ℕ → ℕ → ℕ → ℕ → ℕ → List ℕ → Answer (List ℕ)
row_tells r s len l k y = tells (row_no r s len l k y) (run_numbers (run_of (view_of r s) l k y))

-- plane k of level l
abbrev pub plane_tells : SuperOpts → List ℕ → ℕ → ℕ → ℕ → List ℕ → Answer (List ℕ)
plane_tells r s len l k = tells (level_plane_no r s len l k) (plane_numbers (level_plane (view_of r s) l k))

abbrev pub parts_tells : SuperOpts → List ℕ → Answer (List ℕ)
parts_tells r = tells (planes_no r) (parts_numbers (parts_of r))

-- row y of plane j of level l of part k
abbrev pub row_in_tells : SuperOpts → ℕ → ℕ → ℕ → ℕ → ℕ → List ℕ → Answer (List ℕ)
row_in_tells r len k l j y = tells (row_in_no r len k l j y) (run_numbers (run_in_of r k l j y))

-- ---- a longhand record read: two slices are lent for the answer
abbrev pub longhand_read_no : List ℕ → List ℤ → List ℕ → ℕ
longhand_read_no l fields after = lowest (longhand_no l) (no_room (length fields) (length after))

-- what a call of number n leaves of the first: the record's numbers
abbrev pub fields_tells : ℕ → List ℕ → List ℤ → Answer (List ℤ)
fields_tells n l fields = if_done n (written (numbers_of (longhand_answer l).value.opts) fields) fields

-- and of the second: "A refused read gives zeros and, but for 16, place 0"; here nothing where there is no place
abbrev pub place_tells : ℕ → List ℕ → List ℕ → Answer (List ℕ)
place_tells n l after = answer n (cond (eqb n 0 || eqb n 16) (written ((longhand_answer l).value.after ∷ []) after) after)
