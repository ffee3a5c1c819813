-- Document 02, order 3: the planes of a frame, Y, U and V, by the numbers 0, 1 and 2, and where they lie.
-- First a plane's layout and its part of the frame; then the numbers that come before any byte is asked for; then where the parts lie; last a row of one.
use Rattle.std.specs.Prelude.{ℕ, zero, suc, ◌+◌, ◌/◌, not, ◌||◌, List, leb, ltb, length, take, drop, Result}
use Rattle.settings.specs.declared.refusal.Refusal.{Refusal}
use Rattle.settings.specs.declared.super_opts.SuperOpts.{SuperOpts}
use Rattle.settings.specs.Numbers.{refuse, ◌then◌, total}
use Rattle.settings.specs.Check.{luma_w, luma_h, record_no}
use Rattle.settings.specs.Answers.{Answer, if_done, outcome}
use Rattle.layouts.specs.declared.layout.Layout.{Layout}
use Rattle.layouts.specs.declared.rows.Run.{Run}
use Rattle.layouts.specs.Layout.{width_at, row_start, written_end}
use Rattle.layouts.specs.Refusals.{no_row}
use Rattle.layouts.specs.Answers.{needs_of, no_needs, no_run}
use Rattle.frames.specs.declared.parts.Part.{Part}
use Rattle.frames.specs.declared.parts.Parts.{Parts}

-- "shifts 1,1 for chroma, pitch W for Y and W / 2 for U and V"
abbrev pub plane_of : SuperOpts → ℕ → Layout
plane_of r zero = record { opts = r; x_shift = 0; y_shift = 0; pitch = luma_w r }
plane_of r (suc k) = record { opts = r; x_shift = 1; y_shift = 1; pitch = luma_w r / 2 }

-- "each plane as long as its written end"
abbrev pub length_of : SuperOpts → ℕ → ℕ
length_of r k = written_end (plane_of r k)

-- "joined in that order": where part k starts, past the parts before it; 3 is where the third ends
abbrev pub start_of : SuperOpts → ℕ → ℕ
start_of r k = total (length_of r) k

abbrev pub joined_end : SuperOpts → ℕ
joined_end r = start_of r 3

-- "23 a side below 2, 24 not full, after 6"
unfoldable pub planes_no : SuperOpts → ℕ
planes_no r = record_no r then refuse (ltb (luma_w r) 2 || ltb (luma_h r) 2) 23 then refuse (not r.full) 24

-- ---- where the parts lie
abbrev pub part_of : SuperOpts → ℕ → Part
part_of r k = record { start = start_of r k; pitch = (plane_of r k).pitch; length = length_of r k }

-- "Spill and scratch needs are luma's."
abbrev pub parts_of : SuperOpts → Parts
parts_of r = record { y = part_of r 0; u = part_of r 1; v = part_of r 2; length = joined_end r; needs = needs_of (plane_of r 0) }

abbrev pub no_part : Part
no_part = record { start = 0; pitch = 0; length = 0 }

-- zeros where it is refused, as of document 01's layouts
abbrev pub no_parts : Parts
no_parts = record { y = no_part; u = no_part; v = no_part; length = 0; needs = no_needs }

abbrev pub parts_answer : SuperOpts → Answer Parts
parts_answer r = if_done (planes_no r) (parts_of r) no_parts

abbrev pub parted : Result Parts Refusal → Answer Parts
parted = outcome no_parts

-- ---- row y of plane j of level l of part k, in a frame of len bytes: document 01's row of the part, and its numbers, but for 11, which goes by the joined ends
abbrev pub part_no : SuperOpts → ℕ → ℕ → ℕ
part_no r len k = planes_no r then refuse (ltb len (joined_end r)) 11 then refuse (leb 3 k) 19

unfoldable pub row_in_no : SuperOpts → ℕ → ℕ → ℕ → ℕ → ℕ → ℕ
row_in_no r len k l j y = part_no r len k then refuse (no_row (plane_of r k) l j y) 19

abbrev pub run_in_of : SuperOpts → ℕ → ℕ → ℕ → ℕ → Run
run_in_of r k l j y = record { offset = start_of r k + row_start (plane_of r k) l j y; length = width_at (plane_of r k) l }

abbrev pub place_in_answer : SuperOpts → ℕ → ℕ → ℕ → ℕ → ℕ → Answer Run
place_in_answer r len k l j y = if_done (row_in_no r len k l j y) (run_in_of r k l j y) no_run

-- "A row is its level's w bytes. A refused row is the empty part"
unfoldable pub row_in_part : SuperOpts → List ℕ → ℕ → ℕ → ℕ → ℕ → List ℕ
row_in_part r f k l j y = let at = (place_in_answer r (length f) k l j y).value in take at.length (drop at.offset f)

-- where in the frame it starts, at its front where it is refused
abbrev pub row_in_from : SuperOpts → ℕ → ℕ → ℕ → ℕ → ℕ → ℕ
row_in_from r len k l j y = (place_in_answer r len k l j y).value.offset
