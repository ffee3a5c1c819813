-- Document 02, order 5: the numbers after 32, in order, for each call that takes a stored layout and more. The written end and the needs have no other: theirs is `stored_no`.
-- First those of a frame, of a row and of a level's plane in it; last a build's, by what it is lent.
use Rattle.std.specs.Prelude.{ℕ, Bool, ◌||◌, List, ltb, leb}
use Rattle.settings.specs.declared.super_opts.SuperOpts.{SuperOpts}
use Rattle.settings.specs.Numbers.{refuse, ◌then◌}
use Rattle.layouts.specs.declared.layout.Layout.{Layout}
use Rattle.layouts.specs.Layout.{levels_of, width_at, stored_at, written_end}
use Rattle.layouts.specs.Refusals.{bad_pitch, no_row, lent_no}
use Rattle.stored.specs.Layout.{view_of}
use Rattle.stored.specs.Refusals.{stored_no}

-- clearing margins, in a frame of len bytes
unfoldable pub frame_no : SuperOpts → List ℕ → ℕ → ℕ
frame_no r s len = stored_no r s then refuse (ltb len (written_end (view_of r s))) 11

-- a row
unfoldable pub row_no : SuperOpts → List ℕ → ℕ → ℕ → ℕ → ℕ → ℕ
row_no r s len l k y = frame_no r s len then refuse (no_row (view_of r s) l k y) 19

-- "no such level, plane .. is stored"
abbrev pub no_plane : Layout → ℕ → ℕ → Bool
no_plane q l k = leb (levels_of q) l || leb (stored_at q l) k

-- a level's plane
unfoldable pub level_plane_no : SuperOpts → List ℕ → ℕ → ℕ → ℕ → ℕ
level_plane_no r s len l k = frame_no r s len then refuse (no_plane (view_of r s) l k) 19

-- building
unfoldable pub stored_build_no : SuperOpts → List ℕ → ℕ → ℕ → ℕ → ℕ → ℕ → ℕ
stored_build_no r s n sp len spill scratch =
    stored_no r s
    then refuse (bad_pitch sp (width_at (view_of r s) 0)) 9
    then lent_no (view_of r s) n sp len spill scratch
