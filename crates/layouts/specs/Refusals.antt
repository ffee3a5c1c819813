-- Document 01, "Numbers a call can give": 6 to 13, and when 19, by what settles a layout.
-- First a layout's, by its pitch; then whether a row is there; last a build's, by what it is lent.
use Rattle.std.specs.Prelude.{ℕ, ◌+◌, ◌*◌, ◌-◌, Bool, cond, ◌||◌, ltb, leb, eqb}
use Rattle.settings.specs.Limits.{most_pitch}
use Rattle.settings.specs.Numbers.{refuse, ◌then◌}
use Rattle.settings.specs.Check.{record_no}
use Rattle.layouts.specs.declared.layout.Layout.{Layout}
use Rattle.layouts.specs.Layout.{levels_of, width_at, height_at, stored_at, written_end, spill_need, scratch_need}

-- "below max(1, least) or above 32,768"
abbrev pub bad_pitch : ℕ → ℕ → Bool
bad_pitch p least = ltb p 1 || ltb p least || ltb most_pitch p

-- "level 0's width if full, else level 1's"; "level 1's width counts by the reducing rule even where there are fewer levels"
abbrev pub least_pitch : Layout → ℕ
least_pitch q = cond q.opts.full (width_at q 0) (width_at q 1)

-- making a layout
unfoldable pub layout_no : Layout → ℕ
layout_no q =
    record_no q.opts
    then refuse (ltb 1 q.x_shift || ltb 1 q.y_shift) 7
    then refuse (bad_pitch q.pitch (least_pitch q)) 8

-- "no such level, plane or row is stored"
abbrev pub no_row : Layout → ℕ → ℕ → ℕ → Bool
no_row q l k y = leb (levels_of q) l || leb (stored_at q l) k || leb (height_at q l) y

-- "(h - 1) * source pitch + w; 0 bytes suffice if w or h is 0"
abbrev pub source_need : Layout → ℕ → ℕ
source_need q sp = cond (eqb (width_at q 0) 0 || eqb (height_at q 0) 0) 0 ((height_at q 0 - 1) * sp + width_at q 0)

-- what a build is lent: a source of n bytes whose rows are sp apart, a frame of len bytes, so many bytes of spill and scratch
unfoldable pub lent_no : Layout → ℕ → ℕ → ℕ → ℕ → ℕ → ℕ
lent_no q n sp len spill scratch =
    refuse (ltb n (source_need q sp)) 10
    then refuse (ltb len (written_end q)) 11
    then refuse (ltb spill (spill_need q)) 12
    then refuse (ltb scratch (scratch_need q)) 13

-- building, by record, shifts and pitch: the number of a call whose layout isn't refused (`build_as_view` of `lookups`)
unfoldable pub build_no : Layout → ℕ → ℕ → ℕ → ℕ → ℕ → ℕ
build_no q n sp len spill scratch =
    layout_no q
    then refuse (bad_pitch sp (width_at q 0)) 9
    then lent_no q n sp len spill scratch
