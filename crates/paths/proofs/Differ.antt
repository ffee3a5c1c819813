-- Where whole builds differ with the fused path on and off: the smallest planes without shifts, computed; last that there is a level of which order 2 speaks. Assumes nothing.
-- In a frame that wasn't zeroed a margin keeps what it held, and a later level's other columns read it, half a pitch away. By a record that isn't full a margin may hold what level 1 left there before its rows closed up.
use mathlib.Core.Path.{◌≡◌, refl}
use mathlib.Core.Bool.{true, false}
use mathlib.Core.List.{List, [], ◌∷◌}
use Prim.Native.Nat.{ℕ}
use native.Mathlib.Omega.{arith}
use lib.ListN.{length, get_or, replicate}
use Rattle.settings.specs.Numbers.{total}
use Rattle.settings.specs.Sizes.{reduced, levels_in}
use Rattle.settings.specs.Check.{settings_no, accepted}
use Rattle.filters.specs.Row.{tab, means_of, sixes}
use Rattle.filters.specs.Halve.{chosen, headed, horizontal_at, horizontal_row}
use Rattle.layouts.specs.declared.layout.Layout.{Layout}
use Rattle.layouts.specs.Storing.{put, steps}
use Rattle.layouts.specs.Layout.{offset_at, spill_need, scratch_need}
use Rattle.layouts.specs.Refusals.{layout_no, lent_no, build_no}
use Rattle.layouts.specs.Margins.{cubic_fits, fused_at}
use Rattle.builder.specs.Canvas.{fetch, copy_run}
use Rattle.builder.specs.Halving.{whole_line, rest_line, inner_line, vertical_line, vertical_rows, halve_run, horizontal_rows, from_stored, fused, close_up, from_source}
use Rattle.demands.proofs.ByHand.{plane}
use Rattle.paths.specs.Paths.{BothWays}
use Rattle.planes.specs.Build.{copied, level_by, halved_by, refined, built_by, frame_by}

-- the build's number, and byte i with the fused path on and off
abbrev bytes_at : Layout → ℕ → List ℕ → List ℕ → ℕ → List ℕ
bytes_at q sp src F i =
    build_no q (length src) sp (length F) (spill_need q) (scratch_need q)
    ∷ get_or (frame_by true q src sp F) i 0
    ∷ get_or (frame_by false q src sp F) i 0
    ∷ []

-- by a full record, a source of 0s in a frame of 255s: the margin of row 0 of level 1, and column 5 of row 1 of level 2
abbrev wide16 : List ℕ
wide16 = bytes_at (plane 1 true 16 8 2 0 17) 16 (replicate 128 0) (replicate 204 255) 152

abbrev wide24 : List ℕ
wide24 = bytes_at (plane 1 true 24 16 3 0 25) 24 (replicate 384 0) (replicate 700 255) 630

-- by one that isn't full, a source of 255s in a frame of zeros: the margin of row 0 of level 2, and column 4 of row 1 of level 3
abbrev wide32 : List ℕ
wide32 = bytes_at (plane 1 false 32 16 3 0 17) 32 (replicate 512 255) (replicate 204 0) 152

abbrev wide48 : List ℕ
wide48 = bytes_at (plane 1 false 48 32 4 0 26) 48 (replicate 1536 255) (replicate 728 0) 654

pub differ : (wide16 ∷ wide24 ∷ wide32 ∷ wide48 ∷ []) ≡ ((0 ∷ 0 ∷ 255 ∷ []) ∷ (0 ∷ 0 ∷ 4 ∷ []) ∷ (0 ∷ 0 ∷ 255 ∷ []) ∷ (0 ∷ 253 ∷ 255 ∷ []) ∷ [])
unfolding plane build_no layout_no lent_no accepted settings_no levels_in total reduced tab means_of sixes chosen headed horizontal_at horizontal_row fetch put steps offset_at cubic_fits fused_at whole_line rest_line inner_line vertical_line vertical_rows halve_run horizontal_rows from_stored fused copy_run close_up from_source copied level_by halved_by refined built_by frame_by
differ = refl

-- ---- level 1 of the first is one of which order 2 speaks
pub both_ways_there : BothWays (plane 1 true 16 8 2 0 17) 204 1
unfolding plane build_no layout_no lent_no accepted settings_no levels_in total reduced offset_at cubic_fits
both_ways_there = record { source = 128; src_pitch = 16; spill = 16; scratch = 528; accepts = refl; later = omega arith; there = omega arith; stored = refl; fits = refl }
