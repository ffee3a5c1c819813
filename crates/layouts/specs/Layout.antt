-- Document 01, "Settings and sizes": a plane's levels, and where they lie.
-- First a level's size, planes and bytes; then where a level lies, its region, and where a row starts; last what a build needs of spill and scratch.
use Rattle.std.specs.Prelude.{ℕ, zero, suc, ◌+◌, ◌*◌, ◌/◌, ◌^◌, cond, ltb, leb}
use Rattle.settings.specs.Numbers.{total}
use Rattle.settings.specs.Sizes.{reduced}
use Rattle.settings.specs.Check.{pel_of, luma_w, luma_h, level_count}
use Rattle.layouts.specs.declared.layout.Layout.{Layout}
use Rattle.layouts.specs.declared.layout.Region.{Region}

-- "how many of the sizes at 0, 1, 2.. reductions have both sides at least 4, stopping at the first that has not": an accepted record has that count
abbrev pub levels_of : Layout → ℕ
levels_of q = level_count q.opts

-- "(reduced luma width) >> x shift, height alike"
abbrev pub width_at : Layout → ℕ → ℕ
width_at q l = reduced (luma_w q.opts) l / 2 ^ q.x_shift

abbrev pub height_at : Layout → ℕ → ℕ
height_at q l = reduced (luma_h q.opts) l / 2 ^ q.y_shift

-- "Level 0 keeps pel * pel planes if full, else none; every later level keeps one"
abbrev pub stored_at : Layout → ℕ → ℕ
stored_at q zero = cond q.opts.full (pel_of q.opts * pel_of q.opts) 0
stored_at q (suc l) = 1

-- "a plane takes height * pitch bytes"
abbrev pub bytes_at : Layout → ℕ → ℕ
bytes_at q l = stored_at q l * height_at q l * q.pitch

-- "Levels follow each other"
unfoldable pub offset_at : Layout → ℕ → ℕ
offset_at q l = total (bytes_at q) l

-- "the end of the last level, 0 where there is none"
abbrev pub written_end : Layout → ℕ
written_end q = offset_at q (levels_of q)

abbrev pub no_region : Region
no_region = record { offset = 0; width = 0; height = 0 }

-- "A plane's level has width (reduced luma width) >> x shift, height alike", at its offset; without full, level 0 has its size and offset 0, though none of it is stored
abbrev pub region_at : Layout → ℕ → Region
region_at q l = record { offset = offset_at q l; width = width_at q l; height = height_at q l }

-- level l's region; zeros where there is no such level
abbrev pub region_or : Layout → ℕ → Region
region_or q l = cond (ltb l (levels_of q)) (region_at q l) no_region

-- "Levels follow each other; a plane takes height * pitch bytes": where row y of plane k of level l starts, past the planes and rows before it
abbrev pub row_start : Layout → ℕ → ℕ → ℕ → ℕ
row_start q l k y = offset_at q l + (k * height_at q l + y) * q.pitch

-- "level 1's height * pitch if not full and levels are 2 or more, else 16"
abbrev pub spill_need : Layout → ℕ
spill_need q = cond q.opts.full 16 (cond (leb 2 (levels_of q)) (height_at q 1 * q.pitch) 16)

-- "scratch shorter than 16 * (pitch + 16)"
abbrev pub scratch_need : Layout → ℕ
scratch_need q = 16 * (q.pitch + 16)
