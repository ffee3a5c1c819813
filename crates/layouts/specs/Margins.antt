-- Document 01, "Fused cubic": which levels are fused, and the margins of those that aren't.
-- First when the fused cubic fits, and where it is taken; then a level's margins; last those of all later levels.
use Rattle.std.specs.Prelude.{ℕ, ◌+◌, ◌*◌, ◌-◌, ◌%◌, Bool, cond, ◌&&◌, ◌||◌, List, leb, eqb, length, replicate}
use Rattle.settings.specs.Numbers.{is_nat}
use Rattle.layouts.specs.declared.layout.Layout.{Layout}
use Rattle.layouts.specs.declared.layout.Region.{Region}
use Rattle.layouts.specs.Storing.{put, steps}
use Rattle.layouts.specs.Layout.{levels_of, offset_at, region_at}

-- "width >= 8, height >= 2, 2 * width divisible by 8 and <= pitch, base + (2h - 1) * pitch + 2 * width <= target offset, and target offset + (h - 1) * pitch + 2 * width <= frame length"
unfoldable pub cubic_fits : ℕ → ℕ → Region → ℕ → Bool
cubic_fits base p t len =
    leb 8 t.width
    && leb 2 t.height
    && eqb (2 * t.width % 8) 0
    && leb (2 * t.width) p
    && leb (base + (2 * t.height - 1) * p + 2 * t.width) t.offset
    && leb (t.offset + (t.height - 1) * p + 2 * t.width) len

-- "taken when the source level is stored and `cubic_fits` holds": level l, in a frame of len bytes
unfoldable pub fused_at : Layout → ℕ → ℕ → Bool
fused_at q len l = is_nat q.opts.scale_down 4 && (q.opts.full || leb 2 l) && cubic_fits (offset_at q (l - 1)) q.pitch (region_at q l) len

-- zeros from a column on to the pitch, in each row of level t
unfoldable pub clear_from : ℕ → Region → ℕ → List ℕ → List ℕ
clear_from column t p c = steps (λ y d. put d (t.offset + y * p + column) (replicate (p - column) 0)) t.height c

-- "zeroes from width to pitch"
abbrev pub clear_rows : Region → ℕ → List ℕ → List ℕ
clear_rows t p c = clear_from t.width t p c

unfoldable pub clear_level : Layout → ℕ → List ℕ → List ℕ
clear_level q l c = cond (fused_at q (length c) l) c (clear_rows (region_at q l) q.pitch c)

-- "in later levels that aren't fused"
unfoldable pub cleared : Layout → List ℕ → List ℕ
cleared q c = steps (λ i. clear_level q (i + 1)) (levels_of q - 1) c
