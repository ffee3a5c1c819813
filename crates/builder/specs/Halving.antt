-- Document 01, "Halving", "Fused cubic", "Not full": a later level, row by row.
-- First the columns of one row before it is halved; then the rows of a level; last a level from a stored one, fused, and from the source plane.
use Rattle.std.specs.Prelude.{ℕ, ◌+◌, ◌*◌, ◌-◌, ◌/◌, cond, List, ◌++◌, drop, replicate}
use Rattle.filters.specs.declared.halving.ReduceFilter.{ReduceFilter}
use Rattle.filters.specs.declared.halving.ReduceFilter.TheVariants.{Average, Bilinear, Quadratic, Cubic}
use Rattle.filters.specs.Row.{means_of, sixes}
use Rattle.filters.specs.Halve.{is_edge, weigh, rest_of, horizontal_row}
use Rattle.layouts.specs.declared.layout.Region.{Region}
use Rattle.layouts.specs.Storing.{put, steps}
use Rattle.builder.specs.Canvas.{fetch, copy_run, ◌▷◌}

-- "Generic cubic covers only whole eights so"
abbrev pub whole_of : ReduceFilter → ℕ → ℕ
whole_of Average n = n
whole_of Bilinear n = n
whole_of Quadratic n = n
whole_of Cubic n = n / 8 * 8

-- n columns, "with rows from -2 to +3" around the source row at `at`; rows lie sp apart
unfoldable pub whole_line : ReduceFilter → ℕ → List ℕ → ℕ → ℕ → List ℕ
whole_line f n s at sp =
    sixes (weigh f) n
    (fetch s (at - 2 * sp) n)
    (fetch s (at - sp) n)
    (fetch s at n)
    (fetch s (at + sp) n)
    (fetch s (at + 2 * sp) n)
    (fetch s (at + 3 * sp) n)

-- n columns from x on, the row's start plus column, "where r is by rows and a, b, c lie at k * floor(source pitch / 2) from the row's start plus column, k = -1, 1, 3"
unfoldable pub rest_line : ℕ → List ℕ → ℕ → ℕ → List ℕ
rest_line n s x sp =
    let half = sp / 2 in
    sixes rest_of n
    (fetch s (x - half) n)
    (fetch s (x - sp) n)
    (fetch s x n)
    (fetch s (x + sp) n)
    (fetch s (x + half) n)
    (fetch s (x + 3 * half) n)

-- n columns of a row that is no edge, `whole` of them by rows alone
unfoldable pub inner_line : ReduceFilter → ℕ → ℕ → List ℕ → ℕ → ℕ → List ℕ
inner_line f whole n s at sp = whole_line f whole s at sp ++ rest_line (n - whole) s (at + whole) sp

-- target row y of h, n bytes, from source rows of s that lie sp apart from base:
-- "row 0, and for all but average the last row, is the mean of rows 2y and 2y + 1"
unfoldable pub vertical_line : ReduceFilter → ℕ → ℕ → ℕ → List ℕ → ℕ → ℕ → ℕ → List ℕ
vertical_line f whole n h s base sp y =
    let at = base + y * (2 * sp) in
    cond (is_edge f y h) (means_of n (fetch s at n) (fetch s (at + sp) n)) (inner_line f whole n s at sp)

-- ---- the rows of target level t, that lie `step` apart
-- "Vertical, at target row y, source row 2y, over 2 * width bytes". `seen d` is the list that is read: the canvas d itself, or the source plane
unfoldable pub vertical_rows : ReduceFilter → (List ℕ → List ℕ) → ℕ → ℕ → Region → ℕ → List ℕ → List ℕ
vertical_rows f seen base sp t step c =
    let n = 2 * t.width in
    steps (λ y d. put d (t.offset + y * step) (vertical_line f (whole_of f n) n t.height (seen d) base sp y)) t.height c

-- the row at `at`, halved in its place: "Bytes from width to 2 * width keep the vertical values"
unfoldable pub halve_run : ReduceFilter → ℕ → ℕ → List ℕ → List ℕ
halve_run f w at c = put c at (horizontal_row f w (fetch c at (2 * w)))

unfoldable pub horizontal_rows : ReduceFilter → Region → ℕ → List ℕ → List ℕ
horizontal_rows f t step c = steps (λ y. halve_run f t.width (t.offset + y * step)) t.height c

-- ---- levels
-- from the level before, stored from base on
unfoldable pub from_stored : ReduceFilter → ℕ → ℕ → Region → List ℕ → List ℕ
from_stored f base p t c = c ▷ vertical_rows f (λ d. d) base p t p ▷ horizontal_rows f t p

-- "It also zeroes from 2 * width to pitch": a row of the fused cubic, from its vertical values v
abbrev pub fused_line : ℕ → ℕ → List ℕ → List ℕ
fused_line p w v = horizontal_row Cubic w v ++ (drop w v ++ replicate (p - 2 * w) 0)

unfoldable pub fused : ℕ → ℕ → Region → List ℕ → List ℕ
fused base p t c =
    let n = 2 * t.width in
    steps (λ y d. put d (t.offset + y * p) (fused_line p t.width (vertical_line Cubic n n t.height d base p y))) t.height c

-- "whole lines of pitch bytes close up, rows ascending"
unfoldable pub close_up : ℕ → ℕ → ℕ → List ℕ → List ℕ
close_up t p h c = steps (λ i. copy_run (t + (i + 1) * (2 * p)) (t + (i + 1) * p) p) (h - 1) c

-- "Not full: level 1 comes from the source plane, always generic. Its rows are first laid 2 * pitch apart"
unfoldable pub from_source : ReduceFilter → List ℕ → ℕ → ℕ → Region → List ℕ → List ℕ
from_source f src sp p t c =
    c
    ▷ vertical_rows f (λ d. src) 0 sp t (2 * p)
    ▷ horizontal_rows f t (2 * p)
    ▷ close_up t.offset p t.height
