-- Document 01, "Refining": the planes of level 0 between its places.
-- First a plane from one or two others; then the planes at half places; then the table of the pairs between those; last the whole.
use Rattle.std.specs.Prelude.{ℕ, ◌+◌, ◌*◌, ◌-◌, ◌/◌, cond, List, [], ◌∷◌, eqb}
use Rattle.filters.specs.declared.half_pel.HalfPel.{HalfPel}
use Rattle.filters.specs.declared.half_pel.Upscale.{Upscale}
use Rattle.filters.specs.declared.half_pel.Upscale.TheVariants.{Means, Kernel}
use Rattle.filters.specs.Row.{means_of}
use Rattle.filters.specs.Refine.{half_horizontal, half_vertical}
use Rattle.layouts.specs.Storing.{put, steps}
use Rattle.builder.specs.declared.refining.Interp.{Interp}
use Rattle.builder.specs.declared.refining.Pair.{Pair}
use Rattle.builder.specs.Canvas.{fetch, copy_run, ◌▷◌}

-- "over the width raised to a multiple of 16"
abbrev pub chunked : ℕ → ℕ
chunked w = (w + 15) / 16 * 16

-- "A pair takes means of two places row by row ..; a row is read whole before it is stored": n bytes at t, from those at l and r
unfoldable pub pair_run : ℕ → ℕ → ℕ → ℕ → List ℕ → List ℕ
pair_run t l r n c = put c t (means_of n (fetch c l n) (fetch c r n))

-- planes of `i.height` rows of `i.width` bytes, `i.pitch` apart: to t, from l and r
unfoldable pub pair_plane : Interp → ℕ → ℕ → ℕ → List ℕ → List ℕ
pair_plane i t l r c = steps (λ y. pair_run (t + y * i.pitch) (l + y * i.pitch) (r + y * i.pitch) (chunked i.width)) i.height c

unfoldable pub horizontal_plane : HalfPel → Interp → ℕ → ℕ → List ℕ → List ℕ
horizontal_plane k i t s c = steps (λ y d. put d (t + y * i.pitch) (half_horizontal k i.width (fetch d (s + y * i.pitch) i.width))) i.height c

-- row y of a plane at s, and the rows around it. (Row y - 2 or y - 1 is read as row 0 where there is none, and has no effect.)
unfoldable pub vertical_run : HalfPel → Interp → ℕ → ℕ → List ℕ → List ℕ
vertical_run k i s y c =
    let row : ℕ → List ℕ = λ j. fetch c (s + j * i.pitch) i.width in
    half_vertical k y i.height i.width (row (y - 2)) (row (y - 1)) (row y) (row (y + 1)) (row (y + 2)) (row (y + 3))

unfoldable pub vertical_plane : HalfPel → Interp → ℕ → ℕ → List ℕ → List ℕ
vertical_plane k i t s c = steps (λ y d. put d (t + y * i.pitch) (vertical_run k i s y d)) i.height c

-- ---- planes of level 0, from the canvas' start: plane k of i
abbrev pub plane_at : Interp → ℕ → ℕ
plane_at i k = k * (i.height * i.pitch)

-- "Horizontal, vertical, diagonal planes are" these three, by number
-- "horizontal from 0 and 0 + 1; vertical from 0 and 0 + pitch, then its first row copied from plane 0; diagonal from 0 and 0 + pitch + 1, then its first row copied from 0 + 1"
unfoldable pub mean_planes : Interp → ℕ → ℕ → ℕ → List ℕ → List ℕ
mean_planes i horizontal vertical diagonal c =
    c
    ▷ pair_plane i (plane_at i horizontal) 0 1
    ▷ pair_plane i (plane_at i vertical) 0 i.pitch
    ▷ copy_run 0 (plane_at i vertical) i.width
    ▷ pair_plane i (plane_at i diagonal) 0 (i.pitch + 1)
    ▷ copy_run 1 (plane_at i diagonal) i.width

-- "The diagonal is horizontal over the vertical plane."
unfoldable pub kernel_planes : HalfPel → Interp → ℕ → ℕ → ℕ → List ℕ → List ℕ
kernel_planes k i horizontal vertical diagonal c =
    c
    ▷ horizontal_plane k i (plane_at i horizontal) 0
    ▷ vertical_plane k i (plane_at i vertical) 0
    ▷ horizontal_plane k i (plane_at i diagonal) (plane_at i vertical)

unfoldable pub half_planes : Upscale → Interp → ℕ → ℕ → ℕ → List ℕ → List ℕ
half_planes Means i horizontal vertical diagonal c = mean_planes i horizontal vertical diagonal c
half_planes (Kernel k) i horizontal vertical diagonal c = kernel_planes k i horizontal vertical diagonal c

-- ---- "Pel 4 then makes these pairs in order, target : left, right": `+1 .. s` is across 1, `+pitch .. t` is below 1
abbrev pub pair_of : ℕ → ℕ → ℕ → ℕ → ℕ → Pair
pair_of t l r a b = record { target = t; left = l; right = r; across = a; below = b }

abbrev pub pairs : List Pair
pairs =
    pair_of 1 0 2 0 0
    ∷ pair_of 9 8 10 0 0
    ∷ pair_of 4 0 8 0 0
    ∷ pair_of 6 2 10 0 0
    ∷ pair_of 5 4 6 0 0
    ∷ pair_of 3 0 2 1 0
    ∷ pair_of 11 8 10 1 0
    ∷ pair_of 12 0 8 0 1
    ∷ pair_of 14 2 10 0 1
    ∷ pair_of 13 12 14 0 0
    ∷ pair_of 7 4 6 1 0
    ∷ pair_of 15 12 14 1 0
    ∷ []

-- "s is one column fewer before rounding up, t one row fewer"
unfoldable pub quarter : Interp → Pair → List ℕ → List ℕ
quarter i pair c =
    pair_plane (record { pitch = i.pitch; width = i.width - pair.across; height = i.height - pair.below })
    (plane_at i pair.target)
    (plane_at i pair.left + pair.across + pair.below * i.pitch)
    (plane_at i pair.right) c

unfoldable pub fold_pairs : (Pair → List ℕ → List ℕ) → List Pair → List ℕ → List ℕ
fold_pairs step [] c = c
fold_pairs step (pair ∷ rest) c = fold_pairs step rest (step pair c)

-- "planes are 1, 2, 3 at pel 2 and 2, 8, 10 at pel 4". A plane is refined only where pel > 1 and the record is accepted, so that a pel that isn't 2 is 4
unfoldable pub refine : Interp → ℕ → Upscale → List ℕ → List ℕ
refine i pel u c = cond (eqb pel 2) (half_planes u i 1 2 3 c) (c ▷ half_planes u i 2 8 10 ▷ fold_pairs (quarter i) pairs)
