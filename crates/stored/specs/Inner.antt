-- Inner: the test of a stored layout, level by level. That it is the test by numbers is `by_levels` of proofs/Exact.antt.
-- First numbers that have a view; then a level's region as they have it, and whether each is as making gives it.
use Rattle.std.specs.Prelude.{ℕ, zero, suc, ◌+◌, ◌*◌, Bool, true, ◌&&◌, List, eqb, leb, length, get_or}
use Rattle.settings.specs.Limits.{most_levels}
use Rattle.layouts.specs.declared.layout.Layout.{Layout}
use Rattle.layouts.specs.declared.layout.Region.{Region}
use Rattle.layouts.specs.Layout.{levels_of, region_or}
use Rattle.stored.specs.Layout.{most_numbers}

-- as many as a layout's, and each shift 0 or 1
unfoldable pub has_view : List ℕ → Bool
has_view l = eqb (length l) most_numbers && leb (get_or l 1 0) 1 && leb (get_or l 2 0) 1

-- level i's region, as they have it
abbrev pub region_in : List ℕ → ℕ → Region
region_in l i = record { offset = get_or l (4 + 3 * i) 0; width = get_or l (4 + 3 * i + 1) 0; height = get_or l (4 + 3 * i + 2) 0 }

abbrev pub same_region : Region → Region → Bool
same_region a b = eqb a.offset b.offset && eqb a.width b.width && eqb a.height b.height

-- each of the first n
unfoldable pub every_level : (ℕ → Bool) → ℕ → Bool
every_level test zero = true
every_level test (suc n) = every_level test n && test n

-- whether level i is as making gives it, zeros where there is no such level
abbrev pub same_at : Layout → List ℕ → ℕ → Bool
same_at q l i = same_region (region_in l i) (region_or q i)

unfoldable pub keeps : Layout → List ℕ → Bool
keeps q l = eqb (get_or l 0 0) (levels_of q) && every_level (same_at q l) most_levels
