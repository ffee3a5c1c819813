-- Document 02, order 5: a plane's layout, stored as a run of numbers.
-- First what making gives; then the view of such numbers that document 01's rules go by; last which are the layout that their record gives.
use Rattle.std.specs.Prelude.{ℕ, zero, suc, ◌+◌, ◌*◌, ◌/◌, ◌%◌, Bool, true, false, ◌&&◌, List, [], ◌∷◌, eqb, get_or, replicate}
use Rattle.settings.specs.declared.super_opts.SuperOpts.{SuperOpts}
use Rattle.settings.specs.Limits.{most_levels}
use Rattle.filters.specs.Row.{tab}
use Rattle.layouts.specs.declared.layout.Layout.{Layout}
use Rattle.layouts.specs.declared.layout.Region.{Region}
use Rattle.layouts.specs.Layout.{levels_of, region_or}
use Rattle.layouts.specs.Refusals.{layout_no}

-- ---- "Put offset, width and height of each level into a stored layout, made once from record, shifts and pitch"
-- a level's three numbers
abbrev pub region_number : Region → ℕ → ℕ
region_number t zero = t.offset
region_number t (suc zero) = t.width
region_number t (suc (suc k)) = t.height

-- the number at place k: the count of levels, the shifts and the pitch; then those of each level next to each other, zeros past the last
abbrev pub number_at : Layout → ℕ → ℕ
number_at q zero = levels_of q
number_at q (suc zero) = q.x_shift
number_at q (suc (suc zero)) = q.y_shift
number_at q (suc (suc (suc zero))) = q.pitch
number_at q (suc (suc (suc (suc k)))) = region_number (region_or q (k / 3)) (k % 3)

abbrev pub most_numbers : ℕ
most_numbers = 4 + 3 * most_levels

unfoldable pub stored_of : Layout → List ℕ
stored_of q = tab (number_at q) most_numbers

-- "a refused .. layout zeros"
abbrev pub no_stored : List ℕ
no_stored = replicate most_numbers 0

-- ---- the record that stands beside them, and their own shifts and pitch
abbrev pub view_of : SuperOpts → List ℕ → Layout
view_of r l = record { opts = r; x_shift = get_or l 1 0; y_shift = get_or l 2 0; pitch = get_or l 3 0 }

-- ---- "the one its record gives": number for number what making gives, for its own shifts and pitch
unfoldable pub same_numbers : List ℕ → List ℕ → Bool
same_numbers [] [] = true
same_numbers [] (b ∷ m) = false
same_numbers (a ∷ l) [] = false
same_numbers (a ∷ l) (b ∷ m) = eqb a b && same_numbers l m

unfoldable pub is_stored : SuperOpts → List ℕ → Bool
is_stored r l = let q = view_of r l in eqb (layout_no q) 0 && same_numbers l (stored_of q)
