-- The number and value of making a stored layout and of changing one.
use Rattle.std.specs.Prelude.{ℕ, List, Result}
use Rattle.settings.specs.declared.refusal.Refusal.{Refusal}
use Rattle.settings.specs.declared.super_opts.SuperOpts.{SuperOpts}
use Rattle.settings.specs.Numbers.{◌then◌}
use Rattle.settings.specs.Answers.{Answer, if_done, outcome}
use Rattle.layouts.specs.declared.layout.Layout.{Layout}
use Rattle.layouts.specs.Refusals.{layout_no}
use Rattle.stored.specs.Layout.{stored_of, no_stored}
use Rattle.stored.specs.Refusals.{stored_no}

-- making: "7 and 8 now come from making or changing one"
abbrev pub layout_answer : Layout → Answer (List ℕ)
layout_answer q = if_done (layout_no q) (stored_of q) no_stored

-- what settles a layout: the record r, the shifts x, y and the pitch p
abbrev pub settled_by : SuperOpts → ℕ → ℕ → ℕ → Layout
settled_by r x y p = record { opts = r; x_shift = x; y_shift = y; pitch = p }

-- "Changing the pitch or the shifts of a stored layout gives the layout one would get afresh"
abbrev pub change_answer : SuperOpts → List ℕ → ℕ → ℕ → ℕ → Answer (List ℕ)
change_answer r l x y p = let q = settled_by r x y p in if_done (stored_no r l then layout_no q) (stored_of q) no_stored

abbrev pub laid : Result (List ℕ) Refusal → Answer (List ℕ)
laid = outcome no_stored
