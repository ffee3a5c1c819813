-- What a call tells of a layout: what a build needs, and where a row lies; and the answer that tells a row.
use Rattle.std.specs.Prelude.{ℕ, Result}
use Rattle.settings.specs.declared.refusal.Refusal.{Refusal}
use Rattle.settings.specs.Answers.{Answer, outcome}
use Rattle.layouts.specs.declared.layout.Layout.{Layout}
use Rattle.layouts.specs.declared.layout.Needs.{Needs}
use Rattle.layouts.specs.declared.rows.Run.{Run}
use Rattle.layouts.specs.Layout.{width_at, row_start, spill_need, scratch_need}

-- what a build needs beside the frame: the needs of numbers 12 and 13
abbrev pub needs_of : Layout → Needs
needs_of q = record { spill = spill_need q; scratch = scratch_need q }

abbrev pub no_needs : Needs
no_needs = record { spill = 0; scratch = 0 }

-- where row y of plane k of level l lies
abbrev pub run_of : Layout → ℕ → ℕ → ℕ → Run
run_of q l k y = record { offset = row_start q l k y; length = width_at q l }

abbrev pub no_run : Run
no_run = record { offset = 0; length = 0 }

abbrev pub placed : Result Run Refusal → Answer Run
placed = outcome no_run
