-- Inner: a layout that passed its tests.
use Rattle.std.specs.Prelude.{Result, Ok, Err}
use Rattle.settings.specs.declared.refusal.Refusal.{Refusal}
use Rattle.layouts.specs.declared.layout.Layout.{Layout}
use Rattle.layouts.specs.declared.fitting.Fitting.{Fitting}

-- the layout itself, or its refusal
abbrev pub plainly : Result Fitting Refusal → Result Layout Refusal
plainly (Ok f) = Ok f.layout
plainly (Err r) = Err r
