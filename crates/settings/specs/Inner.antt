-- Inner: a record whose levels were just counted from its size is accepted if the rest of it is; and a record that passed its test.
use Rattle.std.specs.Prelude.{Result, Ok, Err, Bool, ◌&&◌, ◌||◌, eqb}
use Rattle.settings.specs.declared.refusal.Refusal.{Refusal}
use Rattle.settings.specs.declared.record.Accepted.{Accepted}
use Rattle.settings.specs.declared.super_opts.SuperOpts.{SuperOpts}
use Rattle.settings.specs.Numbers.{is_nat}
use Rattle.settings.specs.Check.{settings_no}

-- what `accepted` asks, but for the levels
abbrev pub accepted_but_levels : SuperOpts → Bool
accepted_but_levels r = eqb (settings_no r) 0 && (is_nat r.gpu 0 || is_nat r.scale_up 0)

-- the record itself, or its refusal
abbrev pub plainly : Result Accepted Refusal → Result SuperOpts Refusal
plainly (Ok a) = Ok a.opts
plainly (Err f) = Err f
