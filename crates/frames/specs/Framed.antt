-- Inner: a record that passed the tests of a frame of three planes.
use Rattle.std.specs.Prelude.{Result, Ok, Err}
use Rattle.settings.specs.declared.refusal.Refusal.{Refusal}
use Rattle.settings.specs.declared.super_opts.SuperOpts.{SuperOpts}
use Rattle.frames.specs.declared.framed.Framed.{Framed}

-- the record itself, or its refusal
abbrev pub plainly : Result Framed Refusal → Result SuperOpts Refusal
plainly (Ok f) = Ok f.opts
plainly (Err r) = Err r
