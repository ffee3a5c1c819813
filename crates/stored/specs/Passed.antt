-- Inner: a caller's numbers that passed the test.
use Rattle.std.specs.Prelude.{ℕ, List, Result, Ok, Err}
use Rattle.std.specs.Borrow.{Bor}
use Rattle.settings.specs.declared.refusal.Refusal.{Refusal}
use Rattle.settings.specs.declared.super_opts.SuperOpts.{SuperOpts}
use Rattle.stored.specs.declared.passed.Stored.{Stored}

-- the record and the numbers themselves, or their refusal
abbrev pub plainly : Result Stored Refusal → Result (SuperOpts × Bor (List ℕ)) Refusal
plainly (Ok s) = Ok (s.opts, s.numbers)
plainly (Err r) = Err r
