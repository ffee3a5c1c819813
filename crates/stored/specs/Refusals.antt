-- Document 02, order 5: "32 the layout isn't the record's, after 6".
use Rattle.std.specs.Prelude.{ℕ, not, List}
use Rattle.settings.specs.declared.super_opts.SuperOpts.{SuperOpts}
use Rattle.settings.specs.Numbers.{refuse, ◌then◌}
use Rattle.settings.specs.Check.{record_no}
use Rattle.stored.specs.Layout.{is_stored}

unfoldable pub stored_no : SuperOpts → List ℕ → ℕ
stored_no r l = record_no r then refuse (not (is_stored r l)) 32
