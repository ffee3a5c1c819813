-- `candidate` meets its contract. Assumes nothing.
use borrow.Author.Rules.{rules}
use Rattle.settings.specs.Reading.{candidate}
use Rattle.settings.proofs.Integers.{same}
use Rattle.settings.proofs.word.candidate.Goals as goal

pub returns : goal.returns
unfolding candidate
returns c = rw (same c.field.result (search rules), same c.field-2.result (search rules), same c.down_by.result (search rules), same c.field-3.result (search rules), same c.field-4.result (search rules), same c.field-5.result (search rules))
    (rw (c.field.ensures, c.field-2.ensures, c.down_by.ensures, c.is_set.ensures, c.is_set-2.ensures, c.is_set-3.ensures, c.is_set-4.ensures, c.field-3.ensures, c.field-4.ensures, c.field-5.ensures))
