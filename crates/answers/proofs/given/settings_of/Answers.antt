-- `settings_of` meets its contract. Assumes nothing.
use borrow.Author.Rules.{rules}
use Rattle.answers.proofs.given.settings_of.Goals as goal

pub returns : goal.returns
returns c =
    rw (c.then_some.ensures, c.then_some-2.ensures, c.then_some-3.ensures, c.then_some-4.ensures, c.then_some-5.ensures, c.then_some-6.ensures, c.then_some-7.ensures)
    (rw (c.is_present.ensures, c.is_present-2.ensures, c.is_present-3.ensures, c.is_present-4.ensures, c.is_present-5.ensures, c.is_present-6.ensures, c.is_present-7.ensures) (search rules))
