-- `prepare_alike` meets its contract. Assumes nothing.
use Rattle.settings.specs.Reading.{alike}
use Rattle.settings.proofs.word.prepare_alike.Goals as goal

pub returns : goal.returns
unfolding alike
returns c = rw (c.names_build.ensures, c.names_build-2.ensures, c.agree.ensures)
