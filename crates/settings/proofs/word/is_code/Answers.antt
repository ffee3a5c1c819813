-- `is_code` meets its contract. Assumes nothing.
use Rattle.settings.specs.Reading.{is_code}
use Rattle.settings.proofs.Words.{packed_word_lem, packed_not}
use Rattle.settings.proofs.word.is_code.Goals as goal

pub returns-in-Ok : goal.returns-in-Ok
unfolding is_code
returns-in-Ok c = let k = packed_word_lem c.args.r c.in-Ok.w c.in-Ok.ensures in rw (k.0, k.1)

pub returns-in-Err : goal.returns-in-Err
unfolding is_code
returns-in-Err c = rw (packed_not c.args.r c.in-Err.field-0 c.in-Err.ensures)
