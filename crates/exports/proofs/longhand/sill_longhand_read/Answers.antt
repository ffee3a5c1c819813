-- `sill_longhand_read` meets its contract. Assumes nothing.
use mathlib.Core.Path.{sym, ◌∙◌}
use Rattle.exports.proofs.Spelled.{left_short}
use Rattle.exports.proofs.longhand.sill_longhand_read.Goals as goal

pub returns-then-no_room : goal.returns-then-no_room
returns-then-no_room c = let a = c.args in left_short a.bytes.now a.fields.now a.after.now (sym c.no_room.ensures ∙ c.if-no_room.true)
