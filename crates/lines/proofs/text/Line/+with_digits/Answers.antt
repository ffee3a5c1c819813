-- `with_digits` meets its contract: a digit more after what the call for the rest put there. Assumes nothing.
use mathlib.Core.Path.{sym}
use native.Mathlib.Omega.{arith}
use Rattle.lines.proofs.Lines.{◌after◌, said, more}
use Rattle.lines.proofs.text.Line.+with_digits.Goals as goal

pub returns : goal.returns
returns t c =
    let p = c.with_byte-2.ensures after c.with_digits.ensures in
    said (sym (more c.args.most c.args.n c.requires.1 c.if-n-lt10.false)) (record { text = p.text; room = omega (arith, p.room, c.requires.1) })
