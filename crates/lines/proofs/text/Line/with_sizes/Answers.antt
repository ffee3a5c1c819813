-- `with_sizes` meets its contract. Assumes nothing.
use borrow.Author.Rules.{rules}
use Rattle.settings.proofs.Fields.{SizesFit}
use Rattle.lines.proofs.Lines.{◌after◌, int_said}
use Rattle.lines.proofs.text.Line.with_sizes.Goals as goal

pub returns : goal.returns
returns c =
    let fields : SizesFit c.args.d = search rules in
    let d = c.args.d in
    let f = fields in
    int_said d.gpu f.gpu c.with_int-5.ensures
    after int_said d.levels f.levels c.with_int-4.ensures
    after int_said d.pel f.pel c.with_int-3.ensures
    after int_said d.height f.height c.with_int-2.ensures
    after int_said d.width f.width c.with_int.ensures
