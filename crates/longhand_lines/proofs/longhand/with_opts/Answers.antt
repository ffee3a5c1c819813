-- `with_opts` meets its contract. Assumes nothing.
use Rattle.settings.proofs.Fields.{FieldsFit}
use Rattle.longhand_lines.specs.Longhand.{opts_text}
use Rattle.lines.proofs.Lines.{◌after◌, int_said}
use borrow.Author.Rules.{rules}
use Rattle.longhand_lines.proofs.longhand.with_opts.Goals as goal

pub returns : goal.returns
unfolding opts_text
returns c =
    let fields : FieldsFit c.args.opts = search rules in
    let r = c.args.opts in
    let f = fields in
    int_said r.scale_up f.up c.with_int-6.ensures
    after int_said r.scale_down f.down c.with_int-5.ensures
    after c.with_flags.ensures
    after int_said r.gpu f.gpu c.with_int-4.ensures
    after int_said r.pel f.pel c.with_int-3.ensures
    after int_said r.height f.height c.with_int-2.ensures
    after int_said r.width f.width c.with_int.ensures
