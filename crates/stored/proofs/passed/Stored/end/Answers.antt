-- `end` meets its contract. Assumes nothing.
use mathlib.Core.Path.{sym, ap, ◌∙◌}
use Rattle.layouts.specs.Layout.{offset_at}
use Rattle.layouts.proofs.Layouts.{offset_first}
use Rattle.stored.specs.Layout.{view_of}
use Rattle.stored.proofs.passed.Stored.end.Goals as goal

pub returns-then-levels-eq0 : goal.returns-then-levels-eq0
returns-then-levels-eq0 c =
    let q = view_of c.args.self.opts c.args.self.numbers.now in
    sym (ap (offset_at q) (sym c.levels-levels.ensures ∙ c.if-levels-eq0.true) ∙ offset_first q)
