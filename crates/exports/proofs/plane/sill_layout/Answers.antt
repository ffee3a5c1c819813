-- `sill_layout` meets its contract. Assumes nothing.
use mathlib.Core.Path.{sym, ap, ◌∙◌}
use Rattle.layouts.specs.declared.layout.Layout.{Layout}
use Rattle.settings.specs.Answers.{Answer}
use Rattle.stored.specs.Layout.{stored_of}
use Rattle.stored.proofs.Places.{stored_long}
use Rattle.answers.proofs.Telling.{tell_refused}
use Rattle.exports.specs.Calls.{layout_tells}
use Rattle.exports.proofs.plane.sill_layout.Goals as goal

pub returns-in-Err : goal.returns-in-Err
returns-in-Err c =
    let q = c.layout_of-q.result in
    let l = c.args.layout.now in
    tell_refused c.in-Err.f (stored_of q) l (ap (λ (a : Answer Layout). a.no) c.in-Err.ensures) c.lowest.ensures (sym (stored_long q))
    ∙ ap (λ (x : Layout). layout_tells x l) c.layout_of-q.ensures
