-- `sill_layout_change` meets its contract. Assumes nothing.
use mathlib.Core.Path.{ap, ◌∙◌}
use Rattle.settings.specs.declared.super_opts.SuperOpts.{SuperOpts}
use Rattle.exports.specs.Calls.{change_tells}
use Rattle.exports.proofs.Changed.{change_told}
use Rattle.exports.proofs.plane.sill_layout_change.Goals as goal

pub returns-in-Ok : goal.returns-in-Ok
returns-in-Ok c =
    let r = c.record_of.result in
    let a = c.args in
    let l = a.layout.now in
    change_told r l a.x_shift a.y_shift a.pitch c.in-Ok.ensures c.put.ensures
    ∙ ap (λ (x : SuperOpts). change_tells x a.x_shift a.y_shift a.pitch l) c.record_of.ensures
