-- `frame_row_place` meets its contract. Assumes nothing.
use mathlib.Core.Path.{ap}
use Rattle.std.proofs.lemmas.Result.{err_from_is_err_and}
use Rattle.settings.specs.declared.super_opts.SuperOpts.{SuperOpts}
use Rattle.settings.specs.Answers.{Answer}
use Rattle.frames.proofs.Rows.{refused_planes}
use Rattle.frames.proofs.parts.frame_row_place.Goals as goal

pub returns-in_err-framed : goal.returns-in_err-framed
returns-in_err-framed c =
    let s = c.args in
    let p = err_from_is_err_and c.from_residual.result c.from_residual.ensures.1 in
    rw (p.1, p.2) (refused_planes s.opts s.part s.level s.plane s.y s.len c.in_err-framed.field-0.0 (ap (λ (a : Answer SuperOpts). a.no) c.in_err-framed.ensures))
