-- `level_plane` meets its contract. Assumes nothing.
use Rattle.std.proofs.lemmas.Result.{err_from_is_err_and}
use Rattle.settings.proofs.Known.{refused}
use Rattle.stored.specs.Layout.{view_of}
use Rattle.stored.proofs.Exact.{number_told}
use Rattle.lookups.specs.Refusals.{level_plane_no}
use Rattle.lookups.specs.Answers.{level_plane, no_level_plane}
use Rattle.lookups.proofs.Numbers.{frame_kept, plane_kept}
use Rattle.lookups.proofs.rows.level_plane.Goals as goal

pub returns-in_err-stored : goal.returns-in_err-stored
returns-in_err-stored c =
    let s = c.args in
    let p = err_from_is_err_and c.from_residual.result c.from_residual.ensures.1 in
    let r = c.in_err-stored.field-0.0 in
    let e = number_told c.in_err-stored.ensures in
    rw (p.1, p.2) (refused (level_plane_no s.opts s.layout.now s.len s.level s.plane) r (level_plane (view_of s.opts s.layout.now) s.level s.plane) no_level_plane (plane_kept s.opts s.layout.now s.len r s.level s.plane (frame_kept s.opts s.layout.now s.len r e)))
