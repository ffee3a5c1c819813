-- `build_parts` meets its contract. Assumes nothing.
use mathlib.Core.Path.{refl, ◌∙◌}
use native.Mathlib.Omega.{arith}
use lib.ListN.{length}
use Rattle.frames.specs.Build.{three}
use Rattle.frames.proofs.Prepared.{Granted, granted, part_asks}
use Rattle.frames.proofs.Joined.{in_turn_lem}
use Rattle.frames.proofs.build.build_parts.Goals as goal

pub build_part-requires : goal.build_part-requires
build_part-requires c =
    let grants : Granted c.args.framed.opts (three (length c.args.y.now) (length c.args.u.now) (length c.args.v.now)) (three c.args.y_pitch c.args.u_pitch c.args.v_pitch) (length c.args.frame.now) (length c.args.spill.now) (length c.args.scratch.now) = granted _ _ _ _ _ _ c.requires in
    part_asks grants refl refl refl 0 (omega arith)

pub build_part-requires-2 : goal.build_part-requires-2
build_part-requires-2 c =
    let grants : Granted c.args.framed.opts (three (length c.args.y.now) (length c.args.u.now) (length c.args.v.now)) (three c.args.y_pitch c.args.u_pitch c.args.v_pitch) (length c.args.frame.now) (length c.args.spill.now) (length c.args.scratch.now) = granted _ _ _ _ _ _ c.requires in
    let k = c.build_part.auto in part_asks grants k.frame k.spill k.scratch 1 (omega arith)

pub build_part-requires-3 : goal.build_part-requires-3
build_part-requires-3 c =
    let grants : Granted c.args.framed.opts (three (length c.args.y.now) (length c.args.u.now) (length c.args.v.now)) (three c.args.y_pitch c.args.u_pitch c.args.v_pitch) (length c.args.frame.now) (length c.args.spill.now) (length c.args.scratch.now) = granted _ _ _ _ _ _ c.requires in
    let y = c.build_part.auto in
    let u = c.build_part-2.auto in
    part_asks grants (u.frame ∙ y.frame) (u.spill ∙ y.spill) (u.scratch ∙ y.scratch) 2 (omega arith)

pub returns : goal.returns
returns c =
    let grants : Granted c.args.framed.opts (three (length c.args.y.now) (length c.args.u.now) (length c.args.v.now)) (three c.args.y_pitch c.args.u_pitch c.args.v_pitch) (length c.args.frame.now) (length c.args.spill.now) (length c.args.scratch.now) = granted _ _ _ _ _ _ c.requires in
    let a = c.args in
    in_turn_lem a.framed.opts _ _ (three a.y.now a.u.now a.v.now) a.frame.now grants c.build_part.ensures c.build_part-2.ensures c.build_part-3.ensures
