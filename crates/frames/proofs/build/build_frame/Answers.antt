-- `build_frame` meets its contract. Assumes nothing.
use mathlib.Core.Path.{sym, ap, ◌∙◌}
use lib.ListN.{length, replicate}
use Rattle.std.proofs.lemmas.Result.{err_from_is_err_and}
use Prim.Native.Nat.{ℕ}
use mathlib.Core.Path.{◌≡◌}
use Rattle.settings.specs.declared.refusal.Refusal.{Refusal}
use Rattle.settings.specs.declared.super_opts.SuperOpts.{SuperOpts}
use Rattle.settings.specs.Numbers.{refuse, ◌then◌}
use Rattle.settings.specs.Answers.{Answer, answer, number}
use Rattle.settings.proofs.Known.{given, refused}
use Rattle.planes.proofs.Whole.{lent_zeroed}
use Rattle.layouts.specs.Layout.{width_at}
use Rattle.layouts.specs.Refusals.{bad_pitch}
use Rattle.layouts.proofs.Layouts.{then_kept}
use Rattle.frames.specs.Parts.{plane_of, planes_no}
use Rattle.frames.specs.Build.{any_of, three, lent_frame_no, build_frame_no, frame_left}
use Rattle.frames.proofs.build.build_frame.Goals as goal

-- a refusal of the planes is the frame's
refused_planes : (r : SuperOpts) (n sp : ℕ → ℕ) (len spill scratch : ℕ) (f : Refusal) → number f ≡ planes_no r → number f ≡ build_frame_no r n sp len spill scratch
unfolding build_frame_no
refused_planes r n sp len spill scratch f e =
    let second = refuse (any_of (λ k. bad_pitch (sp k) (width_at (plane_of r k) 0))) 9 in
    let first = then_kept f (planes_no r) second e in
    e ∙ first ∙ then_kept f (planes_no r then second) (lent_frame_no r n sp len spill scratch) (e ∙ first)

pub returns-in_err-framed : goal.returns-in_err-framed
unfolding build_frame_no lent_frame_no
returns-in_err-framed c =
    let a = c.args in
    let ns = three (length a.y.now) (length a.u.now) (length a.v.now) in
    let sp = three a.y_pitch a.u_pitch a.v_pitch in
    let n = build_frame_no a.opts ns sp (length a.frame.now) (length a.spill.now) (length a.scratch.now) in
    let left = frame_left a.opts (three a.y.now a.u.now a.v.now) sp a.frame.now in
    let p = err_from_is_err_and c.from_residual.result c.from_residual.ensures.1 in
    let f = c.in_err-framed.field-0.0 in
    let e = refused_planes a.opts ns sp (length a.frame.now) (length a.spill.now) (length a.scratch.now) f (ap (λ (x : Answer SuperOpts). x.no) c.in_err-framed.ensures) in
    rw (p.1, p.2)
    (refused n f left a.frame.now e, refused n f (replicate (length a.spill.now) 0) a.spill.now e, refused n f (replicate (length a.scratch.now) 0) a.scratch.now e)

pub returns-in_err-build_tested : goal.returns-in_err-build_tested
unfolding build_frame_no lent_frame_no
returns-in_err-build_tested c =
    let a = c.args in
    let ns = three (length a.y.now) (length a.u.now) (length a.v.now) in
    let sp = three a.y_pitch a.u_pitch a.v_pitch in
    let n = build_frame_no a.opts ns sp (length a.frame.now) (length a.spill.now) (length a.scratch.now) in
    let left = frame_left a.opts (three a.y.now a.u.now a.v.now) sp a.frame.now in
    let p = err_from_is_err_and c.from_residual-in_err-build_tested.result c.from_residual-in_err-build_tested.ensures.1 in
    let f = c.in_err-build_tested.field-0.0 in
    let same = ap (λ (x : Answer SuperOpts). x.value) c.in_ok-framed.ensures in
    let e = c.in_err-build_tested.ensures ∙ ap (λ (r : SuperOpts). build_frame_no r ns sp (length a.frame.now) (length a.spill.now) (length a.scratch.now)) same in
    rw (p.1, p.2)
    (refused n f left a.frame.now e, refused n f (replicate (length a.spill.now) 0) a.spill.now e, refused n f (replicate (length a.scratch.now) 0) a.scratch.now e)

pub returns : goal.returns
unfolding build_frame_no lent_frame_no
returns c =
    let a = c.args in
    let ns = three (length a.y.now) (length a.u.now) (length a.v.now) in
    let src = three a.y.now a.u.now a.v.now in
    let sp = three a.y_pitch a.u_pitch a.v_pitch in
    let n = build_frame_no a.opts ns sp (length a.frame.now) (length a.spill.now) (length a.scratch.now) in
    let same = ap (λ (x : Answer SuperOpts). x.value) c.in_ok-framed.ensures in
    let e = sym (c.in_ok-build_tested.ensures ∙ ap (λ (r : SuperOpts). build_frame_no r ns sp (length a.frame.now) (length a.spill.now) (length a.scratch.now)) same) in
    let k = c.build_parts.auto in
    (ap (answer 0) (c.build_parts.ensures ∙ ap (λ (r : SuperOpts). frame_left r src sp a.frame.now) same) ∙ given n (frame_left a.opts src sp a.frame.now) a.frame.now e, lent_zeroed n _ a.spill.now _ c.zero_row.ensures k.spill e, lent_zeroed n _ a.scratch.now _ c.zero_row-2.ensures k.scratch e)
