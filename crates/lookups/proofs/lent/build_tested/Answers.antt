-- `build_tested` meets its contract. Assumes nothing.
use mathlib.Core.Path.{◌≡◌, refl, sym, ap, ◌∙◌}
use Rattle.std.proofs.lemmas.Result.{err_from_is_err_and}
use Rattle.settings.specs.Numbers.{refuse, ◌then◌}
use Rattle.layouts.specs.declared.layout.Layout.{Layout}
use Rattle.layouts.specs.Layout.{width_at, written_end}
use Rattle.layouts.specs.Refusals.{bad_pitch, lent_no}
use Rattle.layouts.proofs.Layouts.{pitch_within, then_kept}
use Rattle.stored.specs.Layout.{view_of}
use Rattle.stored.specs.Refusals.{stored_no}
use Rattle.stored.proofs.Exact.{none_told, view_kept, number_told}
use Rattle.lookups.specs.Refusals.{stored_build_no}
use Rattle.lookups.proofs.lent.build_tested.Goals as goal

pub returns-in_err-stored : goal.returns-in_err-stored
unfolding stored_build_no
returns-in_err-stored c =
    let s = c.args in
    let n = stored_no s.opts s.layout.now in
    let q = view_of s.opts s.layout.now in
    let p = err_from_is_err_and c.from_residual.result c.from_residual.ensures.1 in
    let r = c.in_err-stored.field-0.0 in
    let e = number_told c.in_err-stored.ensures in
    let second = refuse (bad_pitch s.src_pitch (width_at q 0)) 9 in
    let first = then_kept r n second e in
    rw (p.1, p.2) (e ∙ first ∙ then_kept r (n then second) (lent_no q s.src s.src_pitch s.frame s.spill s.scratch) (e ∙ first))

pub returns-then-bad_pitch : goal.returns-then-bad_pitch
unfolding stored_build_no
returns-then-bad_pitch c =
    let e = c.in_ok-stored.ensures in
    let bad : bad_pitch c.args.src_pitch (width_at (view_of c.args.opts c.args.layout.now) 0) ≡ c.bad_pitch.result = sym (c.bad_pitch.ensures ∙ ap (bad_pitch c.args.src_pitch) (c.width.ensures ∙ ap (λ (q : Layout). width_at q 0) (c.layout-q.ensures ∙ view_kept e))) in
    rw (none_told e, bad ∙ c.if-bad_pitch.true) refl

pub lent_tested-requires : goal.lent_tested-requires
lent_tested-requires c =
    let q = c.layout-q.result.layout in
    ((pitch_within c.args.src_pitch (width_at q 0) (ap (bad_pitch c.args.src_pitch) (sym c.width.ensures) ∙ sym c.bad_pitch.ensures ∙ c.if-bad_pitch.false)).2, c.end.ensures ∙ ap written_end (sym c.layout-q.ensures))

pub returns : goal.returns
unfolding stored_build_no
returns c =
    let s = c.args in
    let e = c.in_ok-stored.ensures in
    let view = c.layout-q.ensures ∙ view_kept e in
    let bad : bad_pitch s.src_pitch (width_at (view_of s.opts s.layout.now) 0) ≡ c.bad_pitch.result = sym (c.bad_pitch.ensures ∙ ap (bad_pitch s.src_pitch) (c.width.ensures ∙ ap (λ (q : Layout). width_at q 0) view)) in
    rw (none_told e, bad ∙ c.if-bad_pitch.false) (c.lent_tested.ensures ∙ ap (λ (q : Layout). lent_no q s.src s.src_pitch s.frame s.spill s.scratch) view)
