-- `is_stored` meets its contract. Assumes nothing.
use mathlib.Core.Path.{◌≡◌, refl, sym, ap, ◌∙◌}
use mathlib.Core.Bool.{true}
use lib.ListN.{length}
use borrow.Author.Tests.{eq-eqb, ne_eqb, not-true, not-false}
use Rattle.settings.specs.declared.super_opts.Naturals.{Naturals}
use Rattle.layouts.specs.declared.layout.Layout.{Layout}
use Rattle.layouts.specs.Refusals.{least_pitch, bad_pitch, layout_no}
use Rattle.stored.specs.Layout.{most_numbers, view_of, is_stored}
use Rattle.stored.specs.Inner.{has_view, keeps}
use Rattle.stored.proofs.Exact.{shaped, layout_by_pitch, viewless, by_levels}
use Rattle.stored.proofs.layout.is_stored.Goals as goal

pub returns-then-not-has_view : goal.returns-then-not-has_view
returns-then-not-has_view c =
    let s = c.args in
    sym (viewless s.opts s.numbers.now (sym c.has_view.ensures ∙ not-true c.has_view.result c.if-not-has_view.true-raw))

pub returns-then-bad_pitch : goal.returns-then-bad_pitch
unfolding is_stored
returns-then-bad_pitch c =
    let shape : has_view c.args.numbers.now ≡ true = sym c.has_view.ensures ∙ not-false c.has_view.result c.if-not-has_view.false-raw in
    let pitch : bad_pitch (view_of c.args.opts c.args.numbers.now).pitch (least_pitch (view_of c.args.opts c.args.numbers.now)) ≡ c.bad_pitch.result = ap (λ (q : Layout). bad_pitch q.pitch (least_pitch q)) (sym c.view-layout.ensures) ∙ ap (bad_pitch c.view-layout.result.pitch) (sym c.least_pitch.ensures) ∙ sym c.bad_pitch.ensures in
    let s = c in
    rw (layout_by_pitch s.args.opts s.args.numbers.now s.requires (shape), pitch ∙ c.if-bad_pitch.true) refl

pub returns-then-numbers-naturals : goal.returns-then-numbers-naturals
unfolding is_stored keeps
returns-then-numbers-naturals c =
    let shape : has_view c.args.numbers.now ≡ true = sym c.has_view.ensures ∙ not-false c.has_view.result c.if-not-has_view.false-raw in
    let long : length c.args.numbers.now ≡ most_numbers = (shaped c.args.numbers.now (shape)).long in
    let pitch : bad_pitch (view_of c.args.opts c.args.numbers.now).pitch (least_pitch (view_of c.args.opts c.args.numbers.now)) ≡ c.bad_pitch.result = ap (λ (q : Layout). bad_pitch q.pitch (least_pitch q)) (sym c.view-layout.ensures) ∙ ap (bad_pitch c.view-layout.result.pitch) (sym c.least_pitch.ensures) ∙ sym c.bad_pitch.ensures in
    let none : layout_no (view_of c.args.opts c.args.numbers.now) ≡ 0 = let s = c in rw (layout_by_pitch s.args.opts s.args.numbers.now s.requires (shape), pitch ∙ c.if-bad_pitch.false) refl in
    let s = c.args in
    let n = ap (λ (x : Naturals). x.levels) c.naturals.ensures in
    rw (none, sym (by_levels s.opts s.numbers.now (long)), ne_eqb _ _ (λ e. c.if-numbers-naturals.true (e ∙ sym n))) refl

pub has_regions-requires : goal.has_regions-requires
has_regions-requires c =
    let shape : has_view c.args.numbers.now ≡ true = sym c.has_view.ensures ∙ not-false c.has_view.result c.if-not-has_view.false-raw in
    let long : length c.args.numbers.now ≡ most_numbers = (shaped c.args.numbers.now (shape)).long in
    let pitch : bad_pitch (view_of c.args.opts c.args.numbers.now).pitch (least_pitch (view_of c.args.opts c.args.numbers.now)) ≡ c.bad_pitch.result = ap (λ (q : Layout). bad_pitch q.pitch (least_pitch q)) (sym c.view-layout.ensures) ∙ ap (bad_pitch c.view-layout.result.pitch) (sym c.least_pitch.ensures) ∙ sym c.bad_pitch.ensures in
    let none : layout_no (view_of c.args.opts c.args.numbers.now) ≡ 0 = let s = c in rw (layout_by_pitch s.args.opts s.args.numbers.now s.requires (shape), pitch ∙ c.if-bad_pitch.false) refl in
    long

pub invariant_of-has_regions : goal.invariant_of-has_regions
invariant_of-has_regions c =
    let shape : has_view c.args.numbers.now ≡ true = sym c.has_view.ensures ∙ not-false c.has_view.result c.if-not-has_view.false-raw in
    let long : length c.args.numbers.now ≡ most_numbers = (shaped c.args.numbers.now (shape)).long in
    let pitch : bad_pitch (view_of c.args.opts c.args.numbers.now).pitch (least_pitch (view_of c.args.opts c.args.numbers.now)) ≡ c.bad_pitch.result = ap (λ (q : Layout). bad_pitch q.pitch (least_pitch q)) (sym c.view-layout.ensures) ∙ ap (bad_pitch c.view-layout.result.pitch) (sym c.least_pitch.ensures) ∙ sym c.bad_pitch.ensures in
    let none : layout_no (view_of c.args.opts c.args.numbers.now) ≡ 0 = let s = c in rw (layout_by_pitch s.args.opts s.args.numbers.now s.requires (shape), pitch ∙ c.if-bad_pitch.false) refl in
    record { fits = ap layout_no c.view-layout.ensures ∙ none }

pub returns : goal.returns
unfolding is_stored keeps
returns c =
    let shape : has_view c.args.numbers.now ≡ true = sym c.has_view.ensures ∙ not-false c.has_view.result c.if-not-has_view.false-raw in
    let long : length c.args.numbers.now ≡ most_numbers = (shaped c.args.numbers.now (shape)).long in
    let pitch : bad_pitch (view_of c.args.opts c.args.numbers.now).pitch (least_pitch (view_of c.args.opts c.args.numbers.now)) ≡ c.bad_pitch.result = ap (λ (q : Layout). bad_pitch q.pitch (least_pitch q)) (sym c.view-layout.ensures) ∙ ap (bad_pitch c.view-layout.result.pitch) (sym c.least_pitch.ensures) ∙ sym c.bad_pitch.ensures in
    let none : layout_no (view_of c.args.opts c.args.numbers.now) ≡ 0 = let s = c in rw (layout_by_pitch s.args.opts s.args.numbers.now s.requires (shape), pitch ∙ c.if-bad_pitch.false) refl in
    let s = c.args in
    let n = ap (λ (x : Naturals). x.levels) c.naturals.ensures in
    rw (none, sym (by_levels s.opts s.numbers.now (long)), eq-eqb _ _ (c.if-numbers-naturals.false ∙ n), sym c.view-layout.ensures) c.has_regions.ensures
