-- `clear_margins` meets its contract. Assumes nothing.
use mathlib.Core.Path.{ap, ◌∙◌}
use native.Mathlib.Omega.{arith}
use lib.ListN.{length}
use Rattle.std.proofs.lemmas.Result.{err_from_is_err_and}
use Rattle.settings.specs.declared.refusal.Refusal.TheVariants.{Lent}
use Rattle.settings.specs.declared.refusal.BadLent.TheVariants.{Frame}
use Rattle.settings.specs.Answers.{answer}
use Rattle.settings.proofs.Known.{given, refused}
use Rattle.layouts.specs.declared.layout.Layout.{Layout}
use Rattle.layouts.specs.Layout.{written_end}
use Rattle.layouts.specs.Margins.{cleared}
use Rattle.stored.specs.Layout.{view_of}
use Rattle.stored.proofs.Exact.{none_told, view_kept, number_told}
use Rattle.lookups.specs.Refusals.{frame_no}
use Rattle.lookups.proofs.Numbers.{frame_kept, frame_short, frame_long}
use Rattle.lookups.proofs.margins.clear_margins.Goals as goal

pub returns-in_err-stored : goal.returns-in_err-stored
returns-in_err-stored c =
    let s = c.args in
    let f = s.frame.now in
    let p = err_from_is_err_and c.from_residual.result c.from_residual.ensures.1 in
    let r = c.in_err-stored.field-0.0 in
    rw (p.1, p.2) (refused (frame_no s.opts s.layout.now (length f)) r (cleared (view_of s.opts s.layout.now) f) f (frame_kept s.opts s.layout.now (length f) r (number_told c.in_err-stored.ensures)))

pub returns-then-frame-end : goal.returns-then-frame-end
returns-then-frame-end c =
    let s = c.args in
    let f = s.frame.now in
    let e = c.in_ok-stored.ensures in
    refused (frame_no s.opts s.layout.now (length f)) (Lent Frame) (cleared (view_of s.opts s.layout.now) f) f
    (frame_short s.opts s.layout.now (length f) (none_told e) (omega (arith, c.end.ensures, ap written_end (view_kept e), c.if-frame-end.true)))

pub clear_levels-requires : goal.clear_levels-requires
clear_levels-requires c = rw c.layout.ensures (omega (arith, c.end.ensures, c.if-frame-end.false))

pub returns : goal.returns
returns c =
    let s = c.args in
    let f = s.frame.now in
    let e = c.in_ok-stored.ensures in
    let none = frame_long s.opts s.layout.now (length f) (none_told e) (omega (arith, c.end.ensures, ap written_end (view_kept e), c.if-frame-end.false)) in
    ap (answer 0) (c.clear_levels.ensures ∙ ap (λ (q : Layout). cleared q f) (c.layout.ensures ∙ view_kept e)) ∙ given (frame_no s.opts s.layout.now (length f)) (cleared (view_of s.opts s.layout.now) f) f none
