-- `place_in` meets its contract. Assumes nothing.
use mathlib.Core.Path.{◌≡◌, refl, sym, ap, ◌∙◌}
use mathlib.Core.Bool.{true, false}
use Prim.Native.Nat.{ℕ, ◌≤◌}
use native.Mathlib.Omega.{arith}
use lib.Dec.{leb}
use borrow.Author.Tests.{le-leb, lt-leb}
use Rattle.std.proofs.lemmas.Result.{err_from_is_err_and}
use Rattle.settings.specs.declared.refusal.Refusal.TheVariants.{NoRow, Lent}
use Rattle.settings.specs.declared.refusal.BadLent.TheVariants.{Frame}
use Rattle.settings.specs.declared.super_opts.SuperOpts.{SuperOpts}
use Rattle.settings.specs.Numbers.{refuse}
use Rattle.settings.specs.Answers.{Answer, if_done}
use Rattle.settings.proofs.Known.{refused, number_of}
use Rattle.layouts.specs.declared.layout.Layout.{Layout}
use Rattle.layouts.specs.declared.rows.Run.{Run}
use Rattle.layouts.specs.Refusals.{no_row}
use Rattle.layouts.specs.Answers.{run_of, no_run, placed}
use Rattle.frames.specs.declared.parts.Part.{Part}
use Rattle.frames.specs.declared.parts.Parts.{Parts}
use Rattle.frames.specs.Parts.{plane_of, parts_of, planes_no, part_no, run_in_of}
use Rattle.frames.proofs.Laid.{part_by}
use Rattle.frames.proofs.Rows.{part_short, part_long, moved, moved_le, placed_in, refused_in}
use Rattle.frames.proofs.framed.Framed.place_in.Goals as goal

-- the row in its part, by the part's layout
known : (r : SuperOpts) (k l j y : ℕ) {q : Layout} {f : Answer Run} → q ≡ plane_of r k → f ≡ if_done (refuse (no_row q l j y) 19) (run_of q l j y) no_run → f ≡ if_done (refuse (no_row (plane_of r k) l j y) 19) (run_of (plane_of r k) l j y) no_run
known r k l j y is e = e ∙ ap (λ (q : Layout). if_done (refuse (no_row q l j y) 19) (run_of q l j y) no_run) is

-- a part that is there, in a frame that is long enough
within : (r : SuperOpts) (len k : ℕ) {p : Parts} → planes_no r ≡ 0 → p ≡ parts_of r → p.length ≤ len → k ≤ 2 → part_no r len k ≡ 0
within r len k none is long le =
    let some : leb 3 k ≡ false = lt-leb 3 k (omega (arith, le)) in
    sym (part_long r len k none (omega (arith, ap (λ (p : Parts). p.length) is, long))) ∙ ap (λ t. refuse t 19) some

pub returns-then-len-parts : goal.returns-then-len-parts
returns-then-len-parts c =
    let a = c.args in
    let r = a.self.opts in
    refused_in r a.part a.level a.plane a.y a.len (Lent Frame) (part_short r a.len a.part a.self.takes (omega (arith, ap (λ (p : Parts). p.length) c.parts-parts.ensures, c.if-len-parts.true)))

pub returns-then-part-gt2 : goal.returns-then-part-gt2
returns-then-part-gt2 c =
    let a = c.args in
    let r = a.self.opts in
    let none : leb 3 a.part ≡ true = le-leb 3 a.part (omega (arith, c.if-part-gt2.true)) in
    refused_in r a.part a.level a.plane a.y a.len NoRow (sym (ap (λ t. refuse t 19) none) ∙ part_long r a.len a.part a.self.takes (omega (arith, ap (λ (p : Parts). p.length) c.parts-parts.ensures, c.if-len-parts.false)))

pub overflow_add-result : goal.overflow_add-result
overflow_add-result c =
    let a = c.args in
    let r = a.self.opts in
    let le : a.part ≤ 2 = omega (arith, c.if-part-gt2.false) in
    let start = ap (λ (p : Part). p.start) (part_by r a.part c.parts-parts.ensures c.part-own.ensures le) in
    omega (arith, moved_le r a.part a.level a.plane a.y (sym (ap placed c.in_ok-run.was) ∙ known r a.part a.level a.plane a.y c.plane.ensures c.row_in.ensures) start a.self.takes le refl)

pub returns : goal.returns
returns c =
    let a = c.args in
    let r = a.self.opts in
    let le : a.part ≤ 2 = omega (arith, c.if-part-gt2.false) in
    let start = ap (λ (p : Part). p.start) (part_by r a.part c.parts-parts.ensures c.part-own.ensures le) in
    placed_in r a.part a.level a.plane a.y a.len (within r a.len a.part a.self.takes c.parts-parts.ensures c.if-len-parts.false le)
    (moved r a.part a.level a.plane a.y (sym (ap placed c.in_ok-run.was) ∙ known r a.part a.level a.plane a.y c.plane.ensures c.row_in.ensures) start)

pub returns-in_err-run : goal.returns-in_err-run
returns-in_err-run c =
    let a = c.args in
    let r = a.self.opts in
    let le : a.part ≤ 2 = omega (arith, c.if-part-gt2.false) in
    let p = err_from_is_err_and c.from_residual.result c.from_residual.ensures.1 in
    let f = c.in_err-run.field-0.0 in
    rw (p.1, p.2) (placed_in r a.part a.level a.plane a.y a.len (within r a.len a.part a.self.takes c.parts-parts.ensures c.if-len-parts.false le)
    (refused (refuse (no_row (plane_of r a.part) a.level a.plane a.y) 19) f (run_in_of r a.part a.level a.plane a.y) no_run (number_of (sym (ap placed c.in_err-run.was) ∙ known r a.part a.level a.plane a.y c.plane.ensures c.row_in.ensures))))
