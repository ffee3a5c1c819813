-- `row_within` meets its contract. Assumes nothing.
use mathlib.Core.Path.{◌≡◌, ap, ap₂, ◌∙◌}
use mathlib.Core.Bool.{true}
use Prim.Native.Nat.{ℕ}
use native.Mathlib.Omega.{arith}
use lib.Dec.{leb}
use borrow.Author.Tests.{le-leb}
use Rattle.settings.specs.declared.refusal.Refusal.TheVariants.{NoRow, Lent}
use Rattle.settings.specs.declared.refusal.BadLent.TheVariants.{Frame}
use Rattle.settings.specs.Numbers.{refuse}
use Rattle.settings.specs.Answers.{if_done}
use Rattle.settings.proofs.Known.{refused}
use Rattle.layouts.specs.declared.layout.Layout.{Layout}
use Rattle.layouts.specs.Layout.{levels_of}
use Rattle.layouts.specs.Refusals.{no_row}
use Rattle.layouts.specs.Answers.{run_of, no_run}
use Rattle.stored.specs.Layout.{view_of}
use Rattle.lookups.specs.Refusals.{row_no}
use Rattle.lookups.proofs.Numbers.{row_kept, frame_short, frame_long, row_last}
use Rattle.lookups.proofs.rows.row_within.Goals as goal

pub returns-then-len-end : goal.returns-then-len-end
returns-then-len-end c =
    let a = c.args in
    let r = a.stored.opts in
    let l = a.stored.numbers.now in
    let short = frame_short r l a.len a.stored.passes (omega (arith, c.end.ensures, c.if-len-end.true)) in
    refused (row_no r l a.len a.level a.plane a.y) (Lent Frame) (run_of (view_of r l) a.level a.plane a.y) no_run (row_kept r l a.len (Lent Frame) a.level a.plane a.y short)

pub returns-then-levels-level : goal.returns-then-levels-level
returns-then-levels-level c =
    let a = c.args in
    let r = a.stored.opts in
    let l = a.stored.numbers.now in
    let q = view_of r l in
    let long = frame_long r l a.len a.stored.passes (omega (arith, c.end.ensures, c.if-len-end.false)) in
    let past : leb (levels_of q) a.level ≡ true = le-leb (levels_of q) a.level (omega (arith, c.levels.ensures, c.if-levels-level.true)) in
    refused (row_no r l a.len a.level a.plane a.y) NoRow (run_of q a.level a.plane a.y) no_run (rw past at (row_last r l a.len a.level a.plane a.y long))

pub returns : goal.returns
returns c =
    let a = c.args in
    let r = a.stored.opts in
    let l = a.stored.numbers.now in
    let long = frame_long r l a.len a.stored.passes (omega (arith, c.end.ensures, c.if-len-end.false)) in
    c.row.ensures
    ∙ ap₂ (λ (q : Layout) (n : ℕ). if_done (refuse (no_row q n a.plane a.y) 19) (run_of q n a.plane a.y) no_run) c.level.ensures.0 c.level.ensures.1
    ∙ ap (λ (n : ℕ). if_done n (run_of (view_of r l) a.level a.plane a.y) no_run) (row_last r l a.len a.level a.plane a.y long)
