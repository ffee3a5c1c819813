use mathlib.Core.Path.{sym, ap, ap₂, ◌∙◌}
use Prim.Native.Nat.{ℕ, ◌+◌}
use native.Mathlib.Omega.{arith}
use lib.ListN.{length-set}
use Rattle.settings.specs.declared.super_opts.Naturals.{Naturals}
use Rattle.filters.proofs.Filling.{filled_fewer}
use Rattle.layouts.specs.Layout.{region_at}
use Rattle.layouts.proofs.Layouts.{turn, region_there}
use Rattle.stored.proofs.Places.{filled_level, filled_rest}
use Rattle.stored.proofs.layout.fill.Goals as goal

pub bounds-numbers-i : goal.bounds-numbers-i
bounds-numbers-i c =
    let q = c.args.fitting in
    omega (arith, turn q.layout c.loop-level.level q.fits c.naturals-levels.ensures c.loop-level-test.true, c.loop-level.invariant.3.long)

pub bounds-numbers-i-in-loop-level : goal.bounds-numbers-i-in-loop-level
bounds-numbers-i-in-loop-level c =
    let q = c.args.fitting in
    rw length-set (omega (arith, turn q.layout c.loop-level.level q.fits c.naturals-levels.ensures c.loop-level-test.true, c.loop-level.invariant.3.long))

pub bounds-numbers-i-in-loop-level-2 : goal.bounds-numbers-i-in-loop-level-2
bounds-numbers-i-in-loop-level-2 c =
    let q = c.args.fitting in
    rw (length-set, length-set) (omega (arith, turn q.layout c.loop-level.level q.fits c.naturals-levels.ensures c.loop-level-test.true, c.loop-level.invariant.3.long))

pub region-r-requires : goal.region-r-requires
region-r-requires c = rw c.loop-level.invariant.0 c.args.fitting.fits

pub next-at-requires : goal.next-at-requires
next-at-requires c =
    let q = c.args.fitting in
    let l = c.loop-level in
    (rw l.invariant.0 q.fits, omega (arith, turn q.layout l.level q.fits c.naturals-levels.ensures c.loop-level-test.true, l.invariant.1))

pub loop-level-preserved : goal.loop-level-preserved
loop-level-preserved c =
    let q = c.args.fitting in
    let l = c.loop-level in
    let there = turn q.layout l.level q.fits c.naturals-levels.ensures c.loop-level-test.true in (
      c.next-at.ensures.0 ∙ l.invariant.0,
      c.next-at.ensures.1 ∙ ap (λ (n : ℕ). n + 1) l.invariant.1,
      omega (arith, c.loop-level-test.true),
      filled_level q.layout l.invariant.3 there.1 (c.region-r.ensures ∙ ap₂ region_at l.invariant.0 l.invariant.1 ∙ sym (region_there q.layout l.level there.0)),
    )

pub returns : goal.returns
returns c =
    let q = c.args.fitting.layout in
    filled_rest q (filled_fewer c.loop-level.invariant.3 (omega (arith, c.loop-level-test.false))) (omega (arith, ap (λ (x : Naturals). x.levels) c.naturals-levels.ensures)) c.zero.ensures
