use mathlib.Core.Path.{◌≡◌, sym, ap, ap₂, ◌∙◌}
use mathlib.Core.Bool.{false}
use native.Mathlib.Omega.{arith}
use Rattle.settings.specs.declared.super_opts.Naturals.{Naturals}
use Rattle.settings.specs.Limits.{most_levels}
use Rattle.layouts.specs.declared.layout.Region.{Region}
use Rattle.layouts.specs.Layout.{region_at}
use Rattle.layouts.proofs.Layouts.{turn, region_there}
use Rattle.stored.specs.Inner.{region_in, same_region, same_at}
use Rattle.stored.proofs.Exact.{apart, every_yes, every_no}
use Rattle.stored.proofs.layout.has_regions.Goals as goal

pub region_in-requires : goal.region_in-requires
region_in-requires c = let q = c.args.fitting in ((turn q.layout c.loop-level.level q.fits c.naturals-levels.ensures c.loop-level-test.true).1, c.requires)

pub region-requires : goal.region-requires
region-requires c = rw c.loop-level.invariant.0 c.args.fitting.fits

pub returns-then-ne : goal.returns-then-ne
returns-then-ne c =
    let q = c.args.fitting.layout in
    let numbers = c.args.numbers.now in
    let l = c.loop-level.level in
    let there = turn q l c.args.fitting.fits c.naturals-levels.ensures c.loop-level-test.true in
    let target = c.region.ensures ∙ ap₂ region_at c.loop-level.invariant.0 c.loop-level.invariant.1 ∙ sym (region_there q l there.0) in
    let other : same_at q numbers l ≡ false = ap (same_region (region_in numbers l)) (sym target) ∙ ap (λ (x : Region). same_region x c.region.result) (sym c.region_in.ensures) ∙ apart c.region_in.result c.region.result (sym c.ne.ensures ∙ c.if-ne.true) in
    sym (every_no (same_at q numbers) most_levels l there.1 other)

pub next-at-requires : goal.next-at-requires
next-at-requires c =
    let q = c.args.fitting in
    let l = c.loop-level in
    (rw l.invariant.0 q.fits, omega (arith, turn q.layout l.level q.fits c.naturals-levels.ensures c.loop-level-test.true, l.invariant.1))

pub ends_in_zeros-requires : goal.ends_in_zeros-requires
ends_in_zeros-requires c =
    let l = c.loop-level in
    (ap (λ (x : Naturals). x.levels) c.naturals-levels.ensures, c.requires, every_yes (same_at c.args.fitting.layout c.args.numbers.now) c.naturals-levels.result.levels (λ j lt. l.invariant.3 j (omega (arith, c.loop-level-test.false))))
