use mathlib.Core.Path.{ap, ap₂, ◌∙◌}
use Prim.Native.Nat.{ℕ, ◌+◌, ◌-◌}
use native.Mathlib.Omega.{arith}
use Rattle.settings.specs.declared.super_opts.Naturals.{Naturals}
use Rattle.layouts.specs.declared.layout.Layout.{Layout}
use Rattle.layouts.specs.Storing.{steps}
use Rattle.layouts.specs.Layout.{levels_of, written_end}
use Rattle.layouts.specs.Margins.{clear_level, cleared}
use Rattle.layouts.proofs.Loops.{walked_none, walked_next, walked_whole}
use Rattle.layouts.proofs.Layouts.{turn, above_at}
use Rattle.lookups.proofs.margins.clear_levels.Goals as goal

pub loop-level-init : goal.loop-level-init
loop-level-init c = (omega arith, walked_none, c.top-above.ensures.0, c.top-above.ensures.1)

pub next-at-requires : goal.next-at-requires
next-at-requires c =
    let q = c.args.fitting in
    let l = c.loop-level in
    (rw l.invariant.2 q.fits, omega (arith, turn q.layout l.level q.fits c.naturals-levels.ensures c.loop-level-test.true, l.invariant))

pub here-requires : goal.here-requires
here-requires c =
    let q = c.args.fitting in
    let l = c.loop-level in
    let same = c.next-at.ensures.0 ∙ l.invariant.2 in
    (rw same q.fits, omega (arith, turn q.layout l.level q.fits c.naturals-levels.ensures c.loop-level-test.true, l.invariant.0, l.invariant.3, c.next-at.ensures.1, ap levels_of same))

pub invariant_of-later : goal.invariant_of-later
invariant_of-later c = record { above = above_at c.loop-level.above c.next-at.result c.here.result c.next-at.ensures.0 c.next-at.ensures.1 c.here.ensures.0 c.here.ensures.1 }

pub clear-requires : goal.clear-requires
clear-requires c =
    let l = c.loop-level in (
      omega (arith, c.next-at.ensures.1, c.here.ensures.1),
      omega (arith, c.requires, l.invariant.1.same, ap written_end (c.here.ensures.0 ∙ c.next-at.ensures.0 ∙ l.invariant.2)),
    )

pub loop-level-preserved : goal.loop-level-preserved
loop-level-preserved c =
    let l = c.loop-level in
    let same = c.next-at.ensures.0 ∙ l.invariant.2 in (
      omega arith,
      walked_next (clear_level c.args.fitting.layout) l.invariant.0 l.invariant.1 c.loop-level-test.true c.clear.auto.frame
          (c.clear.ensures ∙ ap₂ (λ (x : Layout) (n : ℕ). clear_level x n l.frame) (c.here.ensures.0 ∙ same) (omega (arith, l.invariant.0, l.invariant.3, c.next-at.ensures.1, c.here.ensures.1))),
      same,
      omega (arith, l.invariant.0, l.invariant.3, c.next-at.ensures.1),
    )

pub returns : goal.returns
unfolding cleared
returns c =
    let s = c.args in
    let n = ap (λ (x : Naturals). x.levels) c.naturals-levels.ensures in
    walked_whole c.loop-level.invariant.1 (omega (arith, c.loop-level-test.false)) ∙ ap (λ (k : ℕ). steps (λ i. clear_level s.fitting.layout (i + 1)) (k - 1) s.frame.now) n
