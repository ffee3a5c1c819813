use mathlib.Core.Path.{ap, ap₂, ◌∙◌}
use Prim.Native.Nat.{ℕ, ◌+◌, ◌-◌}
use native.Mathlib.Omega.{arith}
use lib.ListN.{length}
use Rattle.settings.specs.declared.super_opts.Naturals.{Naturals}
use Rattle.layouts.specs.declared.layout.Layout.{Layout}
use Rattle.layouts.specs.Storing.{steps}
use Rattle.layouts.specs.Layout.{levels_of}
use Rattle.layouts.proofs.Layouts.{turn, above_at}
use Rattle.builder.specs.Canvas.{bytes_of}
use Rattle.builder.proofs.Runs.{passed_none, passed_next, passed_whole, staged_as}
use Rattle.planes.specs.Build.{level_by, halved_by}
use Rattle.planes.proofs.later.reduce_each.Goals as goal

pub loop-level-init : goal.loop-level-init
loop-level-init c = (omega arith, passed_none, c.top-above.ensures.0, c.top-above.ensures.1)

pub next-at-requires : goal.next-at-requires
next-at-requires c =
    let q = c.args.fitting in
    let l = c.loop-level in
    (rw l.invariant.2 q.fits, omega (arith, turn q.layout l.level q.fits c.naturals-levels.ensures c.loop-level-test.true, l.invariant))

pub here-requires : goal.here-requires
here-requires c =
    let q = c.args.fitting in
    let l = c.loop-level in
    let same = c.next-at.ensures.0 ∙ l.invariant.2 in
    (rw same q.fits, omega (arith, turn q.layout l.level q.fits c.naturals-levels.ensures c.loop-level-test.true, l.invariant.0, l.invariant.3, c.next-at.ensures.1, ap levels_of same))

pub invariant_of-later : goal.invariant_of-later
invariant_of-later c = record { above = above_at c.loop-level.above c.next-at.result c.here.result c.next-at.ensures.0 c.next-at.ensures.1 c.here.ensures.0 c.here.ensures.1 }

pub reduce-requires : goal.reduce-requires
reduce-requires c =
    let l = c.loop-level in
    rw (c.here.ensures.0, c.next-at.ensures.0, l.invariant.2, l.invariant.1.staged.frame_long, l.invariant.1.staged.spill_long, l.auto.scratch) (c.requires, omega (arith, c.next-at.ensures.1, c.here.ensures.1))

pub loop-level-preserved : goal.loop-level-preserved
loop-level-preserved c =
    let a = c.args in
    let l = c.loop-level in
    let r = c.reduce in
    let same = c.next-at.ensures.0 ∙ l.invariant.2 in (
      omega arith,
      passed_next (level_by a.fuse a.fitting.layout a.src.now a.src_pitch (length a.canvas.now.frame.now) a.filter) l.invariant.0 l.invariant.1 c.loop-level-test.true
          (staged_as r.ensures (ap₂ (λ (x : Layout) (n : ℕ). level_by a.fuse x a.src.now a.src_pitch (length l.canvas.frame.now) a.filter n (bytes_of l.canvas)) (c.here.ensures.0 ∙ same) (omega (arith, l.invariant.0, l.invariant.3, c.next-at.ensures.1, c.here.ensures.1)) ∙ ap (λ (k : ℕ). level_by a.fuse a.fitting.layout a.src.now a.src_pitch k a.filter l.level (bytes_of l.canvas)) l.invariant.1.staged.frame_long)),
      same,
      omega (arith, l.invariant.0, l.invariant.3, c.next-at.ensures.1),
    )

pub returns : goal.returns
unfolding halved_by
returns c =
    let a = c.args in
    let n = ap (λ (x : Naturals). x.levels) c.naturals-levels.ensures in
    staged_as (passed_whole c.loop-level.invariant.1 (omega (arith, c.loop-level-test.false)))
    (ap (λ (k : ℕ). steps (λ i. level_by a.fuse a.fitting.layout a.src.now a.src_pitch (length a.canvas.now.frame.now) a.filter (i + 1)) (k - 1) (bytes_of a.canvas.now)) n)
