-- `reduce` meets its contract. Assumes nothing.
use mathlib.Core.Path.{◌≡◌, refl, sym, ap, ◌∙◌}
use mathlib.Core.Bool.{Bool, ◌&&◌}
use Rattle.settings.proofs.Tests.{and_right}
use Rattle.builder.proofs.Runs.{staged_as}
use Rattle.planes.proofs.Prepared.{fused_stored, fused_whole, within_here, spread_here, by_fused, by_stored, by_source}
use Rattle.planes.proofs.later.reduce.Goals as goal

-- the test by which the level's way is chosen
test : (fuse fuses : Bool) {asked : Bool} → fuses ≡ asked → (fuse && asked) ≡ (fuse && fuses)
test fuse fuses e = ap (λ (b : Bool). fuse && b) (sym e)

pub reduce_cubic-requires : goal.reduce_cubic-requires
reduce_cubic-requires c =
    let s = c.requires in
    let t = c.args.later in
    let e = and_right c.args.fuse _ (test c.args.fuse c.fuses.result c.fuses.ensures ∙ c.if-fuse-fuses.true) in
    (within_here _ s.0 _ s.1 t.at.there t.above t.at.lies (fused_stored _ _ _ e), rw t.at.lies (fused_whole _ _ _ e))

pub returns-then-fuse-fuses : goal.returns-then-fuse-fuses
returns-then-fuse-fuses c =
    let s = c.requires in
    let t = c.args.later in
    record {
      bytes = by_fused _ s.0 _ s.1 t.at.there t.above t.at.lies _ _ _ _ _ refl (test c.args.fuse c.fuses.result c.fuses.ensures ∙ c.if-fuse-fuses.true) c.reduce_cubic.ensures;
      frame_long = c.reduce_cubic.auto.frame;
      spill_long = refl;
      frame_name = refl;
      spill_name = refl;
    }

pub reduce_within-requires : goal.reduce_within-requires
reduce_within-requires c =
    let s = c.requires in
    let t = c.args.later in
    within_here _ s.0 _ s.1 t.at.there t.above t.at.lies c.if-layout-later.true

pub returns-then-layout-later : goal.returns-then-layout-later
returns-then-layout-later c =
    let s = c.requires in
    let t = c.args.later in
    record {
      bytes = by_stored _ s.0 _ s.1 t.at.there t.above t.at.lies _ _ _ _ _ refl (test c.args.fuse c.fuses.result c.fuses.ensures ∙ c.if-fuse-fuses.false) c.if-layout-later.true c.reduce_within.ensures;
      frame_long = c.reduce_within.auto.frame;
      spill_long = refl;
      frame_name = refl;
      spill_name = refl;
    }

pub reduce_separate-requires : goal.reduce_separate-requires
reduce_separate-requires c =
    let s = c.requires in
    let t = c.args.later in
    spread_here _ s.0 _ s.1 t.at.there t.above t.at.lies c.if-layout-later.false

pub returns : goal.returns
returns c =
    let s = c.requires in
    let t = c.args.later in
    staged_as c.reduce_separate.ensures (by_source _ s.0 _ s.1 t.at.there t.above t.at.lies _ _ _ c.args.canvas.now.frame.now c.args.canvas.now.spill.now refl (test c.args.fuse c.fuses.result c.fuses.ensures ∙ c.if-fuse-fuses.false) c.if-layout-later.false refl)
