use mathlib.Core.Path.{◌≡◌, sym, ap, ◌∙◌}
use mathlib.Core.Bool.{true}
use mathlib.Core.List.{List}
use Prim.Native.Nat.{ℕ, ◌+◌, ◌*◌, ◌≤◌, ◌<◌}
use native.Mathlib.Omega.{arith}
use lib.ListN.{length}
use borrow.Author.Tests.{lt-ltb, not-false}
use Rattle.layouts.specs.Storing.{put, steps}
use Rattle.layouts.specs.Layout.{width_at, height_at}
use Rattle.layouts.proofs.Choices.{cond_yes}
use Rattle.layouts.proofs.Loops.{walked_none, walked_more, walked_whole}
use Rattle.layouts.proofs.Layouts.{allowed}
use Rattle.builder.specs.Canvas.{fetch}
use Rattle.builder.proofs.Runs.{fetch_length}
use Rattle.planes.specs.Build.{copied}
use Rattle.planes.proofs.Whole.{target_row, source_row}
use Rattle.planes.proofs.build.copy_rows.Goals as goal

pub loop-y-init : goal.loop-y-init
loop-y-init c = walked_none

pub overflow_mul-y : goal.overflow_mul-y
overflow_mul-y c =
    let full : c.args.layout.opts.full ≡ true = not-false c.args.layout.opts.full c.if-not-layout.false in
    let rows : (c.loop-y.y * c.args.layout.pitch + c.width-w.result ≤ length c.loop-y.frame) × (c.loop-y.y * c.args.src_pitch + c.width-w.result ≤ length c.args.src.now) = let q = c.args.layout in
    let y = c.loop-y.y in
    let lt : y < height_at q 0 = omega (arith, c.loop-y-test.true, c.height-h.ensures) in
    let r = c.requires.1 in
    let w = c.width-w.ensures in
    (omega (arith, w, c.loop-y.invariant.same, target_row q (allowed q r.layout) _ c.requires.0 r.end (full) y lt), omega (arith, w, source_row q r c.requires.0 y lt)) in
    omega (arith, rows)

pub source_row-requires : goal.source_row-requires
source_row-requires c =
    let full : c.args.layout.opts.full ≡ true = not-false c.args.layout.opts.full c.if-not-layout.false in
    let rows : (c.loop-y.y * c.args.layout.pitch + c.width-w.result ≤ length c.loop-y.frame) × (c.loop-y.y * c.args.src_pitch + c.width-w.result ≤ length c.args.src.now) = let q = c.args.layout in
    let y = c.loop-y.y in
    let lt : y < height_at q 0 = omega (arith, c.loop-y-test.true, c.height-h.ensures) in
    let r = c.requires.1 in
    let w = c.width-w.ensures in
    (omega (arith, w, c.loop-y.invariant.same, target_row q (allowed q r.layout) _ c.requires.0 r.end (full) y lt), omega (arith, w, source_row q r c.requires.0 y lt)) in
    λ lt. omega (arith, (rows).1)

pub put-requires : goal.put-requires
put-requires c =
    let full : c.args.layout.opts.full ≡ true = not-false c.args.layout.opts.full c.if-not-layout.false in
    let rows : (c.loop-y.y * c.args.layout.pitch + c.width-w.result ≤ length c.loop-y.frame) × (c.loop-y.y * c.args.src_pitch + c.width-w.result ≤ length c.args.src.now) = let q = c.args.layout in
    let y = c.loop-y.y in
    let lt : y < height_at q 0 = omega (arith, c.loop-y-test.true, c.height-h.ensures) in
    let r = c.requires.1 in
    let w = c.width-w.ensures in
    (omega (arith, w, c.loop-y.invariant.same, target_row q (allowed q r.layout) _ c.requires.0 r.end (full) y lt), omega (arith, w, source_row q r c.requires.0 y lt)) in
    let taken : c.source_row.result.now ≡ fetch c.args.src.now (c.loop-y.y * c.args.src_pitch) c.width-w.result = c.source_row.ensures ∙ cond_yes _ _ _ (lt-ltb _ _ c.loop-y-test.true) in
    omega (arith, (rows).0, ap length (taken) ∙ fetch_length _ _ _)

pub loop-y-preserved : goal.loop-y-preserved
loop-y-preserved c =
    let taken : c.source_row.result.now ≡ fetch c.args.src.now (c.loop-y.y * c.args.src_pitch) c.width-w.result = c.source_row.ensures ∙ cond_yes _ _ _ (lt-ltb _ _ c.loop-y-test.true) in
    walked_more c.loop-y.invariant c.loop-y-test.true c.put.auto.c
    (c.put.ensures ∙ ap (put c.loop-y.frame _) (taken))

pub returns : goal.returns
unfolding copied
returns c =
    let full : c.args.layout.opts.full ≡ true = not-false c.args.layout.opts.full c.if-not-layout.false in
    let a = c.args in
    let q = a.layout in
    let F = a.frame.now in
    let row : ℕ → ℕ → List ℕ → List ℕ = λ w i d. put d (i * q.pitch) (fetch a.src.now (i * a.src_pitch) w) in
    walked_whole c.loop-y.invariant c.loop-y-test.false
    ∙ ap (λ (k : ℕ). steps (row k) c.height-h.result F) c.width-w.ensures
    ∙ ap (λ (k : ℕ). steps (row (width_at q 0)) k F) c.height-h.ensures
    ∙ sym (cond_yes q.opts.full _ _ (full))
