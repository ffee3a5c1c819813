-- `build_levels` meets its contract. Assumes nothing.
use mathlib.Core.Path.{◌≡◌, sym, ap, ◌∙◌}
use Prim.Native.Nat.{◌≤◌}
use native.Mathlib.Omega.{arith}
use Rattle.settings.specs.declared.super_opts.Naturals.{Naturals}
use Rattle.layouts.specs.Layout.{levels_of}
use Rattle.builder.specs.Canvas.{bytes_of}
use Rattle.builder.proofs.Runs.{staged_none, staged_then, staged_as}
use Rattle.planes.proofs.Whole.{no_level, all_stages}
use Rattle.planes.proofs.build.build_levels.Goals as goal

pub returns-then-naturals-eq0 : goal.returns-then-naturals-eq0
returns-then-naturals-eq0 c =
    let count : c.naturals.result.levels ≡ levels_of c.args.fitting.layout = ap (λ (x : Naturals). x.levels) c.naturals.ensures in
    let a = c.args in
    staged_as staged_none (no_level a.fuse a.fitting.layout a.src.now (bytes_of a.canvas.now) a.src_pitch _ (sym (count) ∙ c.if-naturals-eq0.true))

pub returns : goal.returns
returns c =
    let count : c.naturals.result.levels ≡ levels_of c.args.fitting.layout = ap (λ (x : Naturals). x.levels) c.naturals.ensures in
    let some : 1 ≤ levels_of c.args.fitting.layout = omega (arith, count, c.if-naturals-eq0.false) in
    let a = c.args in
    let later = staged_then c.reduce_levels.ensures c.refine_planes.ensures in
    record {
      bytes = all_stages a.fuse a.fitting.layout a.src.now a.canvas.now.frame.now a.canvas.now.spill.now _ _ _ c.requires (some) c.copy_rows.auto.frame c.copy_rows.ensures c.reduce_levels.ensures.bytes c.refine_planes.ensures.bytes;
      frame_long = later.frame_long ∙ c.copy_rows.auto.frame;
      spill_long = later.spill_long;
      frame_name = later.frame_name;
      spill_name = later.spill_name;
    }
