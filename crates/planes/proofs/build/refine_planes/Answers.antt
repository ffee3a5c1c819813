-- `refine_planes` meets its contract. Assumes nothing.
use mathlib.Core.Path.{◌≡◌, sym, ap, ◌∙◌}
use mathlib.Core.Bool.{◌&&◌}
use lib.Dec.{ltb}
use mir.Syntax.{w32}
use mir.Facts.{to_z-of_z}
use borrow.Author.Tests.{not-false, not-true}
use borrow.Author.Rules.{rules}
use Rattle.settings.specs.declared.super_opts.Naturals.{Naturals}
use Rattle.filters.specs.Refine.{upscale}
use Rattle.builder.specs.Canvas.{bytes_of}
use Rattle.builder.proofs.Runs.{staged_none, staged_as}
use Rattle.planes.specs.Build.{refines}
use Rattle.planes.proofs.Whole.{refine_ready, refined_yes, refined_no}
use Rattle.planes.proofs.build.refine_planes.Goals as goal

pub returns-then-not-refines : goal.returns-then-not-refines
returns-then-not-refines c =
    let tests : (ltb 1 c.naturals-n.result.pel && ltb c.naturals-n.result.gpu 2 && c.args.fitting.layout.opts.full) ≡ refines c.args.fitting.layout = ap (λ (x : Naturals). ltb 1 x.pel && ltb x.gpu 2 && c.args.fitting.layout.opts.full) c.naturals-n.ensures in
    let a = c.args in
    staged_as staged_none (refined_no a.fitting.layout _ (sym (tests) ∙ not-true _ c.if-not-refines.true-raw))

pub refine-requires : goal.refine-requires
refine-requires c =
    let tests : (ltb 1 c.naturals-n.result.pel && ltb c.naturals-n.result.gpu 2 && c.args.fitting.layout.opts.full) ≡ refines c.args.fitting.layout = ap (λ (x : Naturals). ltb 1 x.pel && ltb x.gpu 2 && c.args.fitting.layout.opts.full) c.naturals-n.ensures in
    let pre = c.requires in
    refine_ready c.args.fitting.layout _ _ _ (ap (λ (x : Naturals). x.pel) c.naturals-n.ensures) c.width.ensures c.height.ensures
    (sym (tests) ∙ not-false _ c.if-not-refines.false-raw)
    _ _ _ c.args.fitting.fits pre.0 pre.1 pre.2 pre.3

pub returns : goal.returns
returns c =
    let tests : (ltb 1 c.naturals-n.result.pel && ltb c.naturals-n.result.gpu 2 && c.args.fitting.layout.opts.full) ≡ refines c.args.fitting.layout = ap (λ (x : Naturals). ltb 1 x.pel && ltb x.gpu 2 && c.args.fitting.layout.opts.full) c.naturals-n.ensures in
    let chosen : c.from_option-upscale.result ≡ upscale c.args.fitting.layout.opts.scale_up = c.from_option-upscale.ensures ∙ ap upscale (to_z-of_z {w = w32} (search rules)) in
    let a = c.args in
    staged_as c.refine.ensures
    (refined_yes a.fitting.layout _ _ _ (ap (λ (x : Naturals). x.pel) c.naturals-n.ensures) c.width.ensures c.height.ensures
    (sym (tests) ∙ not-false _ c.if-not-refines.false-raw)
    c.from_option-upscale.result (bytes_of a.canvas.now) (chosen))
