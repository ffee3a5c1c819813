use mathlib.Core.Path.{ap, ◌∙◌}
use Prim.Native.Nat.{ℕ, ◌+◌, ◌*◌}
use Rattle.filters.specs.declared.halving.ReduceFilter.TheVariants.{Cubic}
use Rattle.layouts.specs.Storing.{put}
use Rattle.layouts.proofs.Loops.{walked_none, walked_more}
use Rattle.builder.specs.Halving.{vertical_line, fused_line}
use Rattle.builder.proofs.halving.reduce_cubic.Goals as goal

pub loop-y-init : goal.loop-y-init
loop-y-init c = walked_none

pub loop-y-preserved : goal.loop-y-preserved
loop-y-preserved c =
    let t = c.args.target in
    let l = c.loop-y in
    let v = c.fused_row in
    walked_more l.invariant c.loop-y-test.true v.auto.frame (v.ensures ∙ ap (λ (n : ℕ). put l.frame (t.offset + l.y * c.args.pitch) (fused_line c.args.pitch t.width (vertical_line Cubic n (2 * t.width) t.height l.frame c.args.base c.args.pitch l.y))) c.requires.1)
