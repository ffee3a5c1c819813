use mathlib.Core.Path.{◌∙◌}
use Prim.Native.Nat.{◌+◌, ◌*◌}
use native.Mathlib.Omega.{arith}
use Rattle.layouts.proofs.Loops.{row_fits, walked_none, walked_more}
use Rattle.builder.proofs.Halves.{halve_alone}
use Rattle.builder.proofs.halving.horizontal_rows.Goals as goal

pub loop-y-init : goal.loop-y-init
loop-y-init c = walked_none

pub loop-y-preserved : goal.loop-y-preserved
loop-y-preserved c =
    let l = c.loop-y in
    let lt = c.loop-y-test.true in
    let v = c.finish_row in
    let w = c.args.target.width in
    let at = c.args.target.offset + l.y * c.args.pitch in
    walked_more l.invariant lt v.auto.frame (v.ensures ∙ halve_alone c.args.filter w at _ (omega (arith, row_fits _ _ _ _ _ _ c.requires.1 c.requires.2 lt, l.invariant.same)))
