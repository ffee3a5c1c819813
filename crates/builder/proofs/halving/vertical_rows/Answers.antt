use Rattle.layouts.proofs.Loops.{walked_none, walked_more}
use Rattle.builder.proofs.halving.vertical_rows.Goals as goal

pub loop-y-init : goal.loop-y-init
loop-y-init c = walked_none

pub loop-y-preserved : goal.loop-y-preserved
loop-y-preserved c =
    let l = c.loop-y in
    let v = c.vertical_row in
    walked_more l.invariant c.loop-y-test.true v.auto.frame v.ensures
