use Rattle.layouts.proofs.Loops.{walked_none, walked_more}
use Rattle.builder.proofs.refining.Interp.vertical.Goals as goal

pub loop-y-init : goal.loop-y-init
loop-y-init c = walked_none

pub loop-y-preserved : goal.loop-y-preserved
loop-y-preserved c = walked_more c.loop-y.invariant c.loop-y-test.true c.vertical_row.auto.frame c.vertical_row.ensures
