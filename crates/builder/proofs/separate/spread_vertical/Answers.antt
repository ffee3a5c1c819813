use Rattle.builder.proofs.Runs.{passed_none, passed_more}
use Rattle.builder.proofs.separate.spread_vertical.Goals as goal

pub loop-y-init : goal.loop-y-init
loop-y-init c = passed_none

pub loop-y-preserved : goal.loop-y-preserved
loop-y-preserved c = let r = c.spread_vertical_row in passed_more c.loop-y.invariant c.loop-y-test.true r.ensures
