use Rattle.builder.proofs.Runs.{passed_none, passed_more}
use Rattle.builder.proofs.separate.spread_horizontal.Goals as goal

pub loop-y-init : goal.loop-y-init
loop-y-init c = passed_none

pub loop-y-preserved : goal.loop-y-preserved
loop-y-preserved c =
    passed_more c.loop-y.invariant c.loop-y-test.true c.spread_halve_row.ensures
