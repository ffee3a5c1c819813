-- `quarter` meets its contract. Assumes nothing.
use Rattle.builder.proofs.Refined.{quarter_fits}
use Rattle.builder.proofs.refining.quarter.Goals as goal

pub pair-requires : goal.pair-requires
pair-requires c = quarter_fits _ _ _ _ c.requires.1 c.requires.0 c.requires.2 c.plane-target.ensures c.plane.ensures c.plane-right.ensures
