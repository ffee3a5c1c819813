use native.Mathlib.Omega.{arith}
use Rattle.filters.proofs.Filling.{filled_fewer, filled_whole, filled_part}
use Rattle.filters.proofs.rows.in_blocks.Goals as goal

pub loop-at-preserved : goal.loop-at-preserved
loop-at-preserved g c = filled_part c.loop-at.invariant g.row.N (omega arith) c.put_block.ensures

pub returns : goal.returns
returns g c = filled_whole (filled_part (filled_fewer c.loop-at.invariant (omega arith)) g.row.N (omega arith) c.put_block-2.ensures) (omega arith)
