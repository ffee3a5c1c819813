-- `in_blocks` meets its contract. Assumes nothing.
use Prim.Native.Nat.{◌-◌}
use Rattle.filters.proofs.Filling.{Filled}
use Rattle.filters.proofs.rows.in_blocks.Given as goal

abbrev pub invariant-loop-at : goal.invariant-loop-at
invariant-loop-at g l = Filled (g.S.Source.byte l.source) l.out l.n l.at

abbrev pub decreases-loop-at : goal.decreases-loop-at
decreases-loop-at g l = l.n - l.at
