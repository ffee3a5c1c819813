-- `six_row` meets its contract. Assumes nothing.
use lib.ListN.{length}
use Rattle.filters.proofs.Filling.{Filled}
use Rattle.filters.specs.Row.{six_at}
use Rattle.filters.proofs.six.six_row.Given as goal

abbrev pub invariant-loop-i : goal.invariant-loop-i
invariant-loop-i g l = Filled (six_at (g.T.Taps.rule l.taps) l.m2 l.m1 l.c0 l.p1 l.p2 l.p3) l.out (length l.out) l.i
