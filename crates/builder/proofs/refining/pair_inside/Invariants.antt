-- `pair_inside` meets its contract. The loop has laid the bytes passed. Assumes nothing.
use Rattle.builder.proofs.Refined.{Laid, mean_at}
use Rattle.builder.proofs.refining.pair_inside.Given as goal

abbrev pub invariant-loop-i : goal.invariant-loop-i
invariant-loop-i l = Laid (mean_at l.initial.frame l.l l.r) l.initial.frame l.frame l.t l.n l.i
