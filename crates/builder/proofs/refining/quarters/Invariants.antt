-- `quarters` meets its contract. The loop has made the pairs passed. Assumes nothing.
use lib.ListN.{get_or}
use Rattle.builder.specs.Refining.{pair_of, pairs, quarter}
use Rattle.builder.proofs.Runs.{Passed}
use Rattle.builder.proofs.refining.quarters.Given as goal

abbrev pub invariant-loop-pair : goal.invariant-loop-pair
invariant-loop-pair l = Passed (λ j. quarter l.i (get_or pairs j (pair_of 0 0 0 0 0))) l.initial.canvas l.canvas 12 l.pair-index
