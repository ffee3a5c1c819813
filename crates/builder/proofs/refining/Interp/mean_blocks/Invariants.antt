-- `mean_blocks` meets its contract. The loop has made the blocks passed. Assumes nothing.
use Prim.Native.Nat.{◌+◌}
use Rattle.layouts.proofs.Loops.{Walked}
use Rattle.builder.proofs.AtOnce.{block}
use Rattle.builder.proofs.refining.Interp.mean_blocks.Given as goal

abbrev pub invariant-loop-k : goal.invariant-loop-k
invariant-loop-k l = Walked (λ j c. block l.d (l.self.pitch + 1) j (block l.b l.self.pitch j (block l.a 1 j c))) l.initial.frame l.frame l.n l.k
