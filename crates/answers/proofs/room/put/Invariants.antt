-- `put` meets its contract: the loop has put the values before the one that it is at. Assumes nothing.
use mathlib.Core.Path.{◌≡◌}
use Prim.Native.Nat.{◌≤◌}
use lib.ListN.{length}
use lib.Seq.{paste}
use Rattle.answers.proofs.room.put.Given as goal

abbrev pub invariant-loop-i : goal.invariant-loop-i
invariant-loop-i g l = (l.i ≤ length l.values) × (length l.out ≡ length l.initial.out) × (l.out ≡ paste l.initial.out 0 l.values l.i)
