-- `take_apart` meets its contract. Assumes nothing.
use Rattle.filters.specs.Inner.{Apart}
use mathlib.Core.Path.{◌≡◌}
use Prim.Native.Nat.{◌-◌}
use lib.ListN.{length}
use Rattle.filters.proofs.halving.take_apart.Given as goal

abbrev pub invariant-loop-i : goal.invariant-loop-i
invariant-loop-i l = Apart l.n l.i l.src l.split × (length l.split ≡ length l.initial.split)

abbrev pub decreases-loop-i : goal.decreases-loop-i
decreases-loop-i l = l.n - l.i
