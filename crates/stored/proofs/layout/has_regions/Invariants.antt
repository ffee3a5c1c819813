-- `has_regions` meets its contract. The levels passed are as making gives them, and the walk is at its level. Assumes nothing.
use mathlib.Core.Path.{◌≡◌}
use mathlib.Core.Bool.{true}
use Prim.Native.Nat.{ℕ, ◌-◌, ◌≤◌, ◌<◌}
use Rattle.stored.specs.Inner.{same_at}
use Rattle.stored.proofs.layout.has_regions.Given as goal

abbrev pub invariant-loop-level : goal.invariant-loop-level
invariant-loop-level l = (l.at.layout ≡ l.layout) × (l.at.level ≡ l.level) × (l.level ≤ l.levels) × ((j : ℕ) → j < l.level → same_at l.layout l.numbers j ≡ true)

abbrev pub decreases-loop-level : goal.decreases-loop-level
decreases-loop-level l = l.levels - l.level
