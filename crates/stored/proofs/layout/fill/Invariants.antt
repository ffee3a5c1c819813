-- `fill` meets its contract. The loop has filled in the numbers of the levels that it has passed, and the walk is at its level; zeros come after them. Assumes nothing.
use mathlib.Core.Path.{◌≡◌}
use Prim.Native.Nat.{◌+◌, ◌*◌, ◌-◌, ◌≤◌}
use Rattle.filters.proofs.Filling.{Filled}
use Rattle.stored.specs.Layout.{number_at, most_numbers}
use Rattle.stored.proofs.layout.fill.Given as goal

abbrev pub invariant-loop-level : goal.invariant-loop-level
invariant-loop-level l = (l.at.layout ≡ l.fn.fitting.layout) × (l.at.level ≡ l.level) × (l.level ≤ l.levels) × Filled (number_at l.fn.fitting.layout) l.numbers most_numbers (4 + 3 * l.level)

abbrev pub decreases-loop-level : goal.decreases-loop-level
decreases-loop-level l = l.levels - l.level
