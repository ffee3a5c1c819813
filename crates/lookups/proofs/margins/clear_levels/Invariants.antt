-- `clear_levels` meets its contract. The loop has cleared the levels passed, and the walk is at the last of them. Assumes nothing.
use mathlib.Core.Path.{◌≡◌}
use Prim.Native.Nat.{◌+◌, ◌-◌, ◌≤◌}
use Rattle.layouts.specs.Margins.{clear_level}
use Rattle.layouts.proofs.Loops.{Walked}
use Rattle.lookups.proofs.margins.clear_levels.Given as goal

abbrev pub invariant-loop-level : goal.invariant-loop-level
invariant-loop-level l = (1 ≤ l.level) × Walked (λ i. clear_level l.fn.fitting.layout (i + 1)) l.initial.frame l.frame (l.levels - 1) (l.level - 1) × (l.above.layout ≡ l.fn.fitting.layout) × (l.above.level ≡ l.level - 1)

abbrev pub decreases-loop-level : goal.decreases-loop-level
decreases-loop-level l = l.levels - l.level
