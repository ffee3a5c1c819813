-- `reduce_each` meets its contract. The loop has halved the levels passed, and the walk is at the last of them. Assumes nothing.
use mathlib.Core.Path.{◌≡◌}
use Prim.Native.Nat.{◌+◌, ◌-◌, ◌≤◌}
use lib.ListN.{length}
use Rattle.builder.proofs.Runs.{Passed}
use Rattle.planes.specs.Build.{level_by}
use Rattle.planes.proofs.later.reduce_each.Given as goal

abbrev pub invariant-loop-level : goal.invariant-loop-level
invariant-loop-level l = (1 ≤ l.level) × Passed (λ i. level_by l.fuse l.fn.fitting.layout l.src l.src_pitch (length l.initial.canvas.frame.now) l.filter (i + 1)) l.initial.canvas l.canvas (l.levels - 1) (l.level - 1) × (l.above.layout ≡ l.fn.fitting.layout) × (l.above.level ≡ l.level - 1)

abbrev pub decreases-loop-level : goal.decreases-loop-level
decreases-loop-level l = l.levels - l.level
