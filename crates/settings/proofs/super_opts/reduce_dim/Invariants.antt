-- `reduce_dim` meets its contract. The loop has reduced as often as it has counted. Assumes nothing.
use mathlib.Core.Path.{◌≡◌}
use Prim.Native.Nat.{◌≤◌, ◌-◌}
use Rattle.settings.specs.Sizes.{reduced}
use Rattle.settings.proofs.super_opts.reduce_dim.Given as goal

abbrev pub invariant-loop : goal.invariant-loop
invariant-loop l = (l.d ≡ reduced l.dim l.counter) × (l.counter ≤ l.n)

abbrev pub decreases-loop : goal.decreases-loop
decreases-loop l = l.n - l.counter
