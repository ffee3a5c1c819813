-- `ends_in_zeros` meets its contract. The loop has found zeros as far as it has come. Assumes nothing.
use mathlib.Core.Path.{◌≡◌}
use mathlib.Core.Bool.{true}
use Prim.Native.Nat.{ℕ, ◌-◌, ◌≤◌, ◌<◌}
use Rattle.settings.specs.Limits.{most_levels}
use Rattle.layouts.specs.Layout.{no_region}
use Rattle.stored.specs.Inner.{region_in, same_region}
use Rattle.stored.proofs.layout.ends_in_zeros.Given as goal

abbrev pub invariant-loop-level : goal.invariant-loop-level
invariant-loop-level l = (l.levels ≤ l.level) × ((j : ℕ) → l.levels ≤ j → j < l.level → same_region (region_in l.numbers j) no_region ≡ true)

abbrev pub decreases-loop-level : goal.decreases-loop-level
decreases-loop-level l = most_levels - l.level
