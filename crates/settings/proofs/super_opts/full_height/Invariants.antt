-- `full_height` meets its contract. The sum so far is that of the levels passed. Assumes nothing.
use mathlib.Core.Path.{◌≡◌}
use Prim.Native.Nat.{◌+◌, ◌*◌, ◌-◌, ◌≤◌}
use Rattle.settings.specs.Sizes.{reduced}
use Rattle.settings.proofs.Heights.{heights}
use Rattle.settings.proofs.super_opts.full_height.Given as goal

abbrev pub invariant-loop : goal.invariant-loop
invariant-loop l = (l.total ≡ l.pel * l.pel * l.base_h + heights l.base_h (l.counter - 1)) × (l.h ≡ reduced l.base_h (l.counter - 1)) × (1 ≤ l.counter) × (l.counter - 1 ≤ l.levels - 1)

abbrev pub decreases-loop : goal.decreases-loop
decreases-loop l = l.levels - l.counter
