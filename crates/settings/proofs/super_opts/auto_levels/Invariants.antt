-- `auto_levels` meets its contract. The levels so far and those of the size that is reached are all there are. Assumes nothing.
use mathlib.Core.Path.{◌≡◌}
use Prim.Native.Nat.{◌+◌, ◌≤◌}
use Rattle.settings.specs.Sizes.{auto_levels}
use Rattle.settings.proofs.super_opts.auto_levels.Given as goal

abbrev pub invariant-loop-h : goal.invariant-loop-h
invariant-loop-h l = (l.i + auto_levels l.w l.h ≡ auto_levels l.width l.height) × (l.i + l.w ≤ l.width)

abbrev pub decreases-loop-h : goal.decreases-loop-h
decreases-loop-h l = l.w
