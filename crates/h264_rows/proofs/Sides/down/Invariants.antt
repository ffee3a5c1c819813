-- At most 64 differ in each row passed.
use Prim.Native.Nat.{◌≤◌, ◌*◌}
use Rattle.h264_rows.proofs.Sides.down.Given as goal

abbrev pub invariant-loop-y : goal.invariant-loop-y
invariant-loop-y l = l.differ ≤ 64 * l.y
