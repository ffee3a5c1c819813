use Prim.Native.Nat.{◌+◌, ◌*◌}
use native.Mathlib.Omega.{arith}
use Rattle.builder.specs.Canvas.{copy_run}
use Rattle.builder.proofs.Runs.{passed_none, passed_next}
use Rattle.builder.proofs.separate.close_up.Goals as goal

pub loop-y-init : goal.loop-y-init
loop-y-init c = (omega arith, passed_none)

pub loop-y-preserved : goal.loop-y-preserved
loop-y-preserved c =
    let a = c.args in
    let l = c.loop-y in
    let r = c.close_row in
    (omega arith, passed_next (λ y. copy_run (a.target.offset + y * (2 * a.pitch)) (a.target.offset + y * a.pitch) a.pitch) l.invariant.0 l.invariant.1 c.loop-y-test.true r.ensures)
