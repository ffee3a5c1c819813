use native.Mathlib.Omega.{arith}
use Rattle.builder.specs.Canvas.{bytes_of}
use Rattle.builder.proofs.Runs.{passed_none, passed_more, passed_whole, staged_as}
use Rattle.builder.proofs.Refined.{planes_kept, table_row, table_walked}
use Rattle.builder.proofs.refining.quarters.Goals as goal

pub loop-pair-init : goal.loop-pair-init
loop-pair-init c = passed_none

pub quarter-requires : goal.quarter-requires
quarter-requires c =
    let v = c.loop-pair.invariant in
    (table_row c.loop-pair.pair-index c.loop-pair-test.true, planes_kept c.requires.0 v.staged.frame_long c.loop-pair.auto.scratch, omega (arith, c.requires.1, v.staged.spill_long))

pub loop-pair-preserved : goal.loop-pair-preserved
loop-pair-preserved c = let q = c.quarter in passed_more c.loop-pair.invariant c.loop-pair-test.true q.ensures

pub returns : goal.returns
returns c = let a = c.args in staged_as (passed_whole c.loop-pair.invariant c.loop-pair-test.false) (table_walked a.i (bytes_of a.canvas.now))
