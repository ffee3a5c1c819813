-- `pair_under_row` meets its contract. Assumes nothing.
use mathlib.Core.Path.{refl, ap}
use Prim.Native.Nat.{ℕ}
use native.Mathlib.Omega.{arith}
use lib.ListN.{length}
use Rattle.builder.specs.Canvas.{copy_run, bytes_of}
use Rattle.builder.specs.Refining.{pair_plane}
use Rattle.builder.proofs.Runs.{staged_then, staged_as}
use Rattle.builder.proofs.Refined.{planes_kept, first_row_fits}
use Rattle.builder.proofs.Inside.{copy_inside, staged_inside}
use Rattle.builder.proofs.refining.Interp.pair_under_row.Goals as goal

pub returns : goal.returns
returns c =
    let a = c.args in
    let i = a.self in
    let d = c.pair.new.canvas in
    let t = c.plane-t.result in
    let fits = first_row_fits (planes_kept c.requires.1 c.pair.ensures.frame_long c.pair.auto.scratch) c.args.k _ c.args.s (omega arith) c.plane-t.ensures c.requires.0.first in
    let copied = staged_inside d (copy_inside (length d.frame.now) a.s t i.width fits.0 fits.1) c.copy_first_row.ensures c.copy_first_row.auto.frame refl in
    staged_as (staged_then c.pair.ensures copied) (ap (λ (k : ℕ). copy_run a.s k i.width (pair_plane i k 0 a.r (bytes_of a.canvas.now))) c.plane-t.ensures)
