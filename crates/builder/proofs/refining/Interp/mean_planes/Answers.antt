-- `mean_planes` meets its contract. Assumes nothing.
use mathlib.Core.Path.{◌≡◌, refl}
use Prim.Native.Nat.{◌%◌}
use Rattle.std.proofs.Common.{rules}
use lib.ListN.{length}
use Rattle.builder.proofs.AtOnce.{tight_tested}
use Rattle.builder.proofs.Inside.{tight_inside, staged_inside}
use Rattle.builder.proofs.refining.Interp.mean_planes.Goals as goal

pub returns-then-self-size : goal.returns-then-self-size
returns-then-self-size c =
    let a = c.args in
    let blocks : c.plane-size.result % 64 ≡ 0 = search rules in
    let tight = tight_tested c.chunked.ensures.0 c.if-chunked-self.true c.plane-size.ensures blocks c.if-self-size.true in
    staged_inside a.canvas.now (tight_inside (length a.canvas.now.frame.now) (length a.scratch.now) a.self a.at.horizontal a.at.vertical a.at.diagonal tight a.at.ordered c.requires.0) c.mean_at_once.ensures c.mean_at_once.auto.frame refl
