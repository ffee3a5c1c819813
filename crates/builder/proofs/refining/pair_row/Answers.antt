-- `pair_row` meets its contract. Assumes nothing.
use mathlib.Core.Path.{refl}
use native.Mathlib.Omega.{arith}
use lib.ListN.{length}
use Rattle.builder.proofs.Inside.{means_inside, staged_inside}
use Rattle.builder.proofs.refining.pair_row.Goals as goal

pub returns-then-r-n-2 : goal.returns-then-r-n-2
returns-then-r-n-2 c =
    let a = c.args in
    staged_inside a.canvas.now (means_inside (length a.canvas.now.frame.now) a.t a.l a.r a.n (omega (arith, c.if-l-n.true, c.if-t-n.true)) c.if-r-n.true c.if-t-n.true) c.pair_inside.ensures c.pair_inside.auto.frame refl
