-- `put` meets its contract. Assumes nothing.
use mathlib.Core.Path.{sym, ap, ◌∙◌}
use Prim.Native.Nat.{ℕ}
use native.Mathlib.Nat.{zero-add}
use native.Mathlib.Numerals.{add-one}
use native.Mathlib.Omega.{arith}
use lib.ListN.{get_or, set, length-set}
use lib.Seq.{paste, paste-suc}
use Rattle.answers.proofs.room.put.Goals as goal

pub loop-i-preserved : goal.loop-i-preserved
loop-i-preserved g c =
    let l = c.loop-i in
    let v = c.index-values-i.result in
    let out = c.args.out.now in
    let values = c.args.values.now in (
      omega (arith, c.loop-i-test.true),
      length-set l.out l.i v ∙ l.invariant.1,
      ap (λ (x : _). set x l.i v) l.invariant.2 ∙ ap (set (paste out 0 values l.i) l.i) c.index-values-i.is ∙ ap (λ (k : ℕ). set (paste out 0 values l.i) k (get_or values l.i v)) (sym (zero-add l.i)) ∙ paste-suc out 0 values l.i v (omega (arith, c.if-out-values.false, c.loop-i-test.true)) c.loop-i-test.true ∙ ap (paste out 0 values) (sym (add-one l.i)),
    )
