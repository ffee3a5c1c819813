-- `put_layout` meets its contract. Assumes nothing.
use mathlib.Core.Path.{sym, ap, ◌∙◌}
use mathlib.Core.List.{List, ◌++◌}
use Prim.Native.Nat.{ℕ}
use lib.ListN.{drop}
use Rattle.stored.specs.Layout.{most_numbers, stored_of}
use Rattle.stored.proofs.Places.{stored_long}
use Rattle.answers.proofs.Putting.{put_short, put_fits}
use Rattle.answers.proofs.room.put_layout.Goals as goal

pub returns-then-out-lt-LAYOUT : goal.returns-then-out-lt-LAYOUT
returns-then-out-lt-LAYOUT c = let a = c.args in put_short (stored_of a.fitting.layout) a.out.now (rw (stored_long a.fitting.layout) c.if-out-lt-LAYOUT.true)

pub returns : goal.returns
returns c =
    let a = c.args in
    let l = stored_of a.fitting.layout in
    put_fits l a.out.now (rw (stored_long a.fitting.layout) c.if-out-lt-LAYOUT.false) (ap (λ (x : List ℕ). x ++ drop most_numbers a.out.now) c.fill.ensures ∙ ap (λ (n : ℕ). l ++ drop n a.out.now) (sym (stored_long a.fitting.layout)))
