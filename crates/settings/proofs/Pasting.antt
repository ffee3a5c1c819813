-- Values put into a list: at the front, and after those. Assumes nothing.
use mathlib.Core.Path.{◌≡◌, sym, ap, ◌∙◌}
use mathlib.Core.List.{List, ◌++◌}
use Prim.Native.Nat.{ℕ, ◌+◌}
use native.Mathlib.Nat.{zero-add}
use lib.ListN.{length, take, drop}
use lib.Seq.{take_at, drop-append-add, drop-drop}

-- from place 0 on
pub from_start : {A : Type 0} {out : List A} (values lent : List A) → out ≡ take 0 lent ++ values ++ drop (0 + length values) lent → out ≡ values ++ drop (length values) lent
from_start values lent e = e ∙ ap (λ (n : ℕ). values ++ drop n lent) (zero-add (length values))

-- ys after xs, of which there are k
pub put_next : {A : Type 0} {out next : List A} {k : ℕ} (xs ys lent : List A) → length xs ≡ k → out ≡ xs ++ drop k lent → next ≡ take k out ++ ys ++ drop (k + length ys) out → next ≡ (xs ++ ys) ++ drop (k + length ys) lent
put_next {A} {out} {next} {k} xs ys lent long e f =
    let rest = drop k lent in
    f
    ∙ ap (λ (o : List A). take k o ++ ys ++ drop (k + length ys) o) e
    ∙ ap (λ (o : List A). o ++ ys ++ drop (k + length ys) (xs ++ rest)) (take_at xs rest k long)
    ∙ ap (λ (n : ℕ). xs ++ ys ++ drop (n + length ys) (xs ++ rest)) (sym long)
    ∙ ap (λ (o : List A). xs ++ ys ++ o) (drop-append-add xs rest (length ys) ∙ drop-drop (length ys) k lent)
