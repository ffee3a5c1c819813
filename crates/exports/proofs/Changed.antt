-- What changing a layout in its own slice leaves: the slice has room for what it is changed to, and no more; and that it is what making tells there. Assumes nothing.
use mathlib.Core.Path.{◌≡◌, refl, sym, ap, ◌∙◌}
use mathlib.Core.Bool.{Bool, true, false, cond, ◌&&◌}
use mathlib.Core.List.{List, ◌++◌, append-nil}
use Prim.Native.Nat.{ℕ}
use native.Mathlib.Omega.{arith}
use lib.Dec.{leb, ltb}
use lib.ListN.{length, drop_of_length-le}
use borrow.Author.Tests.{le-ltb}
use Rattle.settings.specs.declared.super_opts.SuperOpts.{SuperOpts}
use Rattle.settings.specs.Numbers.{◌then◌}
use Rattle.settings.specs.Answers.{Answer, answer, if_done, written}
use Rattle.settings.proofs.Refusals.{then_first}
use Rattle.settings.proofs.Known.{given, number_of, value_given}
use Rattle.layouts.specs.Refusals.{layout_no}
use Rattle.stored.specs.Layout.{stored_of, no_stored}
use Rattle.stored.specs.Refusals.{stored_no}
use Rattle.stored.specs.Answers.{settled_by, change_answer}
use Rattle.stored.proofs.Places.{stored_long}
use Rattle.stored.proofs.Exact.{passed, passed_long}
use Rattle.answers.specs.Lent.{lowest, tells}
use Rattle.exports.specs.Calls.{layout_tells, change_tells}

cond_same : (t : Bool) (n : ℕ) → cond t n n ≡ n
cond_same true n = refl
cond_same false n = refl

-- as many numbers told over as many
all_told : (n : ℕ) (values lent : List ℕ) → length values ≡ length lent → tells n values lent ≡ if_done n values lent
all_told n values lent e =
    ap (λ (t : Bool). if_done (lowest n t) (written values lent) lent) (le-ltb (length lent) (length values) (omega arith))
    ∙ ap (λ (m : ℕ). if_done m (written values lent) lent) (cond_same (leb 1 n && ltb n 15) n)
    ∙ ap (λ (l : List ℕ). if_done n l lent) (ap (λ (m : List ℕ). values ++ m) (drop_of_length-le lent {i = length values} (omega arith)) ∙ append-nil values)

-- a layout that isn't refused has as many numbers as what it is changed to
module _ (r : SuperOpts) (l : List ℕ) (x y p : ℕ) where
  as_many : stored_no r l ≡ 0 → length (stored_of (settled_by r x y p)) ≡ length l
  as_many none = stored_long (settled_by r x y p) ∙ sym (passed_long r l (passed r l none))

  pub change_told : {told : Answer (List ℕ)} {made : List ℕ} → answer 0 made ≡ change_answer r l x y p → told ≡ tells 0 made l → told ≡ change_tells r x y p l
  change_told {told} {made} e put =
      let q = settled_by r x y p in
      let none : (stored_no r l then layout_no q) ≡ 0 = sym (number_of e) in
      let is : made ≡ stored_of q = value_given (stored_of q) no_stored e in
      put ∙ all_told 0 made l (ap length is ∙ as_many (then_first (stored_no r l) (layout_no q) none)) ∙ ap (answer 0) is ∙ given (stored_no r l then layout_no q) (stored_of q) l none

  -- "gives the layout one would get afresh", at the door
  pub change_tells_afresh : stored_no r l ≡ 0 → change_tells r x y p l ≡ layout_tells (settled_by r x y p) l
  change_tells_afresh none = rw none (sym (all_told (layout_no (settled_by r x y p)) (stored_of (settled_by r x y p)) l (as_many none)))
