-- What reading a longhand record leaves in its two slices, by what the call that it makes answers. Assumes nothing.
-- First the number, where a slice is too short and where both have room; then the slices, case by case.
use mathlib.Core.Path.{◌≡◌, refl, sym, ap, ◌∙◌}
use mathlib.Core.Bool.{Bool, true, false, cond, not, ◌&&◌, ◌||◌}
use mathlib.Core.List.{List, [], ◌∷◌}
use Prim.Native.Nat.{ℕ, ◌≤◌}
use lib.Dec.{eqb, leb, ltb}
use lib.IntN.{ℤ}
use lib.ListN.{length}
use borrow.Author.Tests.{ltb-false}
use Rattle.settings.specs.declared.refusal.Refusal.{Refusal}
use Rattle.settings.specs.Numbers.{refuse, ◌then◌}
use Rattle.settings.specs.Answers.{Answer, answer, number, written}
use Rattle.settings.proofs.Known.{number_some, number_not_16, number_of}
use Rattle.settings.proofs.Tests.{or_false_left, or_false_right}
use Rattle.longhands.specs.declared.longhand.Longhand.{Longhand}
use Rattle.longhands.specs.Longhand.{length_of, kind_of, place_after, body_of, is_known, kind_length, is_body, length_no, longhand_no, no_longhand, longhand_answer}
use Rattle.answers.specs.Fields.{numbers_of}
use Rattle.answers.specs.Lent.{lowest, tells}
use Rattle.exports.specs.Calls.{longhand_read_no, fields_tells, place_tells}
use Rattle.answers.proofs.Putting.{put_fits}

-- ---- the number: none of reading's is below 15
abbrev low : ℕ → Bool
low n = leb 1 n && ltb n 15

rows_high : (a b c d e : Bool) → low (refuse a 15 then refuse b 17 then refuse c 16 then refuse d 17 then refuse e 18) ≡ false
rows_high true b c d e = refl
rows_high false true c d e = refl
rows_high false false true d e = refl
rows_high false false false true e = refl
rows_high false false false false true = refl
rows_high false false false false false = refl

none_low : (l : List ℕ) → low (longhand_no l) ≡ false
unfolding longhand_no length_no
none_low l = rows_high (ltb (length l) 4 || ltb (length l) (place_after l)) (ltb (length_of l) 2) (not (is_known (kind_of l))) (not (eqb (length_of l) (kind_length (kind_of l)))) (not (is_body (kind_of l) (body_of l)))

short_15 : (l : List ℕ) → lowest (longhand_no l) true ≡ 15
short_15 l = rw (none_low l)

same_number : (n : ℕ) (b : Bool) → cond b n n ≡ n
same_number n true = refl
same_number n false = refl

-- ---- the slices
value_of : {B : Type 0} {m n : ℕ} {a b : B} → answer m a ≡ answer n b → a ≡ b
value_of {B} e = ap (λ (x : Answer B). x.value) e

-- what is left where there was room
put_done : {A : Type 0} {r : ℕ} {out : List A} (values lent : List A) → length values ≤ length lent → answer r out ≡ tells 0 values lent → answer r out ≡ answer 0 (written values lent)
put_done values lent h e = e ∙ sym (put_fits values lent h refl)

module _ (l : List ℕ) (F : List ℤ) (A : List ℕ) where
  abbrev Left : ℕ → List ℤ → List ℕ → Type 0
  Left r f a = (answer r f ≡ fields_tells (longhand_read_no l F A) l F) × (answer r a ≡ place_tells (longhand_read_no l F A) l A)

  -- the number is m, of which these are told
  left : {r m : ℕ} {f : List ℤ} {a : List ℕ} → longhand_read_no l F A ≡ m → answer r f ≡ fields_tells m l F → answer r a ≡ place_tells m l A → Left r f a
  left e p q = (p ∙ ap (λ (n : ℕ). fields_tells n l F) (sym e), q ∙ ap (λ (n : ℕ). place_tells n l A) (sym e))

  pub left_short : (ltb (length F) 10 || ltb (length A) 1) ≡ true → Left 15 F A
  left_short h = left (ap (lowest (longhand_no l)) h ∙ short_15 l) refl refl

  module _ (room : (ltb (length F) 10 || ltb (length A) 1) ≡ false) where
    by_reading : longhand_read_no l F A ≡ longhand_no l
    by_reading = ap (lowest (longhand_no l)) room ∙ same_number (longhand_no l) (low (longhand_no l))

    long_f : 10 ≤ length F
    long_f = ltb-false (length F) 10 (or_false_left (ltb (length F) 10) (ltb (length A) 1) room)

    long_a : 1 ≤ length A
    long_a = ltb-false (length A) 1 (or_false_right (ltb (length F) 10) (ltb (length A) 1) room)

    pub left_record : {r k : ℕ} {f : List ℤ} {a : List ℕ} (h : Longhand) → answer 0 h ≡ longhand_answer l → answer k f ≡ tells 0 (numbers_of h.opts) F → answer r a ≡ tells 0 (h.after ∷ []) A → Left r f a
    left_record {r} {k} {f} {a} h e p q =
        let is : h ≡ (longhand_answer l).value = value_of e in
        let p2 = put_done (numbers_of h.opts) F long_f p in
        let q2 = put_done (h.after ∷ []) A long_a q in
        left
        (by_reading ∙ sym (number_of e))
        (ap (λ (n : ℕ). answer n f) (number_of q2) ∙ ap (answer 0) (value_of p2) ∙ ap (λ (x : Longhand). answer 0 (written (numbers_of x.opts) F)) is)
        (q2 ∙ ap (λ (x : Longhand). answer 0 (written (x.after ∷ []) A)) is)

    pub left_unknown : {k : ℕ} {a : List ℕ} (place : ℕ) → answer 16 (no_longhand place) ≡ longhand_answer l → answer k a ≡ tells 0 (place ∷ []) A → Left 16 F a
    left_unknown {k} {a} place e q =
        let is : place ≡ (longhand_answer l).value.after = ap (λ (x : Longhand). x.after) (value_of e) in
        left
        (by_reading ∙ sym (number_of e))
        refl
        (ap (answer 16) (value_of (put_done (place ∷ []) A long_a q)) ∙ ap (λ (n : ℕ). answer 16 (written (n ∷ []) A)) is)

    pub left_refused : {r : ℕ} (f : Refusal) → answer (number f) (no_longhand 0) ≡ longhand_answer l → r ≡ number f → Left r F A
    left_refused f e is =
        left
        (by_reading ∙ sym (number_of e))
        (rw (is, number_some f))
        (rw (is, number_some f, number_not_16 f))
