-- Longhand records: what reading comes to, case by case, and what writing leaves. Assumes nothing.
use mathlib.Core.Path.{◌≡◌, refl, sym, ap, ◌∙◌}
use mathlib.Core.Bool.{not, ◌||◌}
use mathlib.Core.List.{List, ◌++◌}
use Prim.Native.Nat.{ℕ, ◌+◌, ◌≤◌}
use native.Mathlib.Omega.{arith}
use lib.Dec.{eqb, ltb}
use lib.ListN.{length, take, drop, length-append}
use borrow.Author.Tests.{ne_eqb, ltb-false, le-ltb}
use Rattle.settings.specs.declared.refusal.Refusal.{Refusal}
use Rattle.settings.specs.declared.super_opts.SuperOpts.{SuperOpts}
use Rattle.settings.specs.Numbers.{refuse}
use Rattle.settings.specs.Answers.{answer, if_done, number, no_record}
use Rattle.settings.proofs.Tests.{or_false_left, or_false_right}
use Rattle.settings.proofs.Refusals.{then_first, then_rest, refuse_not}
use Rattle.settings.proofs.Known.{given, number_then, number_some, number_not_16, number_of, value_given}
use Rattle.settings.proofs.Pasting.{from_start, put_next}
use Rattle.longhands.specs.LittleEndian.{little_endian}
use Rattle.longhands.specs.Kind1.{kind1_body, kind1_record, kind1_good}
use Rattle.longhands.specs.Longhand.{framed, length_of, kind_of, place_after, body_of, is_known, kind_length, is_body, length_no, longhand_no, no_longhand, longhand_answer, longhand_of}
use Rattle.longhands.proofs.Bytes.{bytes_long}

-- ---- the frame
-- all of a record's bytes are there, a kind among them
pub record Whole (l : List ℕ) : Type 0 where
  pub field : 4 ≤ length l
  pub own : place_after l ≤ length l
  pub kind : 2 ≤ length_of l

pub whole : (l : List ℕ) → length_no l ≡ 0 → Whole l
unfolding length_no
whole l e =
    let short = ltb (length l) 4 in
    let cut = ltb (length l) (place_after l) in
    let none = ltb (length_of l) 2 in
    let there = refuse_not (short || cut) 14 (then_first (refuse (short || cut) 15) (refuse none 17) e) in
    record {
      field = ltb-false (length l) 4 (or_false_left short cut there);
      own = ltb-false (length l) (place_after l) (or_false_right short cut there);
      kind = ltb-false (length_of l) 2 (refuse_not none 16 (then_rest (refuse (short || cut) 15) (refuse none 17) e));
    }

pub whole_none : (l : List ℕ) → Whole l → length_no l ≡ 0
unfolding length_no
whole_none l w = rw (le-ltb (length l) 4 w.field, le-ltb (length l) (place_after l) w.own, le-ltb (length_of l) 2 w.kind)

-- ---- what reading comes to
pub length_refused : (l : List ℕ) (f : Refusal) → number f ≡ length_no l → answer (number f) (no_longhand 0) ≡ longhand_answer l
unfolding longhand_no
length_refused l f e =
    let a = refuse (not (is_known (kind_of l))) 16 in
    let b = refuse (not (eqb (length_of l) (kind_length (kind_of l)))) 17 in
    let c = refuse (not (is_body (kind_of l) (body_of l))) 18 in
    rw (← e, ← number_then f a, ← number_then f b, ← number_then f c, number_some f, number_not_16 f)

pub kind_unknown : (l : List ℕ) → length_no l ≡ 0 → (kind_of l ≡ 1 → ⊥) → answer 16 (no_longhand (place_after l)) ≡ longhand_answer l
unfolding longhand_no
kind_unknown l e h = rw (e, ne_eqb (kind_of l) 1 h)

pub length_other : (l : List ℕ) → length_no l ≡ 0 → kind_of l ≡ 1 → (length_of l ≡ 17 → ⊥) → answer 17 (no_longhand 0) ≡ longhand_answer l
unfolding longhand_no
length_other l e k h = rw (e, k, ne_eqb (length_of l) 17 h)

pub by_body : (l : List ℕ) → length_no l ≡ 0 → kind_of l ≡ 1 → length_of l ≡ 17 → longhand_no l ≡ refuse (not (kind1_good (body_of l))) 18
unfolding longhand_no
by_body l e k n = rw (e, k, n)

-- b is the body, and `given` what reading it answers
pub body_read : {r : SuperOpts} {b : List ℕ} (l : List ℕ) → length_no l ≡ 0 → kind_of l ≡ 1 → length_of l ≡ 17 → b ≡ body_of l → answer 0 r ≡ if_done (refuse (not (kind1_good b)) 18) (kind1_record b) no_record → answer 0 (record { opts = r; after = place_after l }) ≡ longhand_answer l
body_read {r} {b} l e k n same given =
    let none = by_body l e k n ∙ ap (λ (x : List ℕ). refuse (not (kind1_good x)) 18) (sym same) ∙ sym (number_of given) in
    rw (none, k, ← same, value_given (kind1_record b) no_record given)

pub body_refused : {b : List ℕ} (l : List ℕ) (f : Refusal) → length_no l ≡ 0 → kind_of l ≡ 1 → length_of l ≡ 17 → b ≡ body_of l → answer (number f) no_record ≡ if_done (refuse (not (kind1_good b)) 18) (kind1_record b) no_record → answer (number f) (no_longhand 0) ≡ longhand_answer l
body_refused l f e k n same given = rw (by_body l e k n ∙ ap (λ (x : List ℕ). refuse (not (kind1_good x)) 18) (sym same) ∙ sym (number_of given), number_some f, number_not_16 f)

-- ---- what writing leaves
-- length, kind and body, put one after the other
pub frame_put : {x y a b c : List ℕ} (kind : ℕ) (body out : List ℕ) → x ≡ little_endian 4 (2 + length body) → y ≡ little_endian 2 kind → a ≡ take 0 out ++ x ++ drop (0 + length x) out → b ≡ take 4 a ++ y ++ drop (4 + length y) a → c ≡ take 6 b ++ body ++ drop (6 + length body) b → c ≡ framed kind body ++ drop (6 + length body) out
frame_put {x} {y} {a} {b} {c} kind body out is_x is_y p q r =
    let four : length x ≡ 4 = ap length is_x ∙ bytes_long 4 (2 + length body) in
    let two : length y ≡ 2 = ap length is_y ∙ bytes_long 2 kind in
    let six : length (x ++ y) ≡ 6 = omega (arith, length-append x y, four, two) in
    let p2 : a ≡ x ++ drop 4 out = from_start x out p ∙ ap (λ (n : ℕ). x ++ drop n out) four in
    let q2 : b ≡ (x ++ y) ++ drop 6 out = put_next x y out four p2 q ∙ ap (λ (n : ℕ). (x ++ y) ++ drop (4 + n) out) two in
    put_next (x ++ y) body out six q2 r ∙ ap (λ (z : List ℕ). z ++ y ++ body ++ drop (6 + length body) out) is_x ∙ ap (λ (z : List ℕ). little_endian 4 (2 + length body) ++ z ++ body ++ drop (6 + length body) out) is_y

longhand_long : (r : SuperOpts) → length (longhand_of r) ≡ 21
unfolding little_endian kind1_body
longhand_long r = refl
