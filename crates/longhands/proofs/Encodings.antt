-- What document 02 asks of longhand records: every accepted record survives writing and reading (`survives`), one record has one encoding (`read_exactly`, `one_encoding`), and nothing past a record's own bytes counts (`own_bytes`). Assumes nothing.
use mathlib.Core.Path.{◌≡◌, refl, sym, ap, ◌∙◌, subst}
use mathlib.Core.Bool.{Bool, true, false, not, ◌||◌}
use mathlib.Core.List.{List, ◌++◌}
use mathlib.Core.Logic.{◌↔◌}
use Prim.Native.Nat.{ℕ, ◌+◌, ◌-◌, ◌≤◌, ◌<◌}
use native.Mathlib.Omega.{arith}
use lib.Dec.{eqb, ltb}
use lib.ListN.{length, take, drop, length-append, length-drop, take-append-drop}
use lib.Seq.{take-add, take_at, length-take-le}
use borrow.Author.Tests.{eqb-true, ltb-true, ltb-false, lt-ltb, le-ltb, not-false}
use Rattle.settings.specs.declared.refusal.Refusal.TheVariants.{Longhand as OfLonghand}
use Rattle.settings.specs.declared.refusal.BadLonghand.TheVariants.{Length}
use Rattle.settings.specs.declared.super_opts.SuperOpts.{SuperOpts}
use Rattle.settings.specs.Numbers.{is_i32, refuse, ◌then◌}
use Rattle.settings.specs.Check.{accepted}
use Rattle.settings.specs.Answers.{Answer, answer}
use Rattle.settings.proofs.Tests.{and_left, and_right, or_false_left, or_false_right}
use Rattle.settings.proofs.Refusals.{then_first, then_rest, refuse_not}
use Rattle.settings.proofs.Known.{number_of}
use Rattle.longhands.specs.declared.longhand.Longhand.{Longhand}
use Rattle.longhands.specs.LittleEndian.{bytes, little_endian, value_of}
use Rattle.longhands.specs.Kind1.{kind1_body, flags_at, kind1_record, kind1_good}
use Rattle.longhands.specs.Longhand.{framed, length_of, kind_of, place_after, body_of, is_known, kind_length, is_body, record_in, length_no, longhand_no, no_longhand, longhand_by, longhand_answer, longhand_of, kind1_bytes, Begins}
use Rattle.longhands.proofs.Bytes.{value_back, part_back, part_bytes_lem, part_own}
use Rattle.longhands.proofs.Bodies.{body_long, record_back, body_good, body_back, down_read, up_read}
use Rattle.longhands.proofs.Longhands.{Whole, whole, whole_none, length_refused, by_body}

-- ---- a frame is read back, whatever follows it
module _ (kind : ℕ) (body rest : List ℕ) (known : kind < 65536) (fits : length body < 65536) where
  length_at : length_of (framed kind body ++ rest) ≡ 2 + length body
  unfolding little_endian
  length_at = value_back 4 (2 + length body) (omega arith)

  kind_at : kind_of (framed kind body ++ rest) ≡ kind
  unfolding little_endian
  kind_at = value_back 2 kind (omega arith)

  body_at : body_of (framed kind body ++ rest) ≡ body
  unfolding little_endian
  body_at = ap (λ (n : ℕ). take n (body ++ rest)) count ∙ take_at body rest (length body) refl
    where
      count : length_of (framed kind body ++ rest) - 2 ≡ length body
      count = omega (arith, length_at)

  framed_long : length (framed kind body ++ rest) ≡ 6 + length body + length rest
  unfolding little_endian
  framed_long = omega (arith, length-append body rest)

  frame_fine : length_no (framed kind body ++ rest) ≡ 0
  frame_fine =
      whole_none (framed kind body ++ rest)
      (record {
        field = omega (arith, framed_long);
        own = omega (arith, framed_long, length_at);
        kind = omega (arith, length_at);
      })

-- ---- "Every accepted record survives writing and reading"
pub survives : (r : SuperOpts) (rest : List ℕ) → accepted r ≡ true → is_i32 r.scale_down ≡ true → is_i32 r.scale_up ≡ true → longhand_answer (longhand_of r ++ rest) ≡ answer 0 (record { opts = r; after = kind1_bytes })
survives r rest good down up =
    let b = kind1_body r in
    let l = longhand_of r ++ rest in
    let fits : length b < 65536 = omega (arith, body_long r) in
    let known : 1 < 65536 = omega arith in
    let is_body_lem = body_at 1 b rest known fits in
    let long : length_of l ≡ 17 = length_at 1 b rest known fits ∙ ap (λ (n : ℕ). 2 + n) (body_long r) in
    let none : longhand_no l ≡ 0 = by_body l (frame_fine 1 b rest known fits) (kind_at 1 b rest known fits) long ∙ ap (λ (x : List ℕ). refuse (not (kind1_good x)) 18) is_body_lem ∙ ap (λ (t : Bool). refuse (not t) 18) (body_good r good down up) in
    rw (none, kind_at 1 b rest known fits, is_body_lem, long, record_back r good down up)

-- ---- "one record has one encoding"
body_count : (l : List ℕ) → Whole l → length (body_of l) ≡ length_of l - 2
body_count l w = length-take-le (length_of l - 2) (drop 6 l) (omega (arith, length-drop 6 l, w.own, w.kind))

-- a record's own bytes are its frame's
frame_back : (l : List ℕ) → bytes l ≡ true → Whole l → framed (kind_of l) (body_of l) ≡ take (place_after l) l
frame_back l are w =
    let n = length_of l in
    let whole_length : 2 + length (body_of l) ≡ n = omega (arith, body_count l w, w.kind) in
    let end : 6 + (n - 2) ≡ 4 + n = omega (arith, w.kind) in
    rw (whole_length, part_back l 0 4 are w.field, part_back l 4 2 are (omega (arith, w.own, w.kind)), ← take-add 4 2 l, ← take-add 6 (n - 2) l)
    (ap (λ (k : ℕ). take k l) end)

-- what a record that is read has
pub record Spelled (l : List ℕ) : Type 0 where
  pub frame : Whole l
  pub kind : kind_of l ≡ 1
  pub long : length_of l ≡ 17
  pub good : kind1_good (body_of l) ≡ true

pub spelled : (l : List ℕ) → longhand_no l ≡ 0 → Spelled l
unfolding longhand_no
spelled l e =
    let a = refuse (not (is_known (kind_of l))) 16 in
    let b = refuse (not (eqb (length_of l) (kind_length (kind_of l)))) 17 in
    let c = refuse (not (is_body (kind_of l) (body_of l))) 18 in
    let ab = then_first (length_no l then a then b) c e in
    let fa = then_first (length_no l then a) b ab in
    let kind = eqb-true (kind_of l) 1 (not-false (is_known (kind_of l)) (refuse_not (not (is_known (kind_of l))) 15 (then_rest (length_no l) a fa))) in
    let long = eqb-true (length_of l) (kind_length (kind_of l)) (not-false (eqb (length_of l) (kind_length (kind_of l))) (refuse_not (not (eqb (length_of l) (kind_length (kind_of l)))) 16 (then_rest (length_no l then a) b ab))) in
    record {
      frame = whole l (then_first (length_no l) a fa);
      kind = kind;
      long = long ∙ ap kind_length kind;
      good = ap (λ (k : ℕ). is_body k (body_of l)) (sym kind) ∙ not-false (is_body (kind_of l) (body_of l)) (refuse_not (not (is_body (kind_of l) (body_of l))) 17 (then_rest (length_no l then a then b) c e));
    }

read_begins : (l : List ℕ) → bytes l ≡ true → longhand_no l ≡ 0 → Begins l (kind1_record (body_of l))
read_begins l are e =
    let s = spelled l e in
    let b = body_of l in
    let long : length b ≡ 15 = body_count l s.frame ∙ ap (λ (n : ℕ). n - 2) s.long in
    let are-b : bytes b ≡ true = part_bytes_lem l 6 (length_of l - 2) are in
    let accept = accepted (kind1_record b) in
    let spare = ltb (flags_at b) 8 in
    record {
      good = and_left accept spare s.good;
      down_fits = down_read b are-b long;
      up_fits = up_read b are-b long;
      front =
          ap (λ (n : ℕ). take (4 + n) l) (sym s.long)
          ∙ sym (frame_back l are s.frame)
          ∙ ap (λ (k : ℕ). framed k b) s.kind
          ∙ ap (framed 1) (sym (body_back b are-b long (and_right accept spare s.good)));
    }

-- reading gives exactly the records whose longhand the bytes begin with, and the place after that
pub read_exactly : (l : List ℕ) (r : SuperOpts) (place : ℕ) → bytes l ≡ true → (longhand_answer l ≡ answer 0 (record { opts = r; after = place })) ↔ ((place ≡ kind1_bytes) × Begins l r)
read_exactly l r place are = (there, back)
  where
    there : longhand_answer l ≡ answer 0 (record { opts = r; after = place }) → (place ≡ kind1_bytes) × Begins l r
    there e =
        let none = number_of e in
        let s = spelled l none in
        let value : longhand_by 0 l ≡ record { opts = r; after = place } = ap (λ (n : ℕ). longhand_by n l) (sym none) ∙ ap (λ (a : Answer Longhand). a.value) e in
        let same : kind1_record (body_of l) ≡ r = ap (λ (k : ℕ). record_in k (body_of l)) (sym s.kind) ∙ ap (λ (h : Longhand). h.opts) value in
        (sym (ap (λ (h : Longhand). h.after) value) ∙ ap (λ (n : ℕ). 4 + n) s.long, subst (Begins l) same (read_begins l are none))

    back : (place ≡ kind1_bytes) × Begins l r → longhand_answer l ≡ answer 0 (record { opts = r; after = place })
    back h =
        ap longhand_answer (sym (take-append-drop kind1_bytes l) ∙ ap (λ (x : List ℕ). x ++ drop kind1_bytes l) h.1.front)
        ∙ survives r (drop kind1_bytes l) h.1.good h.1.down_fits h.1.up_fits
        ∙ ap (λ (p : ℕ). answer 0 (record { opts = r; after = p })) (sym h.0)

pub one_encoding : (l m : List ℕ) (r : SuperOpts) → Begins l r → Begins m r → take kind1_bytes l ≡ take kind1_bytes m
one_encoding l m r p q = p.front ∙ sym q.front

-- ---- "gives the place after it by the length": of a record whose bytes are all there, whatever stands after them
same_answer : (m l : List ℕ) → length_no m ≡ length_no l → length_of m ≡ length_of l → kind_of m ≡ kind_of l → body_of m ≡ body_of l → longhand_answer m ≡ longhand_answer l
unfolding longhand_no
same_answer m l e n k b = rw (e, b, k, n)

module _ (l rest : List ℕ) (field : 4 ≤ length l) (own : place_after l ≤ length l) where
  abbrev m : List ℕ
  m = take (place_after l) l ++ rest

  m_long : place_after l ≤ length m
  m_long = omega (arith, length-append (take (place_after l) l) rest, length-take-le (place_after l) l own)

  same_length : length_of m ≡ length_of l
  same_length = ap value_of (part_own l rest (place_after l) 0 4 own (omega arith))

  -- a length below 2 is refused before any kind is read
  below_2 : (x : List ℕ) → 4 ≤ length x → place_after x ≤ length x → length_of x < 2 → answer 17 (no_longhand 0) ≡ longhand_answer x
  unfolding length_no
  below_2 x f o h = length_refused x (OfLonghand Length) (rw (le-ltb (length x) 4 f, le-ltb (length x) (place_after x) o, lt-ltb (length_of x) 2 h))

  same_by : (t : Bool) → ltb (length_of l) 2 ≡ t → longhand_answer m ≡ longhand_answer l
  same_by true e =
      let h = ltb-true (length_of l) 2 e in
      sym (below_2 m (omega (arith, m_long)) (omega (arith, m_long, same_length)) (omega (arith, h, same_length))) ∙ below_2 l field own h
  same_by false e =
      let h = ltb-false (length_of l) 2 e in
      let w : Whole l = record { field = field; own = own; kind = h } in
      let v : Whole m = record { field = omega (arith, m_long); own = omega (arith, m_long, same_length); kind = omega (arith, h, same_length) } in
      same_answer m l (whole_none m v ∙ sym (whole_none l w)) same_length (ap value_of (part_own l rest (place_after l) 4 2 own (omega (arith, h)))) (ap (λ (n : ℕ). take (n - 2) (drop 6 m)) same_length ∙ part_own l rest (place_after l) 6 (length_of l - 2) own (omega (arith, h)))

  same_read : longhand_answer m ≡ longhand_answer l
  same_read = same_by (ltb (length_of l) 2) refl

short : (l : List ℕ) (t : Bool) → (ltb (length l) 4 || ltb (length l) (place_after l)) ≡ t → (longhand_no l ≡ 15 → ⊥) → t ≡ false
unfolding longhand_no length_no
short l true e h = absurd (h (rw e))
short l false e h = refl

pub own_bytes : (l rest : List ℕ) → (longhand_no l ≡ 15 → ⊥) → longhand_answer (take (place_after l) l ++ rest) ≡ longhand_answer l
own_bytes l rest h =
    let a = ltb (length l) 4 in
    let b = ltb (length l) (place_after l) in
    let none = short l (a || b) refl h in
    same_read l rest (ltb-false (length l) 4 (or_false_left a b none)) (ltb-false (length l) (place_after l) (or_false_right a b none))
