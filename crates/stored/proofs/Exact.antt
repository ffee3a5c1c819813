-- The test is exact: what it says of each level; that it is the test by numbers; that a layout which passes it is what making gives, and that what is made passes. Assumes nothing.
use mathlib.Core.Path.{◌≡◌, refl, sym, ap, ◌∙◌}
use mathlib.Core.Bool.{Bool, true, false, not, ◌&&◌}
use mathlib.Core.List.{List, [], ◌∷◌}
use mathlib.Core.Logic.{⊎_elim}
use Prim.Native.Nat.{ℕ, zero, suc, ◌≤◌, ◌<◌}
use native.Mathlib.Nat.{le_of_suc-le-suc, eq-or-lt_of_le}
use native.Mathlib.Omega.{arith}
use lib.Dec.{eqb, leb}
use lib.ListN.{length, get_or}
use borrow.Author.Tests.{eqb-true, eq-eqb, le-leb, leb-true, le-ltb, not-true, not-false}
use Rattle.std.specs.Borrow.{Bor}
use Rattle.settings.specs.declared.super_opts.SuperOpts.{SuperOpts}
use Rattle.settings.specs.Limits.{most_levels}
use Rattle.settings.specs.Numbers.{refuse}
use Rattle.settings.specs.Check.{accepted, record_no}
use Rattle.settings.specs.Answers.{Answer, answer}
use Rattle.settings.proofs.Tests.{and_left, and_right, yes_no, clash, false_by}
use Rattle.settings.proofs.Refusals.{then_rest, refuse_not}
use Rattle.settings.proofs.Known.{given, number_of, value_given}
use Rattle.layouts.specs.declared.layout.Layout.{Layout}
use Rattle.layouts.specs.declared.layout.Region.{Region}
use Rattle.layouts.specs.Layout.{levels_of, region_at, region_or}
use Rattle.layouts.specs.Refusals.{least_pitch, bad_pitch, layout_no}
use Rattle.layouts.proofs.Layouts.{allowed, levels_le, region_there}
use Rattle.stored.specs.Layout.{most_numbers, stored_of, no_stored, view_of, same_numbers, is_stored}
use Rattle.stored.specs.Inner.{has_view, region_in, same_region, every_level, same_at, keeps}
use Rattle.stored.specs.Refusals.{stored_no}
use Rattle.stored.specs.Answers.{layout_answer}
use Rattle.stored.proofs.Places.{by_region, stored_long, stored_at, stored_region, view_stored, is_stored_lem}

-- ---- numbers that have a view
pub record Shaped (l : List ℕ) : Type 0 where
  pub long : length l ≡ most_numbers
  pub x : get_or l 1 0 ≤ 1
  pub y : get_or l 2 0 ≤ 1

pub shaped : (l : List ℕ) → has_view l ≡ true → Shaped l
unfolding has_view
shaped l e =
    let n = eqb (length l) most_numbers in
    let x = leb (get_or l 1 0) 1 in
    let y = leb (get_or l 2 0) 1 in
    let nx = and_left (n && x) y e in
    record { long = eqb-true (length l) most_numbers (and_left n x nx); x = leb-true (get_or l 1 0) 1 (and_right n x nx); y = leb-true (get_or l 2 0) 1 (and_right (n && x) y e) }

-- whose layout is refused for its pitch alone
pub layout_by_pitch : (r : SuperOpts) (l : List ℕ) → accepted r ≡ true → has_view l ≡ true → let q = view_of r l in layout_no q ≡ refuse (bad_pitch q.pitch (least_pitch q)) 8
unfolding layout_no
layout_by_pitch r l good are = let s = shaped l are in rw (good, le-ltb 1 (get_or l 1 0) s.x, le-ltb 1 (get_or l 2 0) s.y) refl

-- ---- number for number
same_self : (l : List ℕ) → same_numbers l l ≡ true
unfolding same_numbers
same_self [] = refl
same_self (a ∷ l) = rw (eq-eqb a a refl, same_self l) refl

by_parts : {a b : ℕ} {l m : List ℕ} → a ≡ b → l ≡ m → a ∷ l ≡ b ∷ m
by_parts e f = rw (e, f)

same_numbers_lem : (l m : List ℕ) → same_numbers l m ≡ true → l ≡ m
unfolding same_numbers
same_numbers_lem [] [] e = refl
same_numbers_lem [] (b ∷ m) e = absurd (yes_no (sym e))
same_numbers_lem (a ∷ l) [] e = absurd (yes_no (sym e))
same_numbers_lem (a ∷ l) (b ∷ m) e = by_parts (eqb-true a b (and_left (eqb a b) (same_numbers l m) e)) (same_numbers_lem l m (and_right (eqb a b) (same_numbers l m) e))

alike : (a b : Bool) → (a ≡ true → b ≡ true) → (b ≡ true → a ≡ true) → a ≡ b
alike true b f g = sym (f refl)
alike false true f g = g refl
alike false false f g = refl

-- ---- each of the first n
pub every_yes : (p : ℕ → Bool) (n : ℕ) → ((j : ℕ) → j < n → p j ≡ true) → every_level p n ≡ true
unfolding every_level
every_yes p zero h = refl
every_yes p (suc n) h = rw (every_yes p n (λ j lt. h j (omega arith)), h n (omega arith)) refl

pub every_at : (p : ℕ → Bool) (n : ℕ) → every_level p n ≡ true → (j : ℕ) → j < n → p j ≡ true
unfolding every_level
every_at p zero e j lt = absurd (omega arith)
every_at p (suc n) e j lt =
    ⊎_elim
    (λ (k : j ≡ n). ap p k ∙ and_right (every_level p n) (p n) e)
    (λ (k : j < n). every_at p n (and_left (every_level p n) (p n) e) j k)
    (eq-or-lt_of_le (le_of_suc-le-suc lt))

pub every_no : (p : ℕ → Bool) (n j : ℕ) → j < n → p j ≡ false → every_level p n ≡ false
every_no p n j lt e = false_by (every_level p n) (λ yes. clash (p j) (every_at p n yes j lt) e)

-- ---- one region
-- regions that `!=` tells apart
pub apart : (a b : Region) → not (eqb a.offset b.offset && (eqb a.width b.width && eqb a.height b.height)) ≡ true → same_region a b ≡ false
apart a b e = go (eqb a.offset b.offset) (eqb a.width b.width) (eqb a.height b.height) e
  where
    go : (x y z : Bool) → not (x && (y && z)) ≡ true → (x && y && z) ≡ false
    go true true z e = not-true z e
    go true false z e = refl
    go false y z e = refl

same_is : (a b : Region) → same_region a b ≡ true → a ≡ b
same_is a b e =
    let o = eqb a.offset b.offset in
    let w = eqb a.width b.width in
    let h = eqb a.height b.height in
    let ow = and_left (o && w) h e in
    by_region (eqb-true a.offset b.offset (and_left o w ow)) (eqb-true a.width b.width (and_right o w ow)) (eqb-true a.height b.height (and_right (o && w) h e))

is_same : (a b : Region) → a ≡ b → same_region a b ≡ true
is_same a b e = rw (eq-eqb a.offset b.offset (ap (λ (r : Region). r.offset) e), eq-eqb a.width b.width (ap (λ (r : Region). r.width) e), eq-eqb a.height b.height (ap (λ (r : Region). r.height) e)) refl

-- ---- level by level is number by number
stored_keeps : (q : Layout) → keeps q (stored_of q) ≡ true
unfolding keeps
stored_keeps q = rw (eq-eqb (get_or (stored_of q) 0 0) (levels_of q) (stored_at q 0 (omega arith)), every_yes (same_at q (stored_of q)) most_levels (λ i lt. is_same (region_in (stored_of q) i) (region_or q i) (stored_region q i lt))) refl

module _ (r : SuperOpts) (l : List ℕ) where
  kept : length l ≡ most_numbers → keeps (view_of r l) l ≡ true → l ≡ stored_of (view_of r l)
  unfolding keeps
  kept long e =
      let q = view_of r l in
      let n = eqb (get_or l 0 0) (levels_of q) in
      let all = every_level (same_at q l) most_levels in
      is_stored_lem q l long (eqb-true (get_or l 0 0) (levels_of q) (and_left n all e)) refl refl refl (λ i lt. same_is (region_in l i) (region_or q i) (every_at (same_at q l) most_levels (and_right n all e) i lt))

  made_same : l ≡ stored_of (view_of r l) → same_numbers l (stored_of (view_of r l)) ≡ true
  made_same e = ap (same_numbers l) (sym e) ∙ same_self l

  made_keeps : l ≡ stored_of (view_of r l) → keeps (view_of r l) l ≡ true
  made_keeps e = ap (keeps (view_of r l)) e ∙ stored_keeps (view_of r l)

  pub by_levels : length l ≡ most_numbers → keeps (view_of r l) l ≡ same_numbers l (stored_of (view_of r l))
  by_levels long = alike (keeps (view_of r l) l) (same_numbers l (stored_of (view_of r l))) (λ e. made_same (kept long e)) (λ e. made_keeps (same_numbers_lem l (stored_of (view_of r l)) e))

-- ---- a layout that isn't refused
pub record Passed (r : SuperOpts) (l : List ℕ) : Type 0 where
  pub layout : layout_no (view_of r l) ≡ 0
  pub made : l ≡ stored_of (view_of r l)

pub stored_passed : (r : SuperOpts) (l : List ℕ) → is_stored r l ≡ true → Passed r l
unfolding is_stored
stored_passed r l is =
    let q = view_of r l in
    let fine = eqb (layout_no q) 0 in
    let same = same_numbers l (stored_of q) in
    record {
      layout = eqb-true (layout_no q) 0 (and_left fine same is);
      made = same_numbers_lem l (stored_of q) (and_right fine same is);
    }

pub passed : (r : SuperOpts) (l : List ℕ) → stored_no r l ≡ 0 → Passed r l
unfolding stored_no
passed r l e = stored_passed r l (not-false (is_stored r l) (refuse_not (not (is_stored r l)) 31 (then_rest (record_no r) (refuse (not (is_stored r l)) 32) e)))

pub passes : (r : SuperOpts) (l : List ℕ) → Passed r l → stored_no r l ≡ 0
unfolding stored_no is_stored
passes r l p = rw ((allowed (view_of r l) p.layout).good, eq-eqb (layout_no (view_of r l)) 0 p.layout, made_same r l p.made) refl

-- such numbers have a view, and are a layout's
pub passed_long : (r : SuperOpts) (l : List ℕ) → Passed r l → length l ≡ most_numbers
passed_long r l p = ap length p.made ∙ stored_long (view_of r l)

pub passed_view : (r : SuperOpts) (l : List ℕ) → Passed r l → has_view l ≡ true
unfolding has_view
passed_view r l p =
    let a = allowed (view_of r l) p.layout in
    rw (eq-eqb (length l) most_numbers (passed_long r l p), le-leb (get_or l 1 0) 1 a.x, le-leb (get_or l 2 0) 1 a.y) refl

pub viewless : (r : SuperOpts) (l : List ℕ) → has_view l ≡ false → is_stored r l ≡ false
viewless r l e = false_by (is_stored r l) (λ yes. clash (has_view l) (passed_view r l (stored_passed r l yes)) e)

pub passed_count : (r : SuperOpts) (l : List ℕ) → Passed r l → get_or l 0 0 ≡ levels_of (view_of r l)
passed_count r l p = ap (λ (m : List ℕ). get_or m 0 0) p.made ∙ stored_at (view_of r l) 0 (omega arith)

-- a level that is there
pub record Found (r : SuperOpts) (l : List ℕ) (i : ℕ) : Type 0 where
  pub there : i < levels_of (view_of r l)
  pub few : i < most_levels
  pub region : region_in l i ≡ region_at (view_of r l) i

pub found : (r : SuperOpts) (l : List ℕ) (i : ℕ) → Passed r l → i < get_or l 0 0 → Found r l i
found r l i p lt =
    let q = view_of r l in
    let there : i < levels_of q = omega (arith, passed_count r l p) in
    let few : i < most_levels = omega (arith, levels_le q (allowed q p.layout)) in
    record { there = there; few = few; region = ap (λ (m : List ℕ). region_in m i) p.made ∙ stored_region q i few ∙ region_there q i there }

-- ---- "A layout handed in that isn't the one its record gives is refused": the test says yes if and only if making gives this layout
pub exactly : (r : SuperOpts) (l : List ℕ) → (stored_no r l ≡ 0 → answer 0 l ≡ layout_answer (view_of r l)) × (answer 0 l ≡ layout_answer (view_of r l) → stored_no r l ≡ 0)
exactly r l = (there, back)
  where
    there : stored_no r l ≡ 0 → answer 0 l ≡ layout_answer (view_of r l)
    there e =
        let p = passed r l e in
        ap (answer 0) p.made ∙ given (layout_no (view_of r l)) (stored_of (view_of r l)) no_stored p.layout

    back : answer 0 l ≡ layout_answer (view_of r l) → stored_no r l ≡ 0
    back e = passes r l (record { layout = sym (number_of e); made = value_given (stored_of (view_of r l)) no_stored e })

-- what is made from record, shifts and pitch passes
pub made_passes : (q : Layout) → layout_no q ≡ 0 → stored_no q.opts (stored_of q) ≡ 0
made_passes q none =
    let v = view_stored q in
    passes q.opts (stored_of q) (record { layout = ap layout_no v ∙ none; made = ap stored_of (sym v) })

-- ---- what a test leaves of what it was given, and its number where it refuses that
pub none_told : {r t : SuperOpts} {l m : Bor (List ℕ)} {n : ℕ} → answer {A = SuperOpts × Bor (List ℕ)} 0 (t, m) ≡ answer n (r, l) → n ≡ 0
none_told e = sym (ap (λ (a : Answer (SuperOpts × Bor (List ℕ))). a.no) e)

pub view_kept : {r t : SuperOpts} {l m : Bor (List ℕ)} {n : ℕ} → answer {A = SuperOpts × Bor (List ℕ)} 0 (t, m) ≡ answer n (r, l) → view_of t m.now ≡ view_of r l.now
view_kept e = ap (λ (a : Answer (SuperOpts × Bor (List ℕ))). view_of a.value.0 a.value.1.now) e

pub number_told : {r : SuperOpts} {l : Bor (List ℕ)} {k n : ℕ} → answer {A = SuperOpts × Bor (List ℕ)} k (r, l) ≡ answer n (r, l) → k ≡ n
number_told e = ap (λ (a : Answer (SuperOpts × Bor (List ℕ))). a.no) e
