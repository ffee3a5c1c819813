-- Laws of refining: a row stored in the list that it is read of; a row of a pair, and the rows around one; planes that lie in a frame; the stages one after the other; last the table of pairs. Assumes nothing.
use mathlib.Core.Bool.{Bool, true, ◌&&◌}
use mathlib.Core.Logic.{◌⊎◌, ⊎_elim}
use mathlib.Core.Path.{◌≡◌, refl, sym, ap, ◌∙◌, subst}
use mathlib.Core.List.{List, [], ◌∷◌, ◌++◌, append_assoc}
use Prim.Native.Nat.{ℕ, zero, suc, ◌+◌, ◌*◌, ◌-◌, ◌≤◌, ◌<◌}
use native.Mathlib.Nat.{mul-le-mul_right, add-mul, le_of_suc-le-suc, not-suc-le-zero}
use native.Mathlib.Numerals.{add-one}
use native.Mathlib.Omega.{arith}
use lib.Dec.{leb}
use lib.ListN.{length, get_or, take, drop, set, length-append, length-drop, length-set, take-append-drop}
use lib.Seq.{drop-cons, set_at, append_snoc, length-take-le}
use borrow.Author.Tests.{leb-true}
use Rattle.settings.proofs.Tests.{and_left, and_right}
use Rattle.filters.specs.Row.{tab, mean_of, means_of}
use Rattle.filters.specs.Refine.{half_vertical}
use Rattle.filters.specs.declared.half_pel.HalfPel.{HalfPel}
use Rattle.filters.proofs.Tables.{tab_length, tab_ext}
use Rattle.filters.proofs.Lengths.{means_length}
use Rattle.layouts.specs.Storing.{put, steps}
use Rattle.layouts.proofs.Loops.{row_in, put_plain}
use Rattle.builder.specs.Canvas.{fetch}
use Rattle.builder.specs.declared.refining.Interp.{Interp}
use Rattle.builder.specs.declared.refining.Pair.{Pair}
use Rattle.builder.specs.Refining.{pair_run, vertical_run, plane_at, pair_of, pairs, quarter, fold_pairs}
use Rattle.builder.specs.Room.{PairPlane, OnePlane, Planes, Halves, Quarter}
use Rattle.builder.proofs.Runs.{fetch_at, fetch_length, fetch_before, fetch_stored, put_before, put_past}

tab_next : (f : ℕ → ℕ) (n : ℕ) → tab f (n + 1) ≡ tab f n ++ (f n ∷ [])
unfolding tab
tab_next f n = rw (add-one n)

-- ---- a loop that stores a row at t, byte by byte, into the list that it reads before t and from the byte that it stores on
-- one more byte of the row
put_more : (f : ℕ → ℕ) (c : List ℕ) (t i v : ℕ) → t + i < length c → v ≡ f i → set (put c t (tab f i)) (t + i) v ≡ put c t (tab f (i + 1))
put_more f c t i v room e =
    let li : length (tab f i) ≡ i = tab_length f i in
    let here : length (take t c ++ tab f i) ≡ t + i = length-append (take t c) (tab f i) ∙ omega (arith, length-take-le t c (omega arith)) in
    let inside : i < length (drop t c) = omega (arith, length-drop t c) in
    let next : length (tab f i ++ (f i ∷ [])) ≡ suc i = ap length (sym (tab_next f i)) ∙ tab_length f (i + 1) ∙ add-one i in
    ap (λ (x : List ℕ). set x (t + i) v) (put_plain c t (tab f i) (omega arith))
    ∙ ap (λ (k : ℕ). set (take t c ++ (tab f i ++ drop k (drop t c))) (t + i) v) li
    ∙ ap (λ (x : List ℕ). set (take t c ++ (tab f i ++ x)) (t + i) v) (drop-cons (drop t c) i 0 inside)
    ∙ ap (λ (x : List ℕ). set x (t + i) v) (sym (append_assoc (take t c) (tab f i) (get_or (drop t c) i 0 ∷ drop (suc i) (drop t c))))
    ∙ set_at (take t c ++ tab f i) (get_or (drop t c) i 0) (drop (suc i) (drop t c)) v (t + i) here
    ∙ ap (λ (x : ℕ). (take t c ++ tab f i) ++ (x ∷ drop (suc i) (drop t c))) e
    ∙ append_assoc (take t c) (tab f i) (f i ∷ drop (suc i) (drop t c))
    ∙ ap (λ (x : List ℕ). take t c ++ x) (sym (append_snoc (tab f i) (f i) (drop (suc i) (drop t c))))
    ∙ ap (λ (k : ℕ). take t c ++ ((tab f i ++ (f i ∷ [])) ++ drop k (drop t c))) (sym next)
    ∙ ap (λ (x : List ℕ). take t c ++ (x ++ drop (length x) (drop t c))) (sym (tab_next f i))
    ∙ sym (put_plain c t (tab f (i + 1)) (omega arith))

-- what the loop knows at its head
pub record Laid (f : ℕ → ℕ) (c₀ c : List ℕ) (t n i : ℕ) : Type 0 where
  pub most : i ≤ n
  pub same : length c ≡ length c₀
  pub is : c ≡ put c₀ t (tab f i)

pub laid_none : (f : ℕ → ℕ) (c : List ℕ) (t n : ℕ) → t ≤ length c → Laid f c c t n 0
unfolding tab
laid_none f c t n le = record { most = omega arith; same = refl; is = sym (put_plain c t [] le ∙ take-append-drop t c) }

pub laid_more : {f : ℕ → ℕ} {c₀ c : List ℕ} {t n i v : ℕ} → Laid f c₀ c t n i → i < n → t + n ≤ length c₀ → v ≡ f i → Laid f c₀ (set c (t + i) v) t n (i + 1)
laid_more {f} {c₀} {c} {t} {n} {i} {v} h lt room e =
    record {
      most = omega arith;
      same = length-set c (t + i) v ∙ h.same;
      is = ap (λ (x : List ℕ). set x (t + i) v) h.is ∙ put_more f c₀ t i v (omega arith) e;
    }

pub laid_whole : {f : ℕ → ℕ} {c₀ c : List ℕ} {t n i : ℕ} → Laid f c₀ c t n i → n ≤ i → c ≡ put c₀ t (tab f n)
laid_whole {f} {c₀} {c} {t} {n} {i} h le = let e : i ≡ n = omega arith in h.is ∙ ap (λ (k : ℕ). put c₀ t (tab f k)) e

-- a byte before t or not laid over yet, read in the loop
pub laid_read : {f : ℕ → ℕ} {c₀ c : List ℕ} {t n i : ℕ} (k : ℕ) → Laid f c₀ c t n i → (k < t) ⊎ (t + i ≤ k) → get_or c k 0 ≡ get_or c₀ k 0
laid_read {f} {c₀} {c} {t} {n} {i} k h where-it-is =
    ap (λ (x : List ℕ). get_or x k 0) h.is
    ∙ ⊎_elim (λ (lt : k < t). put_before c₀ (tab f i) t k lt) (λ (past : t + i ≤ k). put_past c₀ (tab f i) t k (omega (arith, tab_length f i))) where-it-is

-- the loop's rule
abbrev pub mean_at : List ℕ → ℕ → ℕ → ℕ → ℕ
mean_at c l r i = mean_of (get_or c (l + i) 0) (get_or c (r + i) 0)

pub pair_laid : (c : List ℕ) (t l r n : ℕ) → put c t (tab (mean_at c l r) n) ≡ pair_run t l r n c
unfolding pair_run means_of
pair_laid c t l r n =
    ap (put c t)
    (tab_ext (mean_at c l r) (λ i. mean_of (get_or (fetch c l n) i 0) (get_or (fetch c r n) i 0)) n
    (λ i lt. ap (λ (x : ℕ). mean_of x (get_or c (r + i) 0)) (sym (fetch_at c l n i lt)) ∙ ap (mean_of (get_or (fetch c l n) i 0)) (sym (fetch_at c r n i lt))))

-- ---- one row of a pair
-- both rows laid at the start of x, and the means after them
pub pair_apart : (c x : List ℕ) (l r n : ℕ) → fetch (pair_run (2 * n) 0 n n (put (put x 0 (fetch c l n)) n (fetch c r n))) (2 * n) n ≡ means_of n (fetch c l n) (fetch c r n)
unfolding pair_run
pair_apart c x l r n =
    let a = fetch c l n in
    let b = fetch c r n in
    let x1 = put x 0 a in
    let x2 = put x1 n b in
    let first : fetch x2 0 n ≡ a = fetch_before x1 b n 0 n (omega arith) ∙ fetch_stored x a 0 n (fetch_length c l n) in
    let second : fetch x2 n n ≡ b = fetch_stored x1 b n n (fetch_length c r n) in
    fetch_stored x2 (means_of n (fetch x2 0 n) (fetch x2 n n)) (2 * n) n (means_length n (fetch x2 0 n) (fetch x2 n n))
    ∙ ap (λ (y : List ℕ). means_of n y (fetch x2 n n)) first
    ∙ ap (means_of n a) second

-- ---- the rows around row y
pub vertical_rows_lem : (k : HalfPel) (i : Interp) (s y n a2 a1 : ℕ) (F m2 m1 c0 p1 p2 p3 : List ℕ) → n ≡ i.width → a2 ≡ y - 2 → a1 ≡ y - 1 → m2 ≡ fetch F (s + a2 * i.pitch) i.width → m1 ≡ fetch F (s + a1 * i.pitch) i.width → c0 ≡ fetch F (s + y * i.pitch) i.width → p1 ≡ fetch F (s + (y + 1) * i.pitch) i.width → p2 ≡ fetch F (s + (y + 2) * i.pitch) i.width → p3 ≡ fetch F (s + (y + 3) * i.pitch) i.width → half_vertical k y i.height n m2 m1 c0 p1 p2 p3 ≡ vertical_run k i s y F
unfolding vertical_run
vertical_rows_lem k i s y n a2 a1 F m2 m1 c0 p1 p2 p3 e b2 b1 f2 f1 g0 g1 g2 g3 = rw (e, f2, f1, g0, g1, g2, g3, b2, b1)

-- ---- k planes in a frame
module _ {k len scratch : ℕ} {i : Interp} (P : Planes k len scratch i) where
  pub plane_fits : (j t : ℕ) → j < k → t ≡ plane_at i j → t + i.height * i.pitch ≤ len
  plane_fits j t lt e = omega (arith, row_in j k (i.height * i.pitch) lt, P.inside, e)

  -- a plane is longer than a row and a byte
  plane_long : i.pitch + 2 ≤ i.height * i.pitch
  plane_long = omega (arith, mul-le-mul_right i.pitch P.high, P.wide, P.fits)

  pub first_row_fits : (j t s : ℕ) → j < k → t ≡ plane_at i j → s ≤ 1 → (s + i.width ≤ len) × (t + i.width ≤ len) × (i.width ≤ scratch)
  first_row_fits j t s lt e few =
      (omega (arith, plane_fits j t lt e, plane_long, P.fits), omega (arith, plane_fits j t lt e, plane_long, P.fits), omega (arith, P.fits, P.room))

  -- from plane 0 and a place that is a row and a byte on at most
  pub pair_fits : (j t x spill : ℕ) → j < k → 2 ≤ k → t ≡ plane_at i j → x ≤ i.pitch + 1 → 16 ≤ spill → PairPlane len spill scratch i t 0 x
  pair_fits j t x spill lt some e near beyond =
      let second = plane_fits 1 (plane_at i 1) some refl in
      record {
        fits = P.fits;
        most = P.most_pitch_lem;
        target = plane_fits j t lt e;
        left = omega (arith, second);
        right = omega (arith, second, plane_long);
        beyond = beyond;
        room = P.room;
      }

  pub horizontal_fits : (j t m s : ℕ) → j < k → t ≡ plane_at i j → m < k → s ≡ plane_at i m → OnePlane len scratch i.height i t s
  horizontal_fits j t m s lt e lt' e' =
      record { fits = P.fits; most = P.most_height; source = plane_fits m s lt' e'; target = plane_fits j t lt e; room = omega (arith, P.fits, P.room) }

  -- rows of plane 0 and three more
  pub vertical_fits : (j t : ℕ) → j < k → 3 ≤ k → t ≡ plane_at i j → OnePlane len scratch (i.height + 3) i t 0
  vertical_fits j t lt some e =
      record {
        fits = P.fits;
        most = P.most_height;
        source = omega (arith, add-mul i.height 3 i.pitch, plane_fits 2 (plane_at i 2) some refl, mul-le-mul_right i.pitch P.high);
        target = plane_fits j t lt e;
        room = omega (arith, P.fits, P.room);
      }

pub planes_kept : {k len scratch len' scratch' : ℕ} {i : Interp} → Planes k len scratch i → len' ≡ len → scratch' ≡ scratch → Planes k len' scratch' i
planes_kept P e f =
    record {
      wide = P.wide;
      fits = P.fits;
      most_pitch_lem = P.most_pitch_lem;
      high = P.high;
      most_height = P.most_height;
      inside = omega (arith, P.inside, e);
      room = omega (arith, P.room, f);
    }

pub planes_fewer : {j k len scratch : ℕ} {i : Interp} → Planes k len scratch i → j ≤ k → Planes j len scratch i
planes_fewer {j} {k} {len} {scratch} {i} P few =
    record {
      wide = P.wide;
      fits = P.fits;
      most_pitch_lem = P.most_pitch_lem;
      high = P.high;
      most_height = P.most_height;
      inside = omega (arith, P.inside, mul-le-mul_right (i.height * i.pitch) few);
      room = P.room;
    }

-- at pel 2 or 4
pub halves_two : Halves 1 2 3
halves_two = record { first = omega arith; across = omega arith; below = omega arith; most = omega arith }

pub halves_four : Halves 2 8 10
halves_four = record { first = omega arith; across = omega arith; below = omega arith; most = omega arith }

pub pel_four : {pel : ℕ} → (pel ≡ 2) ⊎ (pel ≡ 4) → (pel ≡ 2 → ⊥) → pel ≡ 4
pel_four known not-two = ⊎_elim (λ e. absurd (not-two e)) (λ e. e) known

pub planes_at : {pel m len scratch : ℕ} {i : Interp} → pel ≡ m → Planes (pel * pel) len scratch i → Planes (m * m) len scratch i
planes_at {pel} {m} {len} {scratch} {i} e P = subst (λ (k : ℕ). Planes (k * k) len scratch i) e P

-- ---- the pairs between the planes at half places
abbrev pub cut : Interp → Pair → Interp
cut i q = record { pitch = i.pitch; width = i.width - q.across; height = i.height - q.below }

pub quarter_fits : {len scratch : ℕ} {i : Interp} {q : Pair} (spill T L R : ℕ) → Planes 16 len scratch i → Quarter q → 16 ≤ spill → T ≡ plane_at i q.target → L ≡ plane_at i q.left → R ≡ plane_at i q.right → PairPlane len spill scratch (cut i q) T (L + q.across + q.below * i.pitch) R
quarter_fits {len} {scratch} {i} {q} spill T L R P Q beyond eT eL eR =
    let h = i.height in
    let p = i.pitch in
    let fewer : (h - q.below) * p ≤ h * p = mul-le-mul_right p (omega arith) in
    let back : q.below + (h - q.below) ≡ h = omega (arith, Q.below, P.high) in
    let whole : q.below * p + (h - q.below) * p ≡ h * p = sym (add-mul q.below (h - q.below) p) ∙ ap (λ (k : ℕ). k * p) back in
    let next : plane_at i (q.left + 1) ≡ L + h * p = add-mul q.left 1 (h * p) ∙ omega (arith, eL) in
    let after = plane_fits P (q.left + 1) (plane_at i (q.left + 1)) (omega (arith, Q.left)) refl in
    record {
      fits = omega (arith, P.fits);
      most = P.most_pitch_lem;
      target = omega (arith, fewer, plane_fits P q.target T (omega (arith, Q.target)) eT);
      left = omega (arith, whole, next, after, Q.across, plane_long P);
      right = omega (arith, fewer, plane_fits P q.right R (omega (arith, Q.right)) eR);
      beyond = beyond;
      room = P.room;
    }

-- a test of each pair of a table
abbrev pub every : (Pair → Bool) → List Pair → Bool
every t [] = true
every t (q ∷ qs) = t q && every t qs

pub every_at : (t : Pair → Bool) (qs : List Pair) → every t qs ≡ true → (k : ℕ) → k < length qs → t (get_or qs k (pair_of 0 0 0 0 0)) ≡ true
every_at t [] e k h = absurd (not-suc-le-zero h)
every_at t (q ∷ qs) e zero h = and_left (t q) (every t qs) e
every_at t (q ∷ qs) e (suc k) h = every_at t qs (and_right (t q) (every t qs) e) k (le_of_suc-le-suc h)

-- `Quarter` as such a test
abbrev is_quarter : Pair → Bool
is_quarter q = leb q.target 15 && (leb q.left 14 && (leb q.right 15 && (leb q.across 1 && leb q.below 1)))

is_quarter_lem : (q : Pair) → is_quarter q ≡ true → Quarter q
is_quarter_lem q e =
    let l = and_right (leb q.target 15) _ e in
    let r = and_right (leb q.left 14) _ l in
    let a = and_right (leb q.right 15) _ r in
    record {
      target = leb-true q.target 15 (and_left (leb q.target 15) _ e);
      left = leb-true q.left 14 (and_left (leb q.left 14) _ l);
      right = leb-true q.right 15 (and_left (leb q.right 15) _ r);
      across = leb-true q.across 1 (and_left (leb q.across 1) _ a);
      below = leb-true q.below 1 (and_right (leb q.across 1) _ a);
    }

pub table_row : (k : ℕ) → k < 12 → Quarter (get_or pairs k (pair_of 0 0 0 0 0))
table_row k h = is_quarter_lem (get_or pairs k (pair_of 0 0 0 0 0)) (every_at is_quarter pairs refl k h)

-- walked by index
pub table_walked : (i : Interp) (c : List ℕ) → steps (λ k. quarter i (get_or pairs k (pair_of 0 0 0 0 0))) 12 c ≡ fold_pairs (quarter i) pairs c
unfolding steps fold_pairs
table_walked i c = refl
