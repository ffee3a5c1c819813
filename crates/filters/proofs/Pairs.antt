-- A row of pairs halved: byte 0 replaced by output 0, the row taken apart, the weights over its parts, and that with the edges this is document 01's row. Assumes nothing.
use mathlib.Core.Path.{◌≡◌, refl, sym, ap, ◌∙◌}
use mathlib.Core.Bool.{Bool, true, false, cond, ◌&&◌}
use mathlib.Core.List.{List}
use mathlib.Core.Logic.{⊎_elim}
use Prim.Native.Nat.{ℕ, ◌+◌, ◌*◌, ◌-◌, ◌≤◌, ◌<◌}
use native.Mathlib.Omega.{arith}
use lib.Dec.{leb, eqb}
use lib.ListN.{length, get_or, set, drop, length-set}
use lib.Seq.{get_or-set_same, get_or-set_other, get_or-drop}
use borrow.Author.Tests.{ne_eqb, le-leb, lt-leb, leb-false}
use Rattle.filters.specs.declared.halving.ReduceFilter.{ReduceFilter}
use Rattle.filters.specs.declared.halving.ReduceFilter.TheVariants.{Average, Bilinear, Quadratic, Cubic}
use Rattle.filters.specs.Row.{mean_of, six_at, sixes, around}
use Rattle.filters.specs.Halve.{last_is_mean, is_edge, weigh, headed, horizontal_at, horizontal_row}
use Rattle.filters.specs.Inner.{Apart, weighed_apart, with_last, reduced_apart}
use Rattle.filters.proofs.Tests.{below_or, and_no, or_yes}
use Rattle.filters.proofs.Tables.{is_tab, tab_at}
use Rattle.filters.proofs.Lengths.{sixes_length}

headed_first : (v : List ℕ) → 0 < length v → mean_of (get_or v 0 0) (get_or v 1 0) ≡ get_or (headed v) 0 0
unfolding headed
headed_first v h = sym (get_or-set_same v 0 (mean_of (get_or v 0 0) (get_or v 1 0)) 0 h)

headed_later : (v : List ℕ) (j : ℕ) → 0 < j → get_or v j 0 ≡ get_or (headed v) j 0
unfolding headed
headed_later v j h = sym (get_or-set_other v 0 j (mean_of (get_or v 0 0) (get_or v 1 0)) 0 (λ e. omega arith))

at : (l : List ℕ) {i j : ℕ} → i ≡ j → get_or l i 0 ≡ get_or l j 0
at l e = ap (λ (k : ℕ). get_or l k 0) e

-- ---- taken apart
pub apart_headed : {n m : ℕ} {v s : List ℕ} → Apart n n v s → 0 < length v → m ≡ mean_of (get_or v 0 0) (get_or v 1 0) → Apart n n (headed v) (set s 1 m)
apart_headed {n} {m} {v} {s} h some is =
    record {
      most = omega arith;
      room = omega (arith, length-set s 1 m, h.room);
      evens = λ j l.
          ⊎_elim
          (λ (later : 0 < j). get_or-set_other s 1 (j + 1) m 0 (λ e. omega arith) ∙ h.evens j l ∙ headed_later v (2 * j) (omega arith))
          (λ (first : j ≤ 0). let e : j ≡ 0 = omega arith in rw e (get_or-set_same s 1 m 0 (omega (arith, h.room)) ∙ is ∙ headed_first v some))
          (below_or 0 j);
      odds = λ j l. get_or-set_other s 1 (n + (j + 1)) m 0 (λ e. omega arith) ∙ h.odds j l ∙ headed_later v (2 * j + 1) (omega arith);
    }

-- ---- the weights over the parts
module _ {n : ℕ} {w s : List ℕ} (h : Apart n n w s) (i : ℕ) (more : 0 < i) (lt : i < n) where
  at_m2 : get_or s i 0 ≡ get_or w (2 * i - 2) 0
  at_m2 = at s (omega arith) ∙ h.evens (i - 1) (omega arith) ∙ at w (omega arith)

  at_m1 : get_or (drop n s) i 0 ≡ get_or w (2 * i - 1) 0
  at_m1 = get_or-drop n s i 0 ∙ at s (omega arith) ∙ h.odds (i - 1) (omega arith) ∙ at w (omega arith)

  at_c0 : get_or (drop 1 s) i 0 ≡ get_or w (2 * i) 0
  at_c0 = get_or-drop 1 s i 0 ∙ at s (omega arith) ∙ h.evens i lt

  at_p1 : get_or (drop (n + 1) s) i 0 ≡ get_or w (2 * i + 1) 0
  at_p1 = get_or-drop (n + 1) s i 0 ∙ at s (omega arith) ∙ h.odds i lt

  at_p2 : i + 1 < n → get_or (drop 2 s) i 0 ≡ get_or w (2 * i + 2) 0
  at_p2 l = get_or-drop 2 s i 0 ∙ at s (omega arith) ∙ h.evens (i + 1) l ∙ at w (omega arith)

  at_p3 : i + 1 < n → get_or (drop (n + 2) s) i 0 ≡ get_or w (2 * i + 3) 0
  at_p3 l = get_or-drop (n + 2) s i 0 ∙ at s (omega arith) ∙ h.odds (i + 1) l ∙ at w (omega arith)

  six_taps : (f : ReduceFilter) → i + 1 < n → six_at (weigh f) s (drop n s) (drop 1 s) (drop (n + 1) s) (drop 2 s) (drop (n + 2) s) i ≡ around (weigh f) w (2 * i)
  six_taps f l = rw (at_m2, at_m1, at_c0, at_p1, at_p2 l, at_p3 l)

  -- a filter that has no mean at the end reads nothing past the pair
  taps : (f : ReduceFilter) → (last_is_mean f ≡ true → i + 1 < n) → six_at (weigh f) s (drop n s) (drop 1 s) (drop (n + 1) s) (drop 2 s) (drop (n + 2) s) i ≡ around (weigh f) w (2 * i)
  taps Average l = rw (at_m1, at_c0, at_p1)
  taps Bilinear l = six_taps Bilinear (l refl)
  taps Quadratic l = six_taps Quadratic (l refl)
  taps Cubic l = six_taps Cubic (l refl)

-- ---- the halved row, from its pairs taken apart
cond_length : (t : Bool) (a b : List ℕ) → length a ≡ length b → length (cond t a b) ≡ length b
cond_length true a b e = e
cond_length false a b e = refl

with_last_length : (f : ReduceFilter) (n : ℕ) (s o : List ℕ) → length (with_last f n s o) ≡ length o
with_last_length f n s o = cond_length (last_is_mean f) _ o (length-set o (n - 1) _)

-- the weights, the last place, and then the first
pub reduced : (f : ReduceFilter) (n : ℕ) (s : List ℕ) {w l : List ℕ} → w ≡ weighed_apart f n s → l ≡ with_last f (length w) s w → set l 0 (get_or s 1 0) ≡ reduced_apart f n s
unfolding reduced_apart
reduced f n s {w} {l} weights last =
    let long : length w ≡ n = ap length weights ∙ sixes_length (weigh f) n s (drop n s) (drop 1 s) (drop (n + 1) s) (drop 2 s) (drop (n + 2) s) in
    ap (λ (k : List ℕ). set k 0 (get_or s 1 0)) (last ∙ ap (λ (k : ℕ). with_last f k s w) long ∙ ap (with_last f n s) weights)

module _ (f : ReduceFilter) (n : ℕ) (v : List ℕ) (i : ℕ) where
  by_mean : is_edge f i n ≡ true → mean_of (get_or v (2 * i) 0) (get_or v (2 * i + 1) 0) ≡ horizontal_at f n v i
  unfolding horizontal_at
  by_mean e = rw e

  by_weights : is_edge f i n ≡ false → around (weigh f) (headed v) (2 * i) ≡ horizontal_at f n v i
  unfolding horizontal_at
  by_weights e = rw e

module _ (f : ReduceFilter) {n : ℕ} (v : List ℕ) {s : List ℕ} (some : 0 < n) (fits : 2 * n ≤ length v) (h : Apart n n (headed v) s) where
  first : get_or s 1 0 ≡ horizontal_at f n v 0
  first = h.evens 0 some ∙ sym (headed_first v (omega arith)) ∙ by_mean f n v 0 refl

  -- the last pair, but for byte 0
  last : 1 < n → mean_of (get_or s n 0) (get_or s (2 * n) 0) ≡ mean_of (get_or v (2 * (n - 1)) 0) (get_or v (2 * (n - 1) + 1) 0)
  last many =
      let even : get_or s n 0 ≡ get_or v (2 * (n - 1)) 0 = at s (omega arith) ∙ h.evens (n - 1) (omega arith) ∙ sym (headed_later v (2 * (n - 1)) (omega arith)) in
      let odd : get_or s (2 * n) 0 ≡ get_or v (2 * (n - 1) + 1) 0 = at s (omega arith) ∙ h.odds (n - 1) (omega arith) ∙ sym (headed_later v (2 * (n - 1) + 1) (omega arith)) in
      rw (even, odd)

  weighed : (i : ℕ) → 0 < i → i < n → (last_is_mean f && leb n (i + 1)) ≡ false → get_or (weighed_apart f n s) i 0 ≡ horizontal_at f n v i
  unfolding sixes
  weighed i more lt e = tab_at _ n i lt ∙ taps h i more lt f (λ m. leb-false n (i + 1) (rw m at e)) ∙ by_weights f n v i (rw (ne_eqb i 0 (λ z. omega arith)) e)

  later : (t : Bool) → last_is_mean f ≡ t → (i : ℕ) → 0 < i → i < n → get_or (with_last f n s (weighed_apart f n s)) i 0 ≡ horizontal_at f n v i
  later false m i more lt = rw m (weighed i more lt (rw m))
  later true m i more lt =
      let w = weighed_apart f n s in
      let y = mean_of (get_or s n 0) (get_or s (2 * n) 0) in
      rw m
      (⊎_elim
      (λ (less : i < n - 1). get_or-set_other w (n - 1) i y 0 (λ e. omega arith) ∙ weighed i more lt (rw (lt-leb n (i + 1) (omega arith)) (and_no (last_is_mean f))))
      (λ (le : n - 1 ≤ i).
      let e : i ≡ n - 1 = omega arith in
      let edge : is_edge f (n - 1) n ≡ true = rw (m, le-leb n (n - 1 + 1) (omega arith)) (or_yes (eqb (n - 1) 0)) in
      rw e (get_or-set_same w (n - 1) y 0 (omega (arith, sixes_length (weigh f) n s (drop n s) (drop 1 s) (drop (n + 1) s) (drop 2 s) (drop (n + 2) s))) ∙ last (omega arith) ∙ by_mean f n v (n - 1) edge))
      (below_or i (n - 1)))

  pub reduced_apart_lem : reduced_apart f n s ≡ horizontal_row f n v
  unfolding reduced_apart horizontal_row
  reduced_apart_lem =
      let w = with_last f n s (weighed_apart f n s) in
      let long : length w ≡ n = with_last_length f n s (weighed_apart f n s) ∙ sixes_length (weigh f) n _ _ _ _ _ _ in
      is_tab (set w 0 (get_or s 1 0)) (horizontal_at f n v) n (length-set w 0 (get_or s 1 0) ∙ long)
      (λ i lt.
      ⊎_elim
      (λ (more : 0 < i). get_or-set_other w 0 i (get_or s 1 0) 0 (λ e. omega arith) ∙ later (last_is_mean f) refl i more lt)
      (λ (le : i ≤ 0). let e : i ≡ 0 = omega arith in rw e (get_or-set_same w 0 (get_or s 1 0) 0 (omega arith) ∙ first))
      (below_or 0 i))
