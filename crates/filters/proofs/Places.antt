-- Half samples: what each place takes, a row down the rows, and a row whose places between the edges were written over. Assumes nothing.
use mathlib.Core.Path.{◌≡◌, sym, ap, ◌∙◌}
use mathlib.Core.Bool.{true, false}
use mathlib.Core.List.{List, ◌++◌}
use mathlib.Core.Logic.{⊎_elim}
use Prim.Native.Nat.{ℕ, ◌+◌, ◌-◌, ◌≤◌, ◌<◌}
use native.Mathlib.Omega.{arith}
use lib.Dec.{ltb}
use lib.ListN.{length, get_or, set, take, drop, length-append, length-drop, get_or-append}
use lib.Seq.{get_or-drop, length-take-le}
use borrow.Author.Tests.{lt-ltb, le-ltb, le-leb, lt-leb}
use Rattle.filters.specs.declared.half_pel.HalfPel.{HalfPel}
use Rattle.filters.specs.declared.half_pel.HalfPel.TheVariants.{CatmullRom, Wiener}
use Rattle.filters.specs.Row.{tab, mean_of, means_of, six_at, sixes, around}
use Rattle.filters.specs.Refine.{near_edge, lead_of, tail_of, half_pel, half_sample, half_horizontal, half_vertical}
use Rattle.filters.specs.Inner.{next_at, next_means}
use Rattle.filters.proofs.Tests.{below_or, or_yes}
use Rattle.filters.proofs.Filling.{Filled, filled_more, filled_whole}
use Rattle.filters.proofs.Tables.{tab_at, tab_length, tab_ext, take_tab, part_length, back_tab}

module _ (k : HalfPel) (i n m2 m1 c0 p1 p2 p3 : ℕ) where
  sample_copy : n ≤ i + 1 → c0 ≡ half_sample k i n m2 m1 c0 p1 p2 p3
  sample_copy le = rw (le-leb n (i + 1) le)

  sample_mean : i + 1 < n → near_edge k i n ≡ true → mean_of c0 p1 ≡ half_sample k i n m2 m1 c0 p1 p2 p3
  sample_mean lt e = rw (lt-leb n (i + 1) lt, e)

  sample_kernel : i + 1 < n → near_edge k i n ≡ false → half_pel k m2 m1 c0 p1 p2 p3 ≡ half_sample k i n m2 m1 c0 p1 p2 p3
  sample_kernel lt e = rw (lt-leb n (i + 1) lt, e)

-- ---- down the rows
module _ (k : HalfPel) (y h n : ℕ) (m2 m1 c0 p1 p2 p3 : List ℕ) where
  pub vertical_copy : h ≤ y + 1 → n ≤ length c0 → take n c0 ≡ half_vertical k y h n m2 m1 c0 p1 p2 p3
  unfolding half_vertical sixes
  vertical_copy le long = take_tab n c0 long ∙ tab_ext (λ i. get_or c0 i 0) (six_at (half_sample k y h) m2 m1 c0 p1 p2 p3) n (λ i lt. sample_copy k y h _ _ (get_or c0 i 0) _ _ _ le)

  pub vertical_mean : y + 1 < h → near_edge k y h ≡ true → means_of n c0 p1 ≡ half_vertical k y h n m2 m1 c0 p1 p2 p3
  unfolding half_vertical sixes means_of
  vertical_mean lt e = tab_ext (λ i. mean_of (get_or c0 i 0) (get_or p1 i 0)) (six_at (half_sample k y h) m2 m1 c0 p1 p2 p3) n (λ i h. sample_mean k y _ _ _ _ _ _ _ lt e)

  pub vertical_kernel : y + 1 < h → near_edge k y h ≡ false → sixes (half_pel k) n m2 m1 c0 p1 p2 p3 ≡ half_vertical k y h n m2 m1 c0 p1 p2 p3
  unfolding half_vertical sixes
  vertical_kernel lt e = tab_ext (six_at (half_pel k) m2 m1 c0 p1 p2 p3) (six_at (half_sample k y h) m2 m1 c0 p1 p2 p3) n (λ i h. sample_kernel k y _ _ _ _ _ _ _ lt e)

-- ---- along a row
tail_some : (k : HalfPel) → 1 < tail_of k
tail_some CatmullRom = omega arith
tail_some Wiener = omega arith

next_inner : (n : ℕ) (r : List ℕ) (i : ℕ) → i + 1 < n → mean_of (get_or r i 0) (get_or r (i + 1) 0) ≡ next_at n r i
unfolding next_at
next_inner n r i lt = rw (lt-leb n (i + 1) lt)

next_last : (n : ℕ) (r : List ℕ) (i : ℕ) → n ≤ i + 1 → get_or r i 0 ≡ next_at n r i
unfolding next_at
next_last n r i le = rw (le-leb n (i + 1) le)

-- means of a row with itself from the next place on, and the last place stored
pub next_made : (n : ℕ) (o r t m : List ℕ) → length o ≡ n → 0 < n → t ≡ drop 1 r → m ≡ means_of (length (take (n - 1) o)) r t → set (m ++ drop (n - 1) o) (n - 1) (get_or r (n - 1) 0) ≡ next_means n r
unfolding next_means means_of
next_made n o r t m long some next means =
    let f : ℕ → ℕ = λ i. mean_of (get_or r i 0) (get_or t i 0) in
    let k : length (take (n - 1) o) ≡ n - 1 = length-take-le (n - 1) o (omega arith) in
    let is : m ≡ tab f (n - 1) = means ∙ ap (tab f) k in
    let ml : length m ≡ n - 1 = ap length is ∙ tab_length f (n - 1) in
    let filled : Filled (next_at n r) (m ++ drop (n - 1) o) n (n - 1) = record {
      most = omega arith;
      long = simp (length-append, length-drop) (omega arith);
      done = λ j lt.
          get_or-append m (drop (n - 1) o) 0 j (omega arith)
          ∙ ap (λ (l : List ℕ). get_or l j 0) is
          ∙ tab_at f (n - 1) j lt
          ∙ ap (λ (x : ℕ). mean_of (get_or r j 0) x) (ap (λ (l : List ℕ). get_or l j 0) next ∙ get_or-drop 1 r j 0 ∙ ap (λ (i : ℕ). get_or r i 0) (omega arith))
          ∙ next_inner n r j (omega arith);
    } in
    filled_whole (filled_more filled (omega arith) (next_last n r (n - 1) (omega arith))) (omega arith)

module _ (k : HalfPel) (n : ℕ) (r : List ℕ) where
  by_edges : (i : ℕ) → near_edge k i n ≡ true → next_at n r i ≡ around (half_sample k i n) r i
  by_edges i e =
      ⊎_elim
      (λ (lt : i + 1 < n). sym (next_inner n r i lt) ∙ sample_mean k i n _ _ _ _ _ _ lt e)
      (λ (le : n ≤ i + 1). sym (next_last n r i le) ∙ sample_copy k i n _ _ _ _ _ _ le)
      (below_or (i + 1) n)

  at_front : (i : ℕ) → i < lead_of k → near_edge k i n ≡ true
  at_front i lt = rw (lt-ltb i (lead_of k) lt)

  at_tail : (i : ℕ) → n ≤ i + tail_of k → near_edge k i n ≡ true
  at_tail i le = rw (le-leb n (i + tail_of k) le) (or_yes (ltb i (lead_of k)))

  between : (i : ℕ) → lead_of k ≤ i → i + tail_of k < n → near_edge k i n ≡ false
  between i le lt = rw (le-ltb i (lead_of k) le, lt-leb n (i + tail_of k) lt)

  -- a row too short for the kernel
  pub short_row : n ≤ lead_of k + tail_of k → next_means n r ≡ half_horizontal k n r
  unfolding next_means half_horizontal
  short_row few =
      tab_ext (next_at n r) (λ i. around (half_sample k i n) r i) n
      (λ i lt. by_edges i (⊎_elim (λ (l : i < lead_of k). at_front i l) (λ (g : lead_of k ≤ i). at_tail i (omega arith)) (below_or i (lead_of k))))

-- the taps of the place lead_of k + j, as parts of the row give them
taps : (k : HalfPel) (r : List ℕ) (j : ℕ) → half_pel k (get_or r j 0) (get_or r (lead_of k - 1 + j) 0) (get_or r (lead_of k + j) 0) (get_or r (lead_of k + 1 + j) 0) (get_or r (lead_of k + 2 + j) 0) (get_or r (lead_of k + 3 + j) 0) ≡ around (half_pel k) r (lead_of k + j)
unfolding half_pel
taps CatmullRom r j =
    let e1 : 1 - 1 + j ≡ 1 + j - 1 = omega arith in
    let e3 : 1 + 1 + j ≡ 1 + j + 1 = omega arith in
    let e4 : 1 + 2 + j ≡ 1 + j + 2 = omega arith in
    cc
taps Wiener r j =
    let e0 : j ≡ 2 + j - 2 = omega arith in
    let e1 : 2 - 1 + j ≡ 2 + j - 1 = omega arith in
    let e3 : 2 + 1 + j ≡ 2 + j + 1 = omega arith in
    let e4 : 2 + 2 + j ≡ 2 + j + 2 = omega arith in
    let e5 : 2 + 3 + j ≡ 2 + j + 3 = omega arith in
    cc

-- parts of the row r, from the taps of place a on
pub record Parts (a : ℕ) (r m1 c0 p1 p2 p3 : List ℕ) : Type 0 where
  pub at1 : m1 ≡ drop (a - 1) r
  pub at2 : c0 ≡ drop a r
  pub at3 : p1 ≡ drop (a + 1) r
  pub at4 : p2 ≡ drop (a + 2) r
  pub at5 : p3 ≡ drop (a + 3) r

module _ (k : HalfPel) (n : ℕ) (r : List ℕ) {m1 c0 p1 p2 p3 : List ℕ} (parts : Parts (lead_of k) r m1 c0 p1 p2 p3) (many : lead_of k + tail_of k < n) where
  part_taps : (j : ℕ) → six_at (half_pel k) r m1 c0 p1 p2 p3 j ≡ around (half_pel k) r (lead_of k + j)
  part_taps j =
      rw (parts.at1, parts.at2, parts.at3, parts.at4, parts.at5)
      (rw (get_or-drop (lead_of k - 1) r j 0, get_or-drop (lead_of k) r j 0, get_or-drop (lead_of k + 1) r j 0, get_or-drop (lead_of k + 2) r j 0, get_or-drop (lead_of k + 3) r j 0) (taps k r j))

  -- the edges' row with the kernel's places written over
  pub long_row : (o s : List ℕ) → o ≡ next_means n r → s ≡ sixes (half_pel k) (length (take (n - tail_of k - lead_of k) (drop (lead_of k) o))) r m1 c0 p1 p2 p3 → take (lead_of k) o ++ (s ++ drop (n - tail_of k - lead_of k) (drop (lead_of k) o)) ≡ half_horizontal k n r
  unfolding half_horizontal next_means sixes
  long_row o s edges kernel =
      let f : ℕ → ℕ = λ i. around (half_sample k i n) r i in
      let inner : ℕ → ℕ = six_at (half_pel k) r m1 c0 p1 p2 p3 in
      let a = lead_of k in
      let e = n - tail_of k in
      let ol : length o ≡ n = ap length edges ∙ tab_length (next_at n r) n in
      let is : s ≡ tab inner (e - a) = kernel ∙ ap (tab inner) (part_length o a e (omega arith) (omega arith)) in
      let edge : (i : ℕ) → i < n → near_edge k i n ≡ true → get_or o i 0 ≡ f i = λ i lt t. ap (λ (l : List ℕ). get_or l i 0) edges ∙ tab_at (next_at n r) n i lt ∙ by_edges k n r i t in
      back_tab o s a e (omega arith) (omega arith) (ap length is ∙ tab_length inner (e - a)) f n ol
      (λ i lt. edge i (omega arith) (at_front k n r i lt))
      (λ j lt. ap (λ (l : List ℕ). get_or l j 0) is ∙ tab_at inner (e - a) j lt ∙ part_taps j ∙ sample_kernel k (a + j) n _ _ _ _ _ _ (omega (arith, tail_some k)) (between k n r (a + j) (omega arith) (omega arith)))
      (λ i le lt. edge i lt (at_tail k n r i (omega arith)))
