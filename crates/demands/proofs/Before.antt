-- Document 01: "reading before it gives 0". No rule's value depends on what lies before the canvas, or before a row. Assumes nothing.
-- Four rules read behind a place: a row of a later level before it is halved, that row halved, and half places along and down the rows; all others only add.
-- In the laws here z is whatever lies before, zeros or not. Where it holds two rows (two bytes, along a row), no difference is cut off at 0, so that the left
-- side reads at document 01's places; the right side is the definition.
use mathlib.Core.Path.{◌≡◌, refl, sym, ap, ◌∙◌}
use mathlib.Core.Bool.{Bool, true, false, cond}
use mathlib.Core.List.{List, ◌++◌}
use Prim.Native.Nat.{ℕ, zero, suc, ◌+◌, ◌*◌, ◌-◌, ◌/◌, ◌≤◌}
use native.Mathlib.Nat.{add-mul}
use native.Mathlib.Omega.{arith}
use lib.ListN.{length, get_or}
use lib.Seq.{get_or-append-add}
use Rattle.filters.specs.declared.halving.ReduceFilter.{ReduceFilter}
use Rattle.filters.specs.declared.half_pel.HalfPel.{HalfPel}
use Rattle.filters.specs.declared.half_pel.HalfPel.TheVariants.{CatmullRom, Wiener}
use Rattle.filters.specs.Row.{Six, tab, mean_of, means_of, six_at, sixes, around}
use Rattle.filters.specs.Halve.{is_edge, weigh, rest_of, headed, horizontal_at}
use Rattle.filters.specs.Refine.{half_pel, half_sample, half_horizontal, half_vertical}
use Rattle.filters.proofs.Tables.{tab_ext}
use Rattle.layouts.proofs.Loops.{row_in}
use Rattle.builder.specs.declared.refining.Interp.{Interp}
use Rattle.builder.specs.Canvas.{fetch}
use Rattle.builder.specs.Halving.{whole_line, rest_line, inner_line, vertical_line}
use Rattle.builder.specs.Refining.{vertical_run}
use Rattle.builder.proofs.Runs.{fetch_right}
use Rattle.builder.proofs.Lines.{past_first, sixes_same}

-- ---- halving, down the rows
-- a place `back` bytes before at is a true difference, and lies at or past base
pub record Above (base at back : ℕ) : Type 0 where
  pub exact : at - back + back ≡ at
  pub from : base ≤ at - back

two_up : (f : ReduceFilter) (h y sp : ℕ) → is_edge f y h ≡ false → 2 * sp ≤ y * (2 * sp)
two_up f h y sp e = omega (arith, row_in 0 y (2 * sp) (past_first f y h e))

-- in a row that is no edge, column x: what is two source rows up or nearer lies in the source (two rows, one, or half a pitch)
pub above : (f : ReduceFilter) (h base sp y x back : ℕ) → is_edge f y h ≡ false → back ≤ 2 * sp → Above base (base + y * (2 * sp) + x) back
above f h base sp y x back e near =
    let two = two_up f h y sp e in
    record { exact = omega (arith, two); from = omega (arith, two) }

shifted : (z s : List ℕ) (a b n : ℕ) → a ≡ length z + b → fetch (z ++ s) a n ≡ fetch s b n
shifted z s a b n e =
    let back : b ≡ a - length z = omega arith in
    sym (ap (λ (k : ℕ). fetch s k n) back ∙ fetch_right z s a n (omega arith))

module _ (z s : List ℕ) (at' at sp : ℕ) (e : at' ≡ length z + at) (two : 2 * sp ≤ at) where
  whole_before : (f : ReduceFilter) (n : ℕ) → whole_line f n (z ++ s) at' sp ≡ whole_line f n s at sp
  unfolding whole_line
  whole_before f n =
      sixes_same (weigh f) n
      (shifted z s (at' - 2 * sp) (at - 2 * sp) n (omega arith))
      (shifted z s (at' - sp) (at - sp) n (omega arith))
      (shifted z s at' at n e)
      (shifted z s (at' + sp) (at + sp) n (omega arith))
      (shifted z s (at' + 2 * sp) (at + 2 * sp) n (omega arith))
      (shifted z s (at' + 3 * sp) (at + 3 * sp) n (omega arith))

  rest_before : (n k : ℕ) → rest_line n (z ++ s) (at' + k) sp ≡ rest_line n s (at + k) sp
  unfolding rest_line
  rest_before n k =
      let half = sp / 2 in
      sixes_same rest_of n
      (shifted z s (at' + k - half) (at + k - half) n (omega arith))
      (shifted z s (at' + k - sp) (at + k - sp) n (omega arith))
      (shifted z s (at' + k) (at + k) n (omega arith))
      (shifted z s (at' + k + sp) (at + k + sp) n (omega arith))
      (shifted z s (at' + k + half) (at + k + half) n (omega arith))
      (shifted z s (at' + k + 3 * half) (at + k + 3 * half) n (omega arith))

  inner_before : (f : ReduceFilter) (whole n : ℕ) → inner_line f whole n (z ++ s) at' sp ≡ inner_line f whole n s at sp
  unfolding inner_line
  inner_before f whole n =
      ap (λ (x : List ℕ). x ++ rest_line (n - whole) (z ++ s) (at' + whole) sp) (whole_before f whole)
      ∙ ap (λ (x : List ℕ). whole_line f whole s at sp ++ x) (rest_before (n - whole) whole)

-- whatever lies before the source, that starts with the canvas or later
pub halving_before : (z s : List ℕ) (f : ReduceFilter) (whole n h base sp y : ℕ) → vertical_line f whole n h (z ++ s) (length z + base) sp y ≡ vertical_line f whole n h s base sp y
unfolding vertical_line
halving_before z s f whole n h base sp y = go (is_edge f y h) refl
  where
    here : length z + base + y * (2 * sp) ≡ length z + (base + y * (2 * sp))
    here = omega arith

    go : (t : Bool) → is_edge f y h ≡ t → cond t (means_of n (fetch (z ++ s) (length z + base + y * (2 * sp)) n) (fetch (z ++ s) (length z + base + y * (2 * sp) + sp) n)) (inner_line f whole n (z ++ s) (length z + base + y * (2 * sp)) sp) ≡ cond t (means_of n (fetch s (base + y * (2 * sp)) n) (fetch s (base + y * (2 * sp) + sp) n)) (inner_line f whole n s (base + y * (2 * sp)) sp)
    go true e =
        let at = base + y * (2 * sp) in
        let at' = length z + base + y * (2 * sp) in
        ap (λ (x : List ℕ). means_of n x (fetch (z ++ s) (at' + sp) n)) (shifted z s at' at n here)
        ∙ ap (means_of n (fetch s at n)) (shifted z s (at' + sp) (at + sp) n (omega arith))
    go false e = inner_before z s (length z + base + y * (2 * sp)) (base + y * (2 * sp)) sp here (omega (arith, two_up f h y sp e)) f whole n

-- ---- along a row
after_at : (z r : List ℕ) (a b : ℕ) → a ≡ length z + b → get_or (z ++ r) a 0 ≡ get_or r b 0
after_at z r a b e = ap (λ (k : ℕ). get_or (z ++ r) k 0) e ∙ get_or-append-add z r b 0

around_before : (z r : List ℕ) (k : Six) (i : ℕ) → 2 ≤ i → around k (z ++ r) (length z + i) ≡ around k r i
around_before z r k i le =
    let a = length z + i in
    let e2 = after_at z r (a - 2) (i - 2) (omega arith) in
    let e1 = after_at z r (a - 1) (i - 1) (omega arith) in
    let e0 = after_at z r a i refl in
    let d1 = after_at z r (a + 1) (i + 1) (omega arith) in
    let d2 = after_at z r (a + 2) (i + 2) (omega arith) in
    let d3 = after_at z r (a + 3) (i + 3) (omega arith) in
    cc

-- a row halved: whatever lies before it
pub pairs_before : (z v : List ℕ) (f : ReduceFilter) (w x : ℕ) → cond (is_edge f x w) (mean_of (get_or v (2 * x) 0) (get_or v (2 * x + 1) 0)) (around (weigh f) (z ++ headed v) (length z + 2 * x)) ≡ horizontal_at f w v x
unfolding horizontal_at
pairs_before z v f w x = go (is_edge f x w) refl
  where
    go : (t : Bool) → is_edge f x w ≡ t → cond t (mean_of (get_or v (2 * x) 0) (get_or v (2 * x + 1) 0)) (around (weigh f) (z ++ headed v) (length z + 2 * x)) ≡ cond t (mean_of (get_or v (2 * x) 0) (get_or v (2 * x + 1) 0)) (around (weigh f) (headed v) (2 * x))
    go true e = refl
    go false e = around_before z (headed v) (weigh f) (2 * x) (omega (arith, past_first f x w e))

-- ---- half places
-- place i: what stands for the places i - 2 and i - 1 counts only where they are there
pub sample_before : (k : HalfPel) (i n : ℕ) {m2 m1 x2 x1 : ℕ} (c0 p1 p2 p3 : ℕ) → (2 ≤ i → m2 ≡ x2) → (1 ≤ i → m1 ≡ x1) → half_sample k i n m2 m1 c0 p1 p2 p3 ≡ half_sample k i n x2 x1 c0 p1 p2 p3
unfolding half_pel
sample_before CatmullRom zero n c0 p1 p2 p3 two one = refl
sample_before CatmullRom (suc i) n c0 p1 p2 p3 two one = rw (one (omega arith))
sample_before Wiener zero n c0 p1 p2 p3 two one = refl
sample_before Wiener (suc zero) n c0 p1 p2 p3 two one = refl
sample_before Wiener (suc (suc i)) n c0 p1 p2 p3 two one = rw (two (omega arith), one (omega arith))

-- along a row: whatever lies before it
pub across_before : (z r : List ℕ) (k : HalfPel) (n : ℕ) → tab (λ i. around (half_sample k i n) (z ++ r) (length z + i)) n ≡ half_horizontal k n r
unfolding half_horizontal
across_before z r k n =
    tab_ext (λ i. around (half_sample k i n) (z ++ r) (length z + i)) (λ i. around (half_sample k i n) r i) n
    (λ i lt.
    let a = length z + i in
    let e0 = after_at z r a i refl in
    let d1 = after_at z r (a + 1) (i + 1) (omega arith) in
    let d2 = after_at z r (a + 2) (i + 2) (omega arith) in
    let d3 = after_at z r (a + 3) (i + 3) (omega arith) in
    rw (e0, d1, d2, d3)
    (sample_before k i n (get_or r i 0) (get_or r (i + 1) 0) (get_or r (i + 2) 0) (get_or r (i + 3) 0)
    (λ two. after_at z r (a - 2) (i - 2) (omega arith))
    (λ one. after_at z r (a - 1) (i - 1) (omega arith))))

-- down the rows: whatever stands for rows that would lie before the plane
pub rows_before : (k : HalfPel) (y h n : ℕ) {m2 m1 x2 x1 : List ℕ} (c0 p1 p2 p3 : List ℕ) → (2 ≤ y → m2 ≡ x2) → (1 ≤ y → m1 ≡ x1) → half_vertical k y h n m2 m1 c0 p1 p2 p3 ≡ half_vertical k y h n x2 x1 c0 p1 p2 p3
unfolding half_vertical sixes
rows_before k y h n {m2} {m1} {x2} {x1} c0 p1 p2 p3 two one =
    tab_ext (six_at (half_sample k y h) m2 m1 c0 p1 p2 p3) (six_at (half_sample k y h) x2 x1 c0 p1 p2 p3) n
    (λ j lt.
    sample_before k y h (get_or c0 j 0) (get_or p1 j 0) (get_or p2 j 0) (get_or p3 j 0)
    (λ le. ap (λ (l : List ℕ). get_or l j 0) (two le))
    (λ le. ap (λ (l : List ℕ). get_or l j 0) (one le)))

-- the rows p apart around the one at `at`
abbrev pub rows_around : HalfPel → Interp → ℕ → List ℕ → ℕ → List ℕ
rows_around k i y c at =
    let p = i.pitch in
    let row : ℕ → List ℕ = λ a. fetch c a i.width in
    half_vertical k y i.height i.width (row (at - 2 * p)) (row (at - p)) (row at) (row (at + p)) (row (at + 2 * p)) (row (at + 3 * p))

-- whatever lies before the canvas
pub down_before : (z c : List ℕ) (k : HalfPel) (i : Interp) (s y : ℕ) → rows_around k i y (z ++ c) (length z + s + y * i.pitch) ≡ vertical_run k i s y c
unfolding vertical_run
down_before z c k i s y =
    let p = i.pitch in
    let w = i.width in
    let a = length z + s + y * p in
    let e0 = shifted z c a (s + y * p) w (omega arith) in
    let d1 = shifted z c (a + p) (s + (y + 1) * p) w (omega (arith, add-mul y 1 p)) in
    let d2 = shifted z c (a + 2 * p) (s + (y + 2) * p) w (omega (arith, add-mul y 2 p)) in
    let d3 = shifted z c (a + 3 * p) (s + (y + 3) * p) w (omega (arith, add-mul y 3 p)) in
    rw (e0, d1, d2, d3)
    (rows_before k y i.height w (fetch c (s + y * p) w) (fetch c (s + (y + 1) * p) w) (fetch c (s + (y + 2) * p) w) (fetch c (s + (y + 3) * p) w)
    (λ le. shifted z c (a - 2 * p) (s + (y - 2) * p) w (rows_up y 2 p le))
    (λ le. shifted z c (a - p) (s + (y - 1) * p) w (omega (arith, rows_up y 1 p le))))
  where
    rows_up : (y j p : ℕ) → j ≤ y → length z + s + y * p - j * p ≡ length z + (s + (y - j) * p)
    rows_up y j p le =
        let back : y - j + j ≡ y = omega arith in
        omega (arith, add-mul (y - j) j p, ap (λ (k : ℕ). k * p) back)
