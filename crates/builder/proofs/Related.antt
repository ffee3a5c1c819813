-- Rows byte by byte in a relation of bytes: what a rule has to do with bytes that are in it, and that then every row that a build computes is in it where the rows that it reads are.
-- Rows are related at every place, past their ends too, where both read 0, so that no law has an index to bound. Last two relations: whatever the bytes are, and the same bytes. Assumes nothing.
use mathlib.Core.Path.{◌≡◌, refl, sym, ap, ◌∙◌}
use mathlib.Core.Bool.{Bool, true, false, cond}
use mathlib.Core.List.{List, ◌++◌}
use mathlib.Core.Logic.{⊎_elim}
use Prim.Native.Nat.{ℕ, zero, suc, ◌+◌, ◌*◌, ◌-◌, ◌≤◌, ◌<◌}
use native.Mathlib.Omega.{arith}
use lib.Dec.{leb}
use lib.ListN.{length, get_or, set, drop, replicate, length-drop, length-replicate, get_or-replicate, get_or-append, get_or-eq_default}
use lib.Seq.{get_or-drop, get_or-append-add, get_or-set_same, get_or-set_other, set_out, ext_get_or}
use Rattle.filters.specs.declared.halving.ReduceFilter.{ReduceFilter}
use Rattle.filters.specs.declared.halving.ReduceFilter.TheVariants.{Average, Bilinear, Quadratic, Cubic}
use Rattle.filters.specs.declared.half_pel.HalfPel.{HalfPel}
use Rattle.filters.specs.declared.half_pel.Upscale.{Upscale}
use Rattle.filters.specs.declared.half_pel.Upscale.TheVariants.{Means, Kernel}
use Rattle.filters.specs.Row.{tab, mean_of, means_of, sixes}
use Rattle.filters.specs.Halve.{first_row, last_row, is_edge, weigh, rest_of, headed, horizontal_at, horizontal_row}
use Rattle.filters.specs.Refine.{near_edge, half_pel, half_sample, half_horizontal, half_vertical}
use Rattle.filters.proofs.Tests.{below_or}
use Rattle.filters.proofs.Kernels.{rest_cubic}
use Rattle.filters.proofs.Tables.{tab_length, tab_at}
use Rattle.filters.proofs.Lengths.{horizontal_length}
use Rattle.builder.specs.Canvas.{fetch}
use Rattle.builder.specs.Halving.{whole_line, rest_line, inner_line, vertical_line, fused_line}
use Rattle.builder.proofs.Runs.{fetch_length, fetch_at}
use Rattle.builder.proofs.Lines.{InnerReads, LineReads, whole_length}

-- ---- bytes
-- each rule but a kernel's; of a filter the rows that it reads count alone
pub record Bytes (E : ℕ → ℕ → Type 0) : Type 0 where
  pub zeros : E 0 0
  pub mean : (a b x y : ℕ) → E a x → E b y → E (mean_of a b) (mean_of x y)
  pub weighs : (f : ReduceFilter) (m2 m1 c0 p1 p2 p3 x2 x1 x0 y1 y2 y3 : ℕ) → (2 ≤ first_row f → E m2 x2) → E m1 x1 → E c0 x0 → E p1 y1 → (2 ≤ last_row f → E p2 y2) → (3 ≤ last_row f → E p3 y3) → E (weigh f m2 m1 c0 p1 p2 p3) (weigh f x2 x1 x0 y1 y2 y3)

-- and the kernel k
pub record Kernels (E : ℕ → ℕ → Type 0) (k : HalfPel) : Type 0 where
  pub halves : (m2 m1 c0 p1 p2 p3 x2 x1 x0 y1 y2 y3 : ℕ) → E m2 x2 → E m1 x1 → E c0 x0 → E p1 y1 → E p2 y2 → E p3 y3 → E (half_pel k m2 m1 c0 p1 p2 p3) (half_pel k x2 x1 x0 y1 y2 y3)

-- what refining by u takes of them
abbrev pub Ups : (ℕ → ℕ → Type 0) → Upscale → Type 0
Ups E Means = Unit
Ups E (Kernel k) = Kernels E k

module _ (E : ℕ → ℕ → Type 0) where
  -- the same bytes, otherwise written
  moved : {a b x y : ℕ} → x ≡ a → y ≡ b → E a b → E x y
  moved p q e = rw (p, q) e

  by_test : (t : Bool) (a b x y : ℕ) → E a x → E b y → E (cond t a b) (cond t x y)
  by_test true a b x y p q = p
  by_test false a b x y p q = q

-- ---- rows
pub record Rel (E : ℕ → ℕ → Type 0) (a b : List ℕ) : Type 0 where
  pub at : (j : ℕ) → E (get_or a j 0) (get_or b j 0)

module _ {E : ℕ → ℕ → Type 0} where
  rel_cond : (t : Bool) {a b x y : List ℕ} → (t ≡ true → Rel E a x) → (t ≡ false → Rel E b y) → Rel E (cond t a b) (cond t x y)
  rel_cond true p q = p refl
  rel_cond false p q = q refl

  rel_drop : (k : ℕ) (a b : List ℕ) → Rel E a b → Rel E (drop k a) (drop k b)
  rel_drop k a b r = record { at = λ j. moved E (get_or-drop k a j 0) (get_or-drop k b j 0) (r.at (k + j)) }

  rel_append : (a b x y : List ℕ) → length a ≡ length x → Rel E a x → Rel E b y → Rel E (a ++ b) (x ++ y)
  rel_append a b x y e r s =
      record {
        at = λ j.
            ⊎_elim
            (λ (lt : j < length a). moved E (get_or-append a b 0 j lt) (get_or-append x y 0 j (omega arith)) (r.at j))
            (λ (le : length a ≤ j).
            let i = j - length a in
            let p : j ≡ length a + i = omega arith in
            let q : j ≡ length x + i = omega arith in
            moved E (ap (λ (k : ℕ). get_or (a ++ b) k 0) p ∙ get_or-append-add a b i 0) (ap (λ (k : ℕ). get_or (x ++ y) k 0) q ∙ get_or-append-add x y i 0) (s.at i))
            (below_or j (length a));
      }

module _ {E : ℕ → ℕ → Type 0} (B : Bytes E) where
  -- rows of n bytes at most
  rel_of : (a b : List ℕ) (n : ℕ) → length a ≤ n → length b ≤ n → ((i : ℕ) → i < n → E (get_or a i 0) (get_or b i 0)) → Rel E a b
  rel_of a b n la lb each =
      record {
        at = λ j. ⊎_elim (λ (lt : j < n). each j lt) (λ (le : n ≤ j). moved E (get_or-eq_default a 0 (omega arith)) (get_or-eq_default b 0 (omega arith)) B.zeros) (below_or j n);
      }

  rel_tab : (f g : ℕ → ℕ) (n : ℕ) → ((i : ℕ) → i < n → E (f i) (g i)) → Rel E (tab f n) (tab g n)
  rel_tab f g n each = rel_of (tab f n) (tab g n) n (omega (arith, tab_length f n)) (omega (arith, tab_length g n)) (λ i lt. moved E (tab_at f n i lt) (tab_at g n i lt) (each i lt))

  rel_zeros : (n : ℕ) → Rel E (replicate n 0) (replicate n 0)
  rel_zeros n =
      let long : length (replicate {A = ℕ} n 0) ≡ n = length-replicate n 0 in
      rel_of _ _ n (omega arith) (omega arith) (λ i lt. moved E (get_or-replicate n i 0 0 lt) (get_or-replicate n i 0 0 lt) B.zeros)

  pub rel_fetch : (a b : List ℕ) (at n : ℕ) → Rel E a b → Rel E (fetch a at n) (fetch b at n)
  rel_fetch a b at n r = rel_of (fetch a at n) (fetch b at n) n (omega (arith, fetch_length a at n)) (omega (arith, fetch_length b at n)) (λ i lt. moved E (fetch_at a at n i lt) (fetch_at b at n i lt) (r.at (at + i)))

  pub rel_means : (n : ℕ) (a b x y : List ℕ) → Rel E a x → Rel E b y → Rel E (means_of n a b) (means_of n x y)
  unfolding means_of
  rel_means n a b x y r s = rel_tab _ _ n (λ i lt. B.mean (get_or a i 0) (get_or b i 0) (get_or x i 0) (get_or y i 0) (r.at i) (s.at i))

  -- ---- a row halved
  abbrev head : List ℕ → ℕ
  head l = mean_of (get_or l 0 0) (get_or l 1 0)

  rel_headed : (v u : List ℕ) → length v ≡ length u → Rel E v u → Rel E (headed v) (headed u)
  unfolding headed
  rel_headed v u e r = record { at = go }
    where
      both : E (head v) (head u)
      both = B.mean (get_or v 0 0) (get_or v 1 0) (get_or u 0 0) (get_or u 1 0) (r.at 0) (r.at 1)

      go : (j : ℕ) → E (get_or (set v 0 (head v)) j 0) (get_or (set u 0 (head u)) j 0)
      go zero =
          ⊎_elim
          (λ (some : 0 < length v). moved E (get_or-set_same v 0 (head v) 0 some) (get_or-set_same u 0 (head u) 0 (omega arith)) both)
          (λ (none : length v ≤ 0). moved E (ap (λ (l : List ℕ). get_or l 0 0) (set_out v 0 (head v) none)) (ap (λ (l : List ℕ). get_or l 0 0) (set_out u 0 (head u) (omega arith))) (r.at 0))
          (below_or 0 (length v))
      go (suc j) = moved E (get_or-set_other v 0 (suc j) (head v) 0 (λ z. omega arith)) (get_or-set_other u 0 (suc j) (head u) 0 (λ z. omega arith)) (r.at (suc j))

  pub rel_horizontal : (f : ReduceFilter) (w : ℕ) (v u : List ℕ) → length v ≡ length u → Rel E v u → Rel E (horizontal_row f w v) (horizontal_row f w u)
  unfolding horizontal_row horizontal_at
  rel_horizontal f w v u e r =
      let h = rel_headed v u e r in
      rel_tab _ _ w
      (λ x lt.
      by_test E (is_edge f x w) _ _ _ _
      (B.mean (get_or v (2 * x) 0) (get_or v (2 * x + 1) 0) (get_or u (2 * x) 0) (get_or u (2 * x + 1) 0) (r.at (2 * x)) (r.at (2 * x + 1)))
      (B.weighs f _ _ _ _ _ _ _ _ _ _ _ _ (λ z. h.at (2 * x - 2)) (h.at (2 * x - 1)) (h.at (2 * x)) (h.at (2 * x + 1)) (λ z. h.at (2 * x + 2)) (λ z. h.at (2 * x + 3))))

  -- the generic cubic's other columns are weighed as its whole eights are
  rests : (m2 m1 c0 p1 p2 p3 x2 x1 x0 y1 y2 y3 : ℕ) → E m2 x2 → E m1 x1 → E c0 x0 → E p1 y1 → E p2 y2 → E p3 y3 → E (rest_of m2 m1 c0 p1 p2 p3) (rest_of x2 x1 x0 y1 y2 y3)
  rests m2 m1 c0 p1 p2 p3 x2 x1 x0 y1 y2 y3 a b c d e f =
      moved E (sym (rest_cubic m2 m1 c0 p1 p2 p3)) (sym (rest_cubic x2 x1 x0 y1 y2 y3)) (B.weighs Cubic m2 m1 c0 p1 p2 p3 x2 x1 x0 y1 y2 y3 (λ z. a) b c d (λ z. e) (λ z. f))

  -- ---- a row before it is halved, of s and of u, whose rows are in the relation where they are read
  module _ (s u : List ℕ) {Ok : ℕ → ℕ → Type 0} (ok : (at n : ℕ) → Ok at n → Rel E (fetch s at n) (fetch u at n)) where
    rel_inner : (f : ReduceFilter) (whole n at sp : ℕ) → InnerReads Ok f whole n at sp → Rel E (inner_line f whole n s at sp) (inner_line f whole n u at sp)
    unfolding inner_line whole_line rest_line sixes
    rel_inner f whole n at sp r =
        rel_append (whole_line f whole s at sp) _ (whole_line f whole u at sp) _ (whole_length f whole s at sp ∙ sym (whole_length f whole u at sp))
        (rel_tab _ _ whole (λ i lt. B.weighs f _ _ _ _ _ _ _ _ _ _ _ _ (λ z. (ok _ _ (r.m2 z)).at i) ((ok _ _ r.m1).at i) ((ok _ _ r.c0).at i) ((ok _ _ r.p1).at i) (λ z. (ok _ _ (r.p2 z)).at i) (λ z. (ok _ _ (r.p3 z)).at i)))
        (rel_tab _ _ (n - whole)
        (λ i lt.
        let some : whole < n = omega arith in
        rests _ _ _ _ _ _ _ _ _ _ _ _ ((ok _ _ (r.ra some)).at i) ((ok _ _ (r.r1 some)).at i) ((ok _ _ (r.r2 some)).at i) ((ok _ _ (r.r3 some)).at i) ((ok _ _ (r.rb some)).at i) ((ok _ _ (r.rc some)).at i)))

    pub rel_line : (f : ReduceFilter) (whole n h base sp y : ℕ) → LineReads Ok f whole n h base sp y → Rel E (vertical_line f whole n h s base sp y) (vertical_line f whole n h u base sp y)
    unfolding vertical_line
    rel_line f whole n h base sp y r =
        rel_cond (is_edge f y h) (λ e. rel_means n _ _ _ _ (ok _ _ (r.first e)) (ok _ _ (r.second e))) (λ e. rel_inner f whole n (base + y * (2 * sp)) sp (r.inner e))

  pub rel_fused : (p w : ℕ) (v u : List ℕ) → length v ≡ length u → Rel E v u → Rel E (fused_line p w v) (fused_line p w u)
  rel_fused p w v u e r =
      let front = horizontal_length Cubic w in
      let rest : length (drop w v) ≡ length (drop w u) = length-drop w v ∙ ap (λ (n : ℕ). n - w) e ∙ sym (length-drop w u) in
      rel_append _ _ _ _ (front v ∙ sym (front u)) (rel_horizontal Cubic w v u e r) (rel_append _ _ _ _ rest (rel_drop w v u r) (rel_zeros (p - 2 * w)))

  -- ---- half places
  module _ (k : HalfPel) (K : Kernels E k) where
    at_place : (i n m2 m1 c0 p1 p2 p3 x2 x1 x0 y1 y2 y3 : ℕ) → E m2 x2 → E m1 x1 → E c0 x0 → E p1 y1 → E p2 y2 → E p3 y3 → E (half_sample k i n m2 m1 c0 p1 p2 p3) (half_sample k i n x2 x1 x0 y1 y2 y3)
    at_place i n m2 m1 c0 p1 p2 p3 x2 x1 x0 y1 y2 y3 a b c d e f =
        by_test E (leb n (i + 1)) _ _ _ _ c (by_test E (near_edge k i n) _ _ _ _ (B.mean c0 p1 x0 y1 c d) (K.halves m2 m1 c0 p1 p2 p3 x2 x1 x0 y1 y2 y3 a b c d e f))

    pub rel_across : (n : ℕ) (r s : List ℕ) → Rel E r s → Rel E (half_horizontal k n r) (half_horizontal k n s)
    unfolding half_horizontal
    rel_across n r s t = rel_tab _ _ n (λ i lt. at_place i n _ _ _ _ _ _ _ _ _ _ _ _ (t.at (i - 2)) (t.at (i - 1)) (t.at i) (t.at (i + 1)) (t.at (i + 2)) (t.at (i + 3)))

    pub rel_below : (y h n : ℕ) (m2 m1 c0 p1 p2 p3 x2 x1 x0 y1 y2 y3 : List ℕ) → Rel E m2 x2 → Rel E m1 x1 → Rel E c0 x0 → Rel E p1 y1 → Rel E p2 y2 → Rel E p3 y3 → Rel E (half_vertical k y h n m2 m1 c0 p1 p2 p3) (half_vertical k y h n x2 x1 x0 y1 y2 y3)
    unfolding half_vertical sixes
    rel_below y h n m2 m1 c0 p1 p2 p3 x2 x1 x0 y1 y2 y3 a b c d e f = rel_tab _ _ n (λ i lt. at_place y h _ _ _ _ _ _ _ _ _ _ _ _ (a.at i) (b.at i) (c.at i) (d.at i) (e.at i) (f.at i))

-- ---- whatever the bytes are
abbrev pub Any : ℕ → ℕ → Type 0
Any a b = Unit

pub any_bytes : Bytes Any
any_bytes = record { zeros = tt; mean = λ a b x y p q. tt; weighs = λ f m2 m1 c0 p1 p2 p3 x2 x1 x0 y1 y2 y3 a b c d e g. tt }

pub any_kernel : (k : HalfPel) → Kernels Any k
any_kernel k = record { halves = λ m2 m1 c0 p1 p2 p3 x2 x1 x0 y1 y2 y3 a b c d e f. tt }

pub any_ups : (u : Upscale) → Ups Any u
any_ups Means = tt
any_ups (Kernel k) = any_kernel k

pub any_row : {a b : List ℕ} → Rel Any a b
any_row = record { at = λ j. tt }

-- ---- the same bytes
abbrev pub Same : ℕ → ℕ → Type 0
Same a b = a ≡ b

pub same_bytes : Bytes Same
same_bytes = record { zeros = refl; mean = λ a b x y p q. rw (p, q); weighs = weighs }
  where
    weighs : (f : ReduceFilter) (m2 m1 c0 p1 p2 p3 x2 x1 x0 y1 y2 y3 : ℕ) → (2 ≤ first_row f → m2 ≡ x2) → m1 ≡ x1 → c0 ≡ x0 → p1 ≡ y1 → (2 ≤ last_row f → p2 ≡ y2) → (3 ≤ last_row f → p3 ≡ y3) → weigh f m2 m1 c0 p1 p2 p3 ≡ weigh f x2 x1 x0 y1 y2 y3
    weighs Average m2 m1 c0 p1 p2 p3 x2 x1 x0 y1 y2 y3 a b c d e f = rw (b, c, d)
    weighs Bilinear m2 m1 c0 p1 p2 p3 x2 x1 x0 y1 y2 y3 a b c d e f = rw (b, c, d, e (omega arith))
    weighs Quadratic m2 m1 c0 p1 p2 p3 x2 x1 x0 y1 y2 y3 a b c d e f = rw (a (omega arith), b, c, d, e (omega arith), f (omega arith))
    weighs Cubic m2 m1 c0 p1 p2 p3 x2 x1 x0 y1 y2 y3 a b c d e f = rw (a (omega arith), b, c, d, e (omega arith), f (omega arith))

pub same_kernel : (k : HalfPel) → Kernels Same k
same_kernel k = record { halves = λ m2 m1 c0 p1 p2 p3 x2 x1 x0 y1 y2 y3 a b c d e f. rw (a, b, c, d, e, f) }

pub rel_same : {a b : List ℕ} → a ≡ b → Rel Same a b
rel_same {a} {b} e = record { at = λ j. ap (λ (l : List ℕ). get_or l j 0) e }

pub same_row : (a b : List ℕ) → length a ≡ length b → Rel Same a b → a ≡ b
same_row a b e r = ext_get_or 0 a b e (λ i lt. r.at i)
