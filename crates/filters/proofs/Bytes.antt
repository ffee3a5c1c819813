-- Bytes in give bytes out: every row made of bytes is of bytes. Assumes nothing.
use mathlib.Core.Bool.{Bool, true, false, cond}
use mathlib.Core.List.{List, [], ◌∷◌}
use mathlib.Core.Logic.{⊎_elim}
use Prim.Native.Nat.{ℕ, zero, suc, ◌+◌, ◌*◌, ◌-◌, ◌≤◌, ◌<◌}
use native.Mathlib.Omega.{arith}
use lib.Dec.{leb}
use lib.IntN.{ℤ, pos, negsuc}
use lib.ListN.{get_or, get_or-eq_default}
use Rattle.filters.specs.declared.halving.ReduceFilter.{ReduceFilter}
use Rattle.filters.specs.declared.halving.ReduceFilter.TheVariants.{Average, Bilinear, Quadratic, Cubic}
use Rattle.filters.specs.declared.half_pel.HalfPel.{HalfPel}
use Rattle.filters.specs.Row.{Six, tab, mean_of, means_of, six_at, sixes, around}
use Rattle.filters.specs.Halve.{is_edge, weigh, rest_of, headed, horizontal_at, horizontal_row}
use Rattle.filters.specs.Refine.{near_edge, kernel, held, half_pel, half_sample, half_horizontal, half_vertical}
use Rattle.filters.proofs.Tests.{below_or}
use Rattle.filters.proofs.Tables.{tab_at, tab_length}

abbrev pub Bytes : List ℕ → Type 0
Bytes l = (i : ℕ) → get_or l i 0 < 256

-- a rule of six taps that gives bytes for bytes
abbrev pub ByteRule : Six → Type 0
ByteRule k = (m2 m1 c0 p1 p2 p3 : ℕ) → m2 < 256 → m1 < 256 → c0 < 256 → p1 < 256 → p2 < 256 → p3 < 256 → k m2 m1 c0 p1 p2 p3 < 256

pub tab_bytes : (f : ℕ → ℕ) (n : ℕ) → ((i : ℕ) → f i < 256) → Bytes (tab f n)
tab_bytes f n low i =
    ⊎_elim
    (λ (lt : i < n). rw (tab_at f n i lt) (low i))
    (λ (le : n ≤ i). rw (get_or-eq_default (tab f n) 0 {n = i} (omega (arith, tab_length f n))) (omega arith))
    (below_or i n)

-- ---- rules
mean_byte : (a b : ℕ) → a < 256 → b < 256 → mean_of a b < 256
mean_byte a b p q = omega arith

cond_byte : (t : Bool) (a b : ℕ) → a < 256 → b < 256 → cond t a b < 256
cond_byte true a b p q = p
cond_byte false a b p q = q

pub weigh_byte : (f : ReduceFilter) → ByteRule (weigh f)
weigh_byte Average m2 m1 c0 p1 p2 p3 h2 h1 g0 g1 g2 g3 = omega arith
weigh_byte Bilinear m2 m1 c0 p1 p2 p3 h2 h1 g0 g1 g2 g3 = omega arith
weigh_byte Quadratic m2 m1 c0 p1 p2 p3 h2 h1 g0 g1 g2 g3 = omega arith
weigh_byte Cubic m2 m1 c0 p1 p2 p3 h2 h1 g0 g1 g2 g3 = omega arith

pub rest_byte : ByteRule rest_of
rest_byte a m1 c0 p1 b c ha h1 g0 g1 hb hc = omega arith

held_byte : (z : ℤ) → held z < 256
held_byte (pos n) = omega arith
held_byte (negsuc n) = omega arith

pub half_byte : (k : HalfPel) → ByteRule (half_pel k)
unfolding half_pel
half_byte k m2 m1 c0 p1 p2 p3 h2 h1 g0 g1 g2 g3 = held_byte (kernel k (pos m2) (pos m1) (pos c0) (pos p1) (pos p2) (pos p3))

sample_byte : (k : HalfPel) (i n : ℕ) → ByteRule (half_sample k i n)
sample_byte k i n m2 m1 c0 p1 p2 p3 h2 h1 g0 g1 g2 g3 = cond_byte (leb n (i + 1)) _ _ g0 (cond_byte (near_edge k i n) _ _ (mean_byte c0 p1 g0 g1) (half_byte k m2 m1 c0 p1 p2 p3 h2 h1 g0 g1 g2 g3))

around_byte : (k : Six) (r : List ℕ) (i : ℕ) → ByteRule k → Bytes r → around k r i < 256
around_byte k r i rule b = rule _ _ _ _ _ _ (b (i - 2)) (b (i - 1)) (b i) (b (i + 1)) (b (i + 2)) (b (i + 3))

-- ---- rows
pub means_bytes : (n : ℕ) (a b : List ℕ) → Bytes a → Bytes b → Bytes (means_of n a b)
unfolding means_of
means_bytes n a b p q = tab_bytes _ n (λ i. mean_byte _ _ (p i) (q i))

pub sixes_bytes : (k : Six) (n : ℕ) (m2 m1 c0 p1 p2 p3 : List ℕ) → ByteRule k → Bytes m2 → Bytes m1 → Bytes c0 → Bytes p1 → Bytes p2 → Bytes p3 → Bytes (sixes k n m2 m1 c0 p1 p2 p3)
unfolding sixes
sixes_bytes k n m2 m1 c0 p1 p2 p3 rule h2 h1 g0 g1 g2 g3 = tab_bytes (six_at k m2 m1 c0 p1 p2 p3) n (λ i. rule _ _ _ _ _ _ (h2 i) (h1 i) (g0 i) (g1 i) (g2 i) (g3 i))

headed_bytes : (v : List ℕ) → Bytes v → Bytes (headed v)
unfolding headed
headed_bytes [] b i = b i
headed_bytes (x ∷ v) b zero = mean_byte x (get_or v 0 0) (b 0) (b 1)
headed_bytes (x ∷ v) b (suc i) = b (suc i)

pub horizontal_bytes : (f : ReduceFilter) (w : ℕ) (v : List ℕ) → Bytes v → Bytes (horizontal_row f w v)
unfolding horizontal_row horizontal_at
horizontal_bytes f w v b = tab_bytes _ w (λ x. cond_byte (is_edge f x w) _ _ (mean_byte _ _ (b (2 * x)) (b (2 * x + 1))) (around_byte (weigh f) (headed v) (2 * x) (weigh_byte f) (headed_bytes v b)))

pub half_horizontal_bytes : (k : HalfPel) (n : ℕ) (r : List ℕ) → Bytes r → Bytes (half_horizontal k n r)
unfolding half_horizontal
half_horizontal_bytes k n r b = tab_bytes _ n (λ i. around_byte (half_sample k i n) r i (sample_byte k i n) b)

pub half_vertical_bytes : (k : HalfPel) (y h n : ℕ) (m2 m1 c0 p1 p2 p3 : List ℕ) → Bytes m2 → Bytes m1 → Bytes c0 → Bytes p1 → Bytes p2 → Bytes p3 → Bytes (half_vertical k y h n m2 m1 c0 p1 p2 p3)
unfolding half_vertical
half_vertical_bytes k y h n m2 m1 c0 p1 p2 p3 = sixes_bytes (half_sample k y h) n m2 m1 c0 p1 p2 p3 (sample_byte k y h)
