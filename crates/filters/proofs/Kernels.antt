-- The kernels over natural numbers are document 01's, the Wiener kernel is ITU-T H.264's, the generic cubic's other columns are by the cubic's weights, and which rows a filter reads. Assumes nothing.
use mathlib.Core.Path.{◌≡◌, refl, sym, ap, ◌∙◌}
use mathlib.Core.List.{List}
use mathlib.Core.Logic.{⊎_elim}
use Prim.Native.Nat.{ℕ, zero, suc, ◌+◌, ◌*◌, ◌/◌, ◌≤◌, ◌<◌}
use native.Mathlib.Omega.{arith}
use lib.IntN.{ℤ, pos, negsuc, sub_ℕ, neg_ℤ, ◌+ℤ◌, ◌-ℤ◌}
use borrow.Author.Tests.{lt-ltb, le-ltb}
use Rattle.filters.specs.declared.half_pel.HalfPel.{HalfPel}
use Rattle.filters.specs.declared.half_pel.HalfPel.TheVariants.{CatmullRom, Wiener}
use Rattle.filters.specs.declared.halving.ReduceFilter.{ReduceFilter}
use Rattle.filters.specs.declared.halving.ReduceFilter.TheVariants.{Average, Bilinear, Quadratic, Cubic}
use Rattle.filters.specs.H264.{clip1, h264b}
use Rattle.filters.specs.Refine.{shr, kernel, held, half_pel}
use Rattle.filters.specs.Inner.{natural_pel}
use Rattle.filters.specs.Halve.{weigh, first_row, last_row, rest_of}
use Rattle.filters.specs.Row.{Six, sixes}
use Rattle.filters.proofs.Integers.{sub_none, sub_same, sub_add, sub_sub, held_sub}
use Rattle.filters.proofs.Tests.{below_or}

sum_is : (e f g h i j : ℕ) → pos e -ℤ pos (5 * f) +ℤ pos (20 * g) +ℤ pos (20 * h) -ℤ pos (5 * i) +ℤ pos j +ℤ pos 16 ≡ sub_ℕ (e + 20 * (g + h) + j + 16) (5 * (f + i))
sum_is e f g h i j =
    ap (λ (z : ℤ). z -ℤ pos (5 * f) +ℤ pos (20 * g) +ℤ pos (20 * h) -ℤ pos (5 * i) +ℤ pos j +ℤ pos 16) (sub_none e)
    ∙ ap (λ (z : ℤ). z +ℤ pos (20 * g) +ℤ pos (20 * h) -ℤ pos (5 * i) +ℤ pos j +ℤ pos 16) (sub_sub e 0 (5 * f))
    ∙ ap (λ (z : ℤ). z +ℤ pos (20 * h) -ℤ pos (5 * i) +ℤ pos j +ℤ pos 16) (sub_add e (0 + 5 * f) (20 * g))
    ∙ ap (λ (z : ℤ). z -ℤ pos (5 * i) +ℤ pos j +ℤ pos 16) (sub_add (e + 20 * g) (0 + 5 * f) (20 * h))
    ∙ ap (λ (z : ℤ). z +ℤ pos j +ℤ pos 16) (sub_sub (e + 20 * g + 20 * h) (0 + 5 * f) (5 * i))
    ∙ ap (λ (z : ℤ). z +ℤ pos 16) (sub_add (e + 20 * g + 20 * h) (0 + 5 * f + 5 * i) j)
    ∙ sub_add (e + 20 * g + 20 * h + j) (0 + 5 * f + 5 * i) 16
    ∙ sub_same (e + 20 * g + 20 * h + j + 16) (0 + 5 * f + 5 * i) (e + 20 * (g + h) + j + 16) (5 * (f + i)) (omega arith)

neg_is : (a b : ℕ) → neg_ℤ (pos a) +ℤ pos b ≡ sub_ℕ b a
neg_is zero b = sub_none (0 + b) ∙ sub_same (0 + b) 0 b 0 (omega arith)
neg_is (suc a) b = refl

-- the kernels over natural numbers are document 01's
pub half_pel_natural : (k : HalfPel) (m2 m1 c0 p1 p2 p3 : ℕ) → natural_pel k m2 m1 c0 p1 p2 p3 ≡ half_pel k m2 m1 c0 p1 p2 p3
unfolding half_pel
half_pel_natural CatmullRom m2 m1 c0 p1 p2 p3 =
    sym
    (ap (λ (z : ℤ). held (shr (z +ℤ pos 8) 4)) (neg_is (m1 + p2) (9 * (c0 + p1)))
    ∙ ap (λ (z : ℤ). held (shr z 4)) (sub_add (9 * (c0 + p1)) (m1 + p2) 8)
    ∙ held_sub (9 * (c0 + p1) + 8) (m1 + p2) 4)
half_pel_natural Wiener m2 m1 c0 p1 p2 p3 = sym (ap (λ (z : ℤ). held (shr z 5)) (sum_is m2 m1 c0 p1 p2 p3) ∙ held_sub (m2 + 20 * (c0 + p1) + p3 + 16) (5 * (m1 + p2)) 5)

-- holding to 0..255 is H.264's clipping
held_clip : (z : ℤ) → pos (held z) ≡ clip1 z
held_clip (pos n) =
    ⊎_elim
    (λ (lt : 255 < n). rw (le-ltb n 0 (omega arith), lt-ltb 255 n lt) (ap pos (omega arith)))
    (λ (le : n ≤ 255). rw (le-ltb n 0 (omega arith), le-ltb 255 n le) (ap pos (omega arith)))
    (below_or 255 n)
held_clip (negsuc n) = refl

pub h264_exact : (m2 m1 c0 p1 p2 p3 : ℕ) → pos (half_pel Wiener m2 m1 c0 p1 p2 p3) ≡ h264b (pos m2) (pos m1) (pos c0) (pos p1) (pos p2) (pos p3)
unfolding h264b half_pel
h264_exact m2 m1 c0 p1 p2 p3 = held_clip (kernel Wiener (pos m2) (pos m1) (pos c0) (pos p1) (pos p2) (pos p3))

pub rest_cubic : (a m1 c0 p1 b c : ℕ) → weigh Cubic a m1 c0 p1 b c ≡ rest_of a m1 c0 p1 b c
rest_cubic a m1 c0 p1 b c = ap (λ (x : ℕ). x / 32) (omega arith)

six_rows : (k : Six) (n : ℕ) (m1 c0 p1 : List ℕ) {m2 x2 p2 y2 p3 y3 : List ℕ} → m2 ≡ x2 → p2 ≡ y2 → p3 ≡ y3 → sixes k n m2 m1 c0 p1 p2 p3 ≡ sixes k n x2 m1 c0 p1 y2 y3
six_rows k n m1 c0 p1 a b c = cc

-- a filter reads no row above its first and none below its last: others may stand there
pub rows_read : (f : ReduceFilter) (n : ℕ) (m1 c0 p1 : List ℕ) {m2 x2 p2 y2 p3 y3 : List ℕ} → (2 ≤ first_row f → m2 ≡ x2) → (2 ≤ last_row f → p2 ≡ y2) → (3 ≤ last_row f → p3 ≡ y3) → sixes (weigh f) n m2 m1 c0 p1 p2 p3 ≡ sixes (weigh f) n x2 m1 c0 p1 y2 y3
unfolding sixes
rows_read Average n m1 c0 p1 a b c = refl
rows_read Bilinear n m1 c0 p1 {m2 = m2} {p3 = p3} a b c = ap (λ (l : List ℕ). sixes (weigh Bilinear) n m2 m1 c0 p1 l p3) (b (omega arith))
rows_read Quadratic n m1 c0 p1 a b c = six_rows (weigh Quadratic) n m1 c0 p1 (a (omega arith)) (b (omega arith)) (c (omega arith))
rows_read Cubic n m1 c0 p1 a b c = six_rows (weigh Cubic) n m1 c0 p1 (a (omega arith)) (b (omega arith)) (c (omega arith))
