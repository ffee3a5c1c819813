-- Reducing: once more at the end, or at the start. Levels: one more where both sides are at least 4, none otherwise, and at most so many; last, how many by the bits of the shorter side. Assumes nothing.
use mathlib.Core.Path.{◌≡◌, refl, sym, ap, ◌∙◌}
use mathlib.Core.Bool.{Bool, true, false, cond, ◌&&◌}
use Prim.Native.Nat.{ℕ, zero, suc, ◌+◌, ◌*◌, ◌/◌, ◌^◌, ◌≤◌, ◌<◌, min}
use native.Mathlib.Omega.{arith}
use native.Mathlib.Nat.{pow-suc, div-eq_of_lt}
use native.Mathlib.Numerals.{add-one, one-add}
use lib.Dec.{eqb, ltb, leb, eqb-suc-zero, eqb-suc-suc}
use lib.Pow.{shr-shr, pow_mono}
use borrow.Author.Tests.{le-leb, lt-leb, leb-true, ltb-true, ltb-false, lt-ltb, le-ltb, eqb-true, eqb-false, eq-eqb, ne_eqb}
use Rattle.settings.specs.Sizes.{reduce, reduced, levels_in, auto_levels}
use Rattle.settings.proofs.Tests.{and_no, cond_le}

pub reduced_next : (d n : ℕ) → reduced d (n + 1) ≡ reduce (reduced d n)
unfolding reduced
reduced_next d n = rw add-one

pub reduced_from : (d n : ℕ) → reduced (reduce d) n ≡ reduced d (suc n)
unfolding reduced
reduced_from d zero = refl
reduced_from d (suc n) = ap reduce (reduced_from d n)

pub levels_narrow : (k w h : ℕ) → w < 4 → levels_in k w h ≡ 0
unfolding levels_in
levels_narrow zero w h lt = refl
levels_narrow (suc k) w h lt = rw (lt-leb 4 w lt)

pub levels_low : (k w h : ℕ) → h < 4 → levels_in k w h ≡ 0
unfolding levels_in
levels_low zero w h lt = refl
levels_low (suc k) w h lt = rw (lt-leb 4 h lt, and_no (leb 4 w))

-- more steps than the width find no more levels
enough : (k m w h : ℕ) → w ≤ k → w ≤ m → levels_in k w h ≡ levels_in m w h
unfolding levels_in
enough zero m w h a b = levels_narrow zero w h (omega arith) ∙ sym (levels_narrow m w h (omega arith))
enough (suc k) zero w h a b = levels_narrow (suc k) w h (omega arith)
enough (suc k) (suc m) w h a b = go (leb 4 w) refl (λ e. enough k m (reduce w) (reduce h) (omega (arith, leb-true 4 w e)) (omega (arith, leb-true 4 w e)))
  where
    go : (t : Bool) → leb 4 w ≡ t → (leb 4 w ≡ true → levels_in k (reduce w) (reduce h) ≡ levels_in m (reduce w) (reduce h)) → levels_in (suc k) w h ≡ levels_in (suc m) w h
    go true e same = ap (λ (n : ℕ). cond (leb 4 w && leb 4 h) (suc n) 0) (same e)
    go false e same = rw e

pub levels_more : (w h : ℕ) → 4 ≤ w → 4 ≤ h → auto_levels w h ≡ suc (auto_levels (reduce w) (reduce h))
unfolding levels_in
levels_more zero h a b = absurd (omega arith)
levels_more (suc w) h a b = first ∙ ap suc (enough w (reduce (suc w)) (reduce (suc w)) (reduce h) (omega arith) (omega arith))
  where
    first : auto_levels (suc w) h ≡ suc (levels_in w (reduce (suc w)) (reduce h))
    first = rw (le-leb 4 (suc w) a, le-leb 4 h b)

pub levels_within : (k w h : ℕ) → levels_in k w h ≤ k
unfolding levels_in
levels_within zero w h = omega arith
levels_within (suc k) w h = cond_le (leb 4 w && leb 4 h) (suc (levels_in k (reduce w) (reduce h))) (suc k) (omega (arith, levels_within k (reduce w) (reduce h)))

-- levels at most n, where the width is below 2 ^ (n + 2)
pub levels_small : (n k w h : ℕ) → w < 4 * 2 ^ n → levels_in k w h ≤ n
unfolding levels_in
levels_small n zero w h lt = omega arith
levels_small zero (suc k) w h lt = rw (lt-leb 4 w (omega arith)) (omega arith)
levels_small (suc n) (suc k) w h lt =
    cond_le (leb 4 w && leb 4 h) (suc (levels_in k (reduce w) (reduce h))) (suc n)
    (omega (arith, levels_small n k (reduce w) (reduce h) (omega (arith, pow-suc 2 n))))

-- ---- levels by the shorter side
levels_short : (w h : ℕ) → min w h < 4 → auto_levels w h ≡ 0
levels_short w h lt = go (ltb w 4) refl
  where
    go : (t : Bool) → ltb w 4 ≡ t → auto_levels w h ≡ 0
    go true e = levels_narrow w w h (ltb-true w 4 e)
    go false e = levels_low w w h (omega (arith, ltb-false w 4 e))

pub levels_none : (w h : ℕ) → eqb 0 (auto_levels w h) ≡ ltb (min w h) 4
levels_none w h = go (ltb (min w h) 4) refl
  where
    go : (t : Bool) → ltb (min w h) 4 ≡ t → eqb 0 (auto_levels w h) ≡ t
    go true e = eq-eqb 0 (auto_levels w h) (sym (levels_short w h (ltb-true (min w h) 4 e)))
    go false e = let long = ltb-false (min w h) 4 e in ne_eqb 0 (auto_levels w h) (λ z. omega (arith, levels_more w h (omega arith) (omega arith)))

-- the last level is reached where one four is left
last_four : (a m : ℕ) → 4 ≤ m → a ≡ reduce m → ltb a 4 ≡ eqb (m / 4) 1
last_four a m long e = go (eqb (m / 4) 1) refl
  where
    go : (t : Bool) → eqb (m / 4) 1 ≡ t → ltb a 4 ≡ t
    go true one = lt-ltb a 4 (omega (arith, eqb-true (m / 4) 1 one))
    go false more = le-ltb a 4 (omega (arith, eqb-false (m / 4) 1 more))

halve : (d k : ℕ) → d / 2 / 2 ^ k ≡ d / 2 ^ suc k
halve d k = shr-shr d 1 k ∙ ap (λ (x : ℕ). d / 2 ^ x) (one-add k)

-- reducing takes a bit off
reduce_shr : (d k : ℕ) → reduce d / 2 ^ suc k ≡ d / 2 ^ suc (suc k)
reduce_shr d k = sym (halve (reduce d) k) ∙ ap (λ (x : ℕ). x / 2 ^ k) (omega arith) ∙ halve (d / 2) k ∙ halve d (suc k)

-- one level more than the size below has
level_first : (n w h : ℕ) → (4 ≤ min w h → eqb n (auto_levels (reduce w) (reduce h)) ≡ eqb (min w h / 2 ^ suc (suc n)) 1) → eqb (suc n) (auto_levels w h) ≡ eqb (min w h / 2 ^ suc (suc n)) 1
level_first n w h rest = go (ltb (min w h) 4) refl
  where
    go : (t : Bool) → ltb (min w h) 4 ≡ t → eqb (suc n) (auto_levels w h) ≡ eqb (min w h / 2 ^ suc (suc n)) 1
    go true e =
        let short = ltb-true (min w h) 4 e in
        let gone : min w h / 2 ^ suc (suc n) ≡ 0 = div-eq_of_lt (omega (arith, pow_mono {i = 2} {j = suc (suc n)} (omega arith))) in
        ap (eqb (suc n)) (levels_short w h short) ∙ eqb-suc-zero n ∙ sym (ap (λ (x : ℕ). eqb x 1) gone)
    go false e =
        let long = ltb-false (min w h) 4 e in
        ap (eqb (suc n)) (levels_more w h (omega arith) (omega arith)) ∙ eqb-suc-suc n (auto_levels (reduce w) (reduce h)) ∙ rest long

pub levels_some : (n w h : ℕ) → eqb (suc n) (auto_levels w h) ≡ eqb (min w h / 2 ^ suc (suc n)) 1
levels_some zero w h = level_first zero w h (λ long. levels_none (reduce w) (reduce h) ∙ last_four (min (reduce w) (reduce h)) (min w h) long (omega arith))
levels_some (suc n) w h =
    let least : min (reduce w) (reduce h) ≡ reduce (min w h) = omega arith in
    level_first (suc n) w h (λ long. levels_some n (reduce w) (reduce h) ∙ ap (λ (x : ℕ). eqb x 1) (ap (λ (x : ℕ). x / 2 ^ suc (suc n)) least ∙ reduce_shr (min w h) (suc n)))
