-- A run stored inside a list; rows that are a pitch apart; last loops over rows (`Walked`). Assumes nothing.
use mathlib.Core.Path.{◌≡◌, refl, sym, ap, ◌∙◌, subst}
use mathlib.Core.List.{List, [], ◌++◌}
use Prim.Native.Nat.{ℕ, ◌+◌, ◌*◌, ◌-◌, ◌≤◌, ◌<◌}
use native.Mathlib.Nat.{mul-le-mul_right, add-mul, one-mul}
use native.Mathlib.Numerals.{add-one, add-one-le}
use native.Mathlib.Omega.{arith}
use lib.ListN.{length, take, drop, replicate, length-take, length-drop, length-replicate, take-append-drop}
use Rattle.layouts.specs.Storing.{put, steps}

-- ---- put
-- inside the list there is no gap
pub put_plain : (c : List ℕ) (at : ℕ) (ys : List ℕ) → at ≤ length c → put c at ys ≡ take at c ++ (ys ++ drop (length ys) (drop at c))
unfolding put
put_plain c at ys le = let none : at - length c ≡ 0 = omega arith in ap (λ (k : ℕ). take at c ++ (replicate k 0 ++ (ys ++ drop (length ys) (drop at c)))) none

-- no byte is stored
pub put_none : (c : List ℕ) (at n : ℕ) → at ≤ length c → n ≡ 0 → put c at (replicate n 0) ≡ c
put_none c at n le e = ap (λ (k : ℕ). put c at (replicate k 0)) e ∙ put_plain c at [] le ∙ take-append-drop at c

-- a part that was lent and comes back as ys
pub put_lent : (c ys : List ℕ) (at k : ℕ) → length ys ≡ k → at ≤ length c → take at c ++ (ys ++ drop k (drop at c)) ≡ put c at ys
put_lent c ys at k e le = ap (λ (j : ℕ). take at c ++ (ys ++ drop j (drop at c))) (sym e) ∙ sym (put_plain c at ys le)

-- the part from a to e was lent and came back as zeros
pub put_zeros : (c l : List ℕ) (a e : ℕ) → a ≤ e → e ≤ length c → l ≡ replicate (length (take (e - a) (drop a c))) 0 → take a c ++ (l ++ drop (e - a) (drop a c)) ≡ put c a (replicate (e - a) 0)
put_zeros c l a e ordered fits is =
    let n : length (take (e - a) (drop a c)) ≡ e - a = length-take (e - a) (drop a c) ∙ omega (arith, length-drop a c) in
    ap (λ (x : List ℕ). take a c ++ (x ++ drop (e - a) (drop a c))) (is ∙ ap (λ (k : ℕ). replicate k 0) n)
    ∙ put_lent c (replicate (e - a) 0) a (e - a) (length-replicate (e - a) 0) (omega arith)

-- ---- rows
-- row y of h rows that are p apart ends within them
pub row_in : (y h p : ℕ) → y < h → y * p + p ≤ h * p
row_in y h p lt = subst (λ (k : ℕ). k ≤ h * p) (add-mul y 1 p ∙ ap (λ (k : ℕ). y * p + k) (one-mul p)) (mul-le-mul_right p (add-one-le lt))

pub row_fits : (len s n p rows y : ℕ) → n ≤ p → s + rows * p ≤ len → y < rows → s + y * p + n ≤ len
row_fits len s n p rows y fits in' lt = omega (arith, row_in y rows p lt)

pub steps_next : (step : ℕ → List ℕ → List ℕ) (n : ℕ) (c : List ℕ) → steps step (n + 1) c ≡ step n (steps step n c)
unfolding steps
steps_next step n c = rw (add-one n)

-- what a loop over rows knows at its head
pub record Walked (step : ℕ → List ℕ → List ℕ) (c₀ c : List ℕ) (h y : ℕ) : Type 0 where
  pub most : y ≤ h
  pub same : length c ≡ length c₀
  pub is : c ≡ steps step y c₀

pub walked_none : {step : ℕ → List ℕ → List ℕ} {c₀ : List ℕ} {h : ℕ} → Walked step c₀ c₀ h 0
unfolding steps
walked_none = record { most = omega arith; same = refl; is = refl }

pub walked_more : {step : ℕ → List ℕ → List ℕ} {c₀ c c' : List ℕ} {h y : ℕ} → Walked step c₀ c h y → y < h → length c' ≡ length c → c' ≡ step y c → Walked step c₀ c' h (y + 1)
walked_more {step} {c₀} {c} {c'} {h} {y} w lt len e =
    record { most = omega arith; same = len ∙ w.same; is = e ∙ ap (step y) w.is ∙ sym (steps_next step y c₀) }

pub walked_whole : {step : ℕ → List ℕ → List ℕ} {c₀ c : List ℕ} {h y : ℕ} → Walked step c₀ c h y → h ≤ y → c ≡ steps step h c₀
walked_whole {step} {c₀} {c} {h} {y} w le = let e : y ≡ h = omega arith in w.is ∙ ap (λ (k : ℕ). steps step k c₀) e

-- a loop that counts from 1
pub walked_next : (step : ℕ → List ℕ → List ℕ) {c₀ c c' : List ℕ} {h y : ℕ} → 1 ≤ y → Walked (λ i. step (i + 1)) c₀ c (h - 1) (y - 1) → y < h → length c' ≡ length c → c' ≡ step y c → Walked (λ i. step (i + 1)) c₀ c' (h - 1) (y + 1 - 1)
walked_next step {c₀} {c} {c'} {h} {y} some w lt len e =
    let here : y ≡ y - 1 + 1 = omega arith in
    let next : y - 1 + 1 ≡ y + 1 - 1 = omega arith in
    subst (λ (k : ℕ). Walked (λ i. step (i + 1)) c₀ c' (h - 1) k) next (walked_more w (omega arith) len (e ∙ ap (λ (k : ℕ). step k c) here))
