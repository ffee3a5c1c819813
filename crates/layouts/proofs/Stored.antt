-- Levels that are stored: none is smaller than 2 by 2; which of them are fused; and what the spill has to hold. Assumes nothing.
use mathlib.Core.Path.{◌≡◌, refl, sym, ap, subst, ◌∙◌}
use mathlib.Core.Bool.{Bool, true, false, cond, ◌&&◌, ◌||◌}
use mathlib.Core.Logic.{◌⊎◌, inl, inr, ⊎_elim}
use Prim.Native.Nat.{ℕ, zero, suc, ◌+◌, ◌*◌, ◌-◌, ◌/◌, ◌%◌, ◌^◌, ◌≤◌, ◌<◌}
use native.Mathlib.Nat.{mul_assoc, mul_comm, mul-le-mul_right, mul-add-mod_self_left}
use native.Mathlib.Numerals.{add-one}
use native.Mathlib.Omega.{arith}
use lib.Dec.{leb, ltb, eqb}
use borrow.Author.Tests.{ltb-true, le-leb, leb-true, eq-eqb, eqb-true, ne_eqb, eqb-false}
use Rattle.settings.specs.Numbers.{to_nat, is_nat}
use Rattle.settings.specs.Sizes.{reduce, reduced, levels_in}
use Rattle.settings.specs.Check.{accepted, pel_of, luma_w, luma_h}
use Rattle.settings.proofs.Tests.{and_left, and_right, or_cases}
use Rattle.settings.proofs.Levels.{reduced_from}
use Rattle.settings.proofs.Accepted.{fine, sound, is_nat_pos}
use Rattle.layouts.specs.declared.layout.Layout.{Layout}
use Rattle.layouts.specs.Layout.{levels_of, width_at, height_at, stored_at, bytes_at, offset_at, written_end, region_at, spill_need}
use Rattle.layouts.specs.Margins.{cubic_fits}
use Rattle.layouts.proofs.Choices.{cond_yes, cond_no}
use Rattle.layouts.proofs.Loops.{row_in}
use Rattle.layouts.proofs.Layouts.{Allowed, offset_next, level_end, bytes_later, width_half, height_half, width_first, width_later}

-- ---- the sides of a level
some_cond : (t : Bool) (n l : ℕ) → l < cond t n 0 → (t ≡ true) × (l < n)
some_cond true n l h = (refl, h)
some_cond false n l h = absurd (omega arith)

pub sides : (k w h l : ℕ) → l < levels_in k w h → (4 ≤ reduced w l) × (4 ≤ reduced h l)
unfolding levels_in reduced
sides zero w h l lt = absurd (omega arith)
sides (suc k) w h zero lt =
    let both = (some_cond (leb 4 w && leb 4 h) (suc (levels_in k (reduce w) (reduce h))) 0 lt).0 in
    (leb-true 4 w (and_left (leb 4 w) (leb 4 h) both), leb-true 4 h (and_right (leb 4 w) (leb 4 h) both))
sides (suc k) w h (suc l) lt =
    let less = (some_cond (leb 4 w && leb 4 h) (suc (levels_in k (reduce w) (reduce h))) (suc l) lt).1 in
    let s = sides k (reduce w) (reduce h) l (omega arith) in
    (omega (arith, s.0, reduced_from w l), omega (arith, s.1, reduced_from h l))

halved_some : (d s : ℕ) → s ≤ 1 → 4 ≤ d → 2 ≤ d / 2 ^ s
halved_some d zero le h = omega arith
halved_some d (suc zero) le h = omega arith
halved_some d (suc (suc s)) le h = absurd (omega arith)

-- an accepted pel is 1, 2 or 4
pel_cases : (q : Layout) → accepted q.opts ≡ true → ((pel_of q.opts ≡ 1) ⊎ (pel_of q.opts ≡ 2)) ⊎ (pel_of q.opts ≡ 4)
pel_cases q e =
    let z = q.opts.pel in
    let is : (n : ℕ) → is_nat z n ≡ true → to_nat z ≡ n = λ n h. ap to_nat (is_nat_pos z n h) in
    ⊎_elim
    (λ (a : (is_nat z 1 || is_nat z 2) ≡ true).
    inl (⊎_elim (λ (b : is_nat z 1 ≡ true). inl (is 1 b)) (λ (b : is_nat z 2 ≡ true). inr (is 2 b)) (or_cases (is_nat z 1) (is_nat z 2) a)))
    (λ (a : is_nat z 4 ≡ true). inr (is 4 a))
    (or_cases (is_nat z 1 || is_nat z 2) (is_nat z 4) (sound q.opts (fine q.opts e).none).pel)

pub pel_some : (q : Layout) → accepted q.opts ≡ true → 1 ≤ pel_of q.opts
pel_some q e = ⊎_elim (⊎_elim (λ a. omega (arith, a)) (λ a. omega (arith, a))) (λ a. omega (arith, a)) (pel_cases q e)

pub pel_more : (q : Layout) → accepted q.opts ≡ true → ltb 1 (pel_of q.opts) ≡ true → (pel_of q.opts ≡ 2) ⊎ (pel_of q.opts ≡ 4)
pel_more q e more = let n = pel_of q.opts in ⊎_elim (⊎_elim (λ (h : n ≡ 1). absurd (omega (arith, h, ltb-true 1 n more))) inl) inr (pel_cases q e)

-- ---- tests
doubled : (w : ℕ) → 2 * w % 8 ≡ 2 * (w % 4)
doubled w =
    let split : 2 * w ≡ 8 * (w / 4) + 2 * (w % 4) = omega arith in
    let small : 2 * (w % 4) % 8 ≡ 2 * (w % 4) = omega arith in
    ap (λ (n : ℕ). n % 8) split ∙ mul-add-mod_self_left 8 (w / 4) (2 * (w % 4)) ∙ small

eights : (w : ℕ) → eqb (2 * w % 8) 0 ≡ eqb (w % 4) 0
eights w = go (eqb (w % 4) 0) refl
  where
    go : (t : Bool) → eqb (w % 4) 0 ≡ t → eqb (2 * w % 8) 0 ≡ t
    go true e = eq-eqb (2 * w % 8) 0 (omega (arith, doubled w, eqb-true (w % 4) 0 e))
    go false e = ne_eqb (2 * w % 8) 0 (λ z. eqb-false (w % 4) 0 e (omega (arith, doubled w)))

two_left : (t u : Bool) → (t && true && u && true && true && true) ≡ (t && u)
two_left true true = refl
two_left true false = refl
two_left false u = refl

pub twice : (h p : ℕ) → h * (2 * p) ≡ h * p + h * p
twice h p = sym (mul_assoc h 2 p) ∙ ap (λ (n : ℕ). n * p) (mul_comm h 2) ∙ mul_assoc 2 h p ∙ omega arith

module _ (q : Layout) (a : Allowed q) where
  level_sides : (l : ℕ) → l < levels_of q → (4 ≤ reduced (luma_w q.opts) l) × (4 ≤ reduced (luma_h q.opts) l)
  level_sides l lt = sides (luma_w q.opts) (luma_w q.opts) (luma_h q.opts) l (omega (arith, ap to_nat (fine q.opts a.good).levels))

  -- every level is at least 2 wide and 2 high
  pub width_some : (l : ℕ) → l < levels_of q → 2 ≤ width_at q l
  width_some l lt = halved_some (reduced (luma_w q.opts) l) q.x_shift a.x (level_sides l lt).0

  pub height_some : (l : ℕ) → l < levels_of q → 2 ≤ height_at q l
  height_some l lt = halved_some (reduced (luma_h q.opts) l) q.y_shift a.y (level_sides l lt).1

  -- ---- a later level whose source is stored
  -- it has room for the vertical values of two rows in one
  pub twice_fits : (l : ℕ) → (q.opts.full ≡ true) ⊎ (1 ≤ l) → 2 * width_at q (suc l) ≤ q.pitch
  twice_fits zero s =
      ⊎_elim
      (λ (f : q.opts.full ≡ true). omega (arith, width_half q a 0, width_first q a f))
      (λ (h : 1 ≤ 0). absurd (omega arith))
      s
  twice_fits (suc l) s = omega (arith, width_half q a (suc l), width_later q a l)

  pub stored_some : (l : ℕ) → (q.opts.full ≡ true) ⊎ (1 ≤ l) → 1 ≤ stored_at q l
  stored_some zero s =
      ⊎_elim
      (λ (f : q.opts.full ≡ true).
      let n = pel_of q.opts in
      subst (λ (k : ℕ). 1 ≤ k) (sym (cond_yes q.opts.full (n * n) 0 f)) (omega (arith, row_in 0 n n (pel_some q a.good), pel_some q a.good)))
      (λ (h : 1 ≤ 0). absurd (omega arith))
      s
  stored_some (suc l) s = omega arith

  -- two rows of its source for each row of it
  pub source_rows : (l : ℕ) → (q.opts.full ≡ true) ⊎ (1 ≤ l) → 2 * height_at q (suc l) * q.pitch ≤ bytes_at q l
  source_rows l s =
      let h = height_at q l in
      mul-le-mul_right q.pitch (omega (arith, height_half q a l, row_in 0 (stored_at q l) h (stored_some l s)))

  -- in an accepted frame, only its width says whether it is fused
  pub fits_exact : (l len : ℕ) → suc l < levels_of q → written_end q ≤ len → (q.opts.full ≡ true) ⊎ (1 ≤ l) → cubic_fits (offset_at q l) q.pitch (region_at q (suc l)) len ≡ (leb 8 (width_at q (suc l)) && eqb (width_at q (suc l) % 4) 0)
  unfolding cubic_fits
  fits_exact l len lt end s =
      let w = width_at q (suc l) in
      let h = height_at q (suc l) in
      let p = q.pitch in
      let tall : 2 ≤ h = height_some (suc l) lt in
      let wide : 2 * w ≤ p = twice_fits l s in
      let next = ap (offset_at q) (sym (add-one l)) ∙ offset_next q l in
      let source : offset_at q l + (2 * h - 1) * p + 2 * w ≤ offset_at q (suc l) = omega (arith, row_in (2 * h - 1) (2 * h) p (omega arith), source_rows l s, next) in
      let target : offset_at q (suc l) + (h - 1) * p + 2 * w ≤ len = omega (arith, row_in (h - 1) h p (omega arith), level_end q (suc l) lt, bytes_later q (suc l) (omega arith)) in
      rw (le-leb 2 h tall, le-leb (2 * w) p wide, le-leb (offset_at q l + (2 * h - 1) * p + 2 * w) (offset_at q (suc l)) source, le-leb (offset_at q (suc l) + (h - 1) * p + 2 * w) len target, eights w)
      (two_left (leb 8 w) (eqb (w % 4) 0))

  -- ---- the spill
  -- level 1's rows, 2 * pitch apart, end inside frame and spill where level 0 isn't stored
  pub spread_fits : (len : ℕ) → q.opts.full ≡ false → 2 ≤ levels_of q → written_end q ≤ len → offset_at q 1 + height_at q 1 * (2 * q.pitch) ≤ len + spill_need q
  spread_fits len none lv end =
      let h = height_at q 1 in
      let need : spill_need q ≡ h * q.pitch = cond_no q.opts.full 16 (cond (leb 2 (levels_of q)) (h * q.pitch) 16) none ∙ cond_yes (leb 2 (levels_of q)) (h * q.pitch) 16 (le-leb 2 (levels_of q) lv) in
      omega (arith, need, twice h q.pitch, level_end q 1 (omega arith), bytes_later q 1 (omega arith))

  -- else it holds what a pair's last row leaves past the frame
  pub spill_full : q.opts.full ≡ true → spill_need q ≡ 16
  spill_full f = cond_yes q.opts.full 16 (cond (leb 2 (levels_of q)) (height_at q 1 * q.pitch) 16) f
