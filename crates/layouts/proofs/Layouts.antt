-- A layout that isn't refused: what the refusals leave; its numbers are small; its levels follow each other and fit the pitch; a row lies in its level. Assumes nothing.
use mathlib.Core.Path.{◌≡◌, refl, sym, ap, ap₂, subst, ◌∙◌}
use mathlib.Core.Logic.{⊎_elim}
use mathlib.Core.Bool.{Bool, true, false, not, cond, ◌||◌}
use Prim.Native.Nat.{ℕ, zero, suc, ◌+◌, ◌*◌, ◌-◌, ◌/◌, ◌^◌, ◌≤◌, ◌<◌}
use native.Mathlib.Nat.{le_trans, le_of_suc-le-suc, eq-or-lt_of_le, one-mul, div-le_self, div-eq_of_lt, pow-le-pow_right}
use native.Mathlib.Numerals.{add-one}
use native.Mathlib.Omega.{arith}
use lib.Dec.{ltb, leb, eqb}
use borrow.Author.Tests.{eqb-true, ltb-false, leb-false, lt-ltb, le-ltb, not-false}
use Rattle.settings.specs.Limits.{most_side, most_pitch, most_levels}
use Rattle.settings.specs.declared.refusal.Refusal.{Refusal}
use Rattle.settings.specs.Answers.{if_done, number}
use Rattle.settings.specs.Numbers.{refuse, ◌then◌, total}
use Rattle.settings.specs.Sizes.{reduced}
use Rattle.settings.specs.declared.super_opts.Naturals.{Naturals}
use Rattle.settings.specs.Check.{accepted, record_no, luma_w, luma_h, pel_of, naturals_of}
use Rattle.settings.proofs.Tests.{or_false_left, or_false_right, cond_le}
use Rattle.settings.proofs.Refusals.{then_first, then_rest, refuse_not}
use Rattle.settings.proofs.Heights.{prod_le, reduced_le, total_le, total_suc}
use Rattle.settings.proofs.Known.{number_then}
use Rattle.settings.proofs.Accepted.{within}
use Rattle.layouts.specs.declared.layout.Layout.{Layout}
use Rattle.layouts.specs.declared.level.Level.{Level}
use Rattle.layouts.specs.declared.descent.Descent.{Descent}
use Rattle.layouts.specs.declared.rows.Run.{Run}
use Rattle.layouts.specs.Layout.{levels_of, written_end, row_start, region_at, region_or, no_region, width_at, height_at, stored_at, bytes_at, offset_at}
use Rattle.layouts.specs.Refusals.{least_pitch, bad_pitch, layout_no, no_row}
use Rattle.layouts.specs.Answers.{no_run}
use Rattle.layouts.specs.Room.{most_offset}
use Rattle.layouts.proofs.Choices.{cond_yes, cond_no}
use Rattle.layouts.proofs.Loops.{row_in}

-- ---- what the refusals leave
pub pitch_within : (p least : ℕ) → bad_pitch p least ≡ false → (1 ≤ p) × (least ≤ p) × (p ≤ most_pitch)
pitch_within p least e =
    let narrow = ltb p 1 || ltb p least in
    let wide = or_false_left narrow (ltb most_pitch p) e in
    (ltb-false p 1 (or_false_left (ltb p 1) (ltb p least) wide), ltb-false p least (or_false_right (ltb p 1) (ltb p least) wide), ltb-false most_pitch p (or_false_right narrow (ltb most_pitch p) e))

pub pitch_fine : (p least : ℕ) → 1 ≤ p → least ≤ p → p ≤ most_pitch → bad_pitch p least ≡ false
pitch_fine p least some fits most = rw (le-ltb p 1 some, le-ltb p least fits, le-ltb most_pitch p most) refl

pub record Allowed (q : Layout) : Type 0 where
  pub good : accepted q.opts ≡ true
  pub x : q.x_shift ≤ 1
  pub y : q.y_shift ≤ 1
  pub some : 1 ≤ q.pitch
  pub least : least_pitch q ≤ q.pitch
  pub most : q.pitch ≤ most_pitch

pub allowed : (q : Layout) → layout_no q ≡ 0 → Allowed q
unfolding layout_no
allowed q e =
    let x = q.x_shift in
    let y = q.y_shift in
    let p = q.pitch in
    let t7 = ltb 1 x || ltb 1 y in
    let t8 = bad_pitch p (least_pitch q) in
    let first = then_first (record_no q.opts then refuse t7 7) (refuse t8 8) e in
    let s6 = refuse_not (not (accepted q.opts)) 5 (then_first (record_no q.opts) (refuse t7 7) first) in
    let s7 = refuse_not t7 6 (then_rest (record_no q.opts) (refuse t7 7) first) in
    let s8 = refuse_not t8 7 (then_rest (record_no q.opts then refuse t7 7) (refuse t8 8) e) in
    let pitch = pitch_within p (least_pitch q) s8 in
    record {
      good = not-false (accepted q.opts) s6;
      x = ltb-false 1 x (or_false_left (ltb 1 x) (ltb 1 y) s7);
      y = ltb-false 1 y (or_false_right (ltb 1 x) (ltb 1 y) s7);
      some = pitch.0;
      least = pitch.1;
      most = pitch.2;
    }

-- ---- a refusal is kept by the tests after it; what a row that isn't refused has
pub then_kept : (f : Refusal) (m n : ℕ) → number f ≡ m → m ≡ (m then n)
then_kept f m n e = sym e ∙ number_then f n ∙ ap (λ (k : ℕ). k then n) e

pub record Framed (q : Layout) (len : ℕ) : Type 0 where
  pub layout : layout_no q ≡ 0
  pub end : written_end q ≤ len

-- a row that is there
pub record There (q : Layout) (l k y : ℕ) : Type 0 where
  pub level : l < levels_of q
  pub plane : k < stored_at q l
  pub row : y < height_at q l

pub there : (q : Layout) (l k y : ℕ) → no_row q l k y ≡ false → There q l k y
there q l k y e =
    let a = leb (levels_of q) l in
    let b = leb (stored_at q l) k in
    let d = leb (height_at q l) y in
    let ab = or_false_left (a || b) d e in
    record {
      level = leb-false (levels_of q) l (or_false_left a b ab);
      plane = leb-false (stored_at q l) k (or_false_right a b ab);
      row = leb-false (height_at q l) y (or_false_right (a || b) d e);
    }

pub record Rowed (q : Layout) (len l k y : ℕ) : Type 0 where
  pub frame : Framed q len
  pub none : no_row q l k y ≡ false

-- ---- any shift
pub shifted_out : (n s : ℕ) → n < 2 ^ 32 → 32 ≤ s → 0 ≡ n / 2 ^ s
shifted_out n s small far = sym (div-eq_of_lt (le_trans small (pow-le-pow_right {n = 2} (omega arith) far)))

-- ---- the planes that a level keeps
pub stored_first : (q : Layout) (l : ℕ) → l ≡ 0 → stored_at q l ≡ cond q.opts.full (pel_of q.opts * pel_of q.opts) 0
stored_first q l e = ap (stored_at q) e

-- ---- sizes are small
module _ (q : Layout) (a : Allowed q) where
  pub height_le : (l : ℕ) → height_at q l ≤ most_side
  height_le l = omega (arith, div-le_self (reduced (luma_h q.opts) l) (2 ^ q.y_shift), reduced_le (luma_h q.opts) l, (within q.opts a.good).height)

  pub stored_le : (l : ℕ) → stored_at q l ≤ 16
  stored_le zero = let pel = (within q.opts a.good).pel in cond_le q.opts.full (pel_of q.opts * pel_of q.opts) 16 (prod_le 4 4 pel pel)
  stored_le (suc l) = omega arith

  pub planes_le : (l : ℕ) → stored_at q l * height_at q l ≤ 16 * most_side
  planes_le l = prod_le 16 most_side (stored_le l) (height_le l)

  pub bytes_le : (l : ℕ) → bytes_at q l ≤ 16 * most_side * most_pitch
  bytes_le l = prod_le (16 * most_side) most_pitch (planes_le l) a.most

  pub offset_le : (l : ℕ) → l ≤ most_levels → offset_at q l ≤ most_offset
  unfolding offset_at
  offset_le l le = le_trans (total_le (bytes_at q) (16 * most_side * most_pitch) l bytes_le) (prod_le most_levels (16 * most_side * most_pitch) le (omega arith))

-- ---- levels follow each other
pub offset_first : (q : Layout) → offset_at q 0 ≡ 0
unfolding offset_at total
offset_first q = refl

pub offset_next : (q : Layout) (l : ℕ) → offset_at q (l + 1) ≡ offset_at q l + bytes_at q l
unfolding offset_at
offset_next q l = rw add-one (total_suc (bytes_at q) l)

pub offset_mono : (q : Layout) (m n : ℕ) → m ≤ n → offset_at q m ≤ offset_at q n
unfolding offset_at
offset_mono q m zero le = let e : m ≡ 0 = omega arith in rw e (omega arith)
offset_mono q m (suc n) le =
    ⊎_elim
    (λ (e : m ≡ suc n). rw e (omega arith))
    (λ (lt : m < suc n). omega (arith, total_suc (bytes_at q) n, offset_mono q m n (le_of_suc-le-suc lt)))
    (eq-or-lt_of_le le)

-- two levels don't overlap
pub offset_apart : (q : Layout) (l m : ℕ) → l < m → offset_at q l + bytes_at q l ≤ offset_at q m
offset_apart q l m lt = omega (arith, offset_next q l, offset_mono q (l + 1) m (omega arith))

-- each ends inside the written end
pub level_end : (q : Layout) (l : ℕ) → l < levels_of q → offset_at q l + bytes_at q l ≤ written_end q
level_end q l lt = offset_apart q l (levels_of q) lt

pub bytes_later : (q : Layout) (l : ℕ) → 1 ≤ l → bytes_at q l ≡ height_at q l * q.pitch
bytes_later q zero h = absurd (omega arith)
bytes_later q (suc l) h = ap (λ (n : ℕ). n * q.pitch) (one-mul (height_at q (suc l)))

-- ---- widths
halves : (d s : ℕ) → s ≤ 1 → 2 * (2 * (d / 4) / 2 ^ s) ≤ d / 2 ^ s
halves d zero le = omega arith
halves d (suc zero) le = omega arith
halves d (suc (suc s)) le = absurd (omega arith)

least_later : (t : Bool) (a b p : ℕ) → cond t a b ≤ p → 2 * b ≤ a → b ≤ p
least_later true a b p le h = omega arith
least_later false a b p le h = le

module _ (q : Layout) (a : Allowed q) where
  -- twice a level's width is at most the width above
  pub width_half : (l : ℕ) → 2 * width_at q (suc l) ≤ width_at q l
  unfolding reduced
  width_half l = halves (reduced (luma_w q.opts) l) q.x_shift a.x

  -- and its height alike
  pub height_half : (l : ℕ) → 2 * height_at q (suc l) ≤ height_at q l
  unfolding reduced
  height_half l = halves (reduced (luma_h q.opts) l) q.y_shift a.y

  pub width_first : q.opts.full ≡ true → width_at q 0 ≤ q.pitch
  width_first e = subst (λ (n : ℕ). n ≤ q.pitch) (cond_yes q.opts.full (width_at q 0) (width_at q 1) e) a.least

  pub width_later : (l : ℕ) → width_at q (suc l) ≤ q.pitch
  width_later zero = least_later q.opts.full (width_at q 0) (width_at q 1) q.pitch a.least (width_half 0)
  width_later (suc l) = omega (arith, width_half (suc l), width_later l)

  pub width_fits : (l : ℕ) → 1 ≤ l → width_at q l ≤ q.pitch
  width_fits zero h = absurd (omega arith)
  width_fits (suc l) h = width_later l

  pub width_le : (l : ℕ) → width_at q l ≤ most_side
  width_le l = omega (arith, div-le_self (reduced (luma_w q.opts) l) (2 ^ q.x_shift), reduced_le (luma_w q.opts) l, (within q.opts a.good).width)

  -- a level that keeps a plane is no wider than the pitch
  pub width_stored : (l k : ℕ) → k < stored_at q l → width_at q l ≤ q.pitch
  width_stored zero k lt = width_first (kept q.opts.full (pel_of q.opts * pel_of q.opts) lt)
    where
      kept : (t : Bool) (n : ℕ) → k < cond t n 0 → t ≡ true
      kept true n h = refl
      kept false n h = absurd (omega arith)
  width_stored (suc l) k lt = width_later l

-- ---- a row of a level lies in it
pub row_inside : (q : Layout) (l k y : ℕ) → k < stored_at q l → y < height_at q l → (k * height_at q l + y) * q.pitch + q.pitch ≤ bytes_at q l
row_inside q l k y lk ly =
    let h = height_at q l in
    row_in (k * h + y) (stored_at q l * h) q.pitch (omega (arith, row_in k (stored_at q l) h lk))

-- a row that isn't refused lies in the frame
pub row_ends : (q : Layout) (len l k y : ℕ) → Rowed q len l k y → row_start q l k y + width_at q l ≤ len
row_ends q len l k y r =
    let t = there q l k y r.none in
    omega (arith, row_inside q l k y t.plane t.row, level_end q l t.level, r.frame.end, width_stored q (allowed q r.frame.layout) l k t.plane)

-- where an answer says that a row lies ends in the frame, if it does where there is one
pub run_ends : (n len : ℕ) (r : Run) → (n ≡ 0 → r.offset + r.length ≤ len) → (if_done n r no_run).value.offset + (if_done n r no_run).value.length ≤ len
run_ends n len r h = go (eqb n 0) refl
  where
    go : (t : Bool) → eqb n 0 ≡ t → (cond t r no_run).offset + (cond t r no_run).length ≤ len
    go true e = h (eqb-true n 0 e)
    go false e = omega arith

-- ---- a level that is there, or isn't
pub region_there : (q : Layout) (l : ℕ) → l < levels_of q → region_or q l ≡ region_at q l
region_there q l lt = cond_yes (ltb l (levels_of q)) (region_at q l) no_region (lt-ltb l (levels_of q) lt)

pub region_none : (q : Layout) (l : ℕ) → levels_of q ≤ l → region_or q l ≡ no_region
region_none q l le = cond_no (ltb l (levels_of q)) (region_at q l) no_region (le-ltb l (levels_of q) le)

pub levels_le : (q : Layout) → Allowed q → levels_of q ≤ most_levels
levels_le q a = (within q.opts a.good).levels

-- a turn of a loop over the levels is at one of them, by the count that the record gives
pub turn : {n : Naturals} (q : Layout) (l : ℕ) → layout_no q ≡ 0 → n ≡ naturals_of q.opts → l < n.levels → (l < levels_of q) × (l < most_levels)
turn q l fine e lt = let few = ap (λ (x : Naturals). x.levels) e in let most = levels_le q (allowed q fine) in (omega (arith, few, lt), omega (arith, few, most, lt))

-- where the walk was before its last step, the level above the one that it has reached lies
pub above_at : (d e : Descent) (t : Level) → e.layout ≡ d.layout → e.level ≡ d.level + 1 → t.fitting.layout ≡ e.layout → t.level ≡ e.level → d.offset ≡ offset_at t.fitting.layout (t.level - 1)
above_at d e t a b x y = d.place ∙ ap₂ offset_at (sym a ∙ sym x) (omega (arith, b, y))
