-- A record that a frame of three planes takes: neither plane's layout is refused, so 7 and 8 can't arise, and the parts' starts are small. Assumes nothing.
use mathlib.Core.Path.{◌≡◌, refl, ap, ◌∙◌}
use mathlib.Core.Bool.{true, false, not, ◌||◌}
use Prim.Native.Nat.{ℕ, zero, suc, ◌+◌, ◌*◌, ◌≤◌}
use native.Mathlib.Numerals.{add-one}
use native.Mathlib.Omega.{arith}
use lib.Dec.{ltb}
use borrow.Author.Tests.{ltb-false, not-false}
use Rattle.settings.specs.declared.super_opts.SuperOpts.{SuperOpts}
use Rattle.settings.specs.Limits.{most_pitch}
use Rattle.settings.specs.Numbers.{refuse, ◌then◌, total}
use Rattle.settings.specs.Sizes.{reduced}
use Rattle.settings.specs.Check.{accepted, record_no, luma_w, luma_h, level_count}
use Rattle.settings.proofs.Tests.{or_false_left, or_false_right}
use Rattle.settings.proofs.Refusals.{then_first, then_rest, refuse_not}
use Rattle.settings.proofs.Heights.{total_le, total_suc}
use Rattle.settings.proofs.Accepted.{within}
use Rattle.layouts.specs.declared.layout.Layout.{Layout}
use Rattle.layouts.specs.Layout.{width_at, offset_at}
use Rattle.layouts.specs.Refusals.{least_pitch, layout_no}
use Rattle.layouts.specs.Room.{most_offset}
use Rattle.layouts.proofs.Choices.{cond_yes}
use Rattle.layouts.proofs.Layouts.{pitch_fine, allowed, levels_le, offset_le}
use Rattle.frames.specs.declared.parts.Part.{Part}
use Rattle.frames.specs.declared.parts.Parts.{Parts}
use Rattle.frames.specs.Parts.{plane_of, length_of, start_of, planes_no, part_of, parts_of}
use Rattle.frames.specs.Build.{three}

-- what 6, 23 and 24 leave
pub record Taken (r : SuperOpts) : Type 0 where
  pub good : accepted r ≡ true
  pub wide : 2 ≤ luma_w r
  pub high : 2 ≤ luma_h r
  pub full : r.full ≡ true

pub taken : (r : SuperOpts) → planes_no r ≡ 0 → Taken r
unfolding planes_no
taken r e =
    let w = ltb (luma_w r) 2 in
    let h = ltb (luma_h r) 2 in
    let first = then_first (record_no r then refuse (w || h) 23) (refuse (not r.full) 24) e in
    let sides = refuse_not (w || h) 22 (then_rest (record_no r) (refuse (w || h) 23) first) in
    record {
      good = not-false (accepted r) (refuse_not (not (accepted r)) 5 (then_first (record_no r) (refuse (w || h) 23) first));
      wide = ltb-false (luma_w r) 2 (or_false_left w h sides);
      high = ltb-false (luma_h r) 2 (or_false_right w h sides);
      full = not-false r.full (refuse_not (not r.full) 23 (then_rest (record_no r then refuse (w || h) 23) (refuse (not r.full) 24) e));
    }

-- a full record, and a pitch that level 0 fits
laid_by : (q : Layout) → accepted q.opts ≡ true → q.opts.full ≡ true → (ltb 1 q.x_shift || ltb 1 q.y_shift) ≡ false → 1 ≤ q.pitch → width_at q 0 ≤ q.pitch → q.pitch ≤ most_pitch → layout_no q ≡ 0
unfolding layout_no
laid_by q good full shifts some fits most =
    let least = cond_yes q.opts.full (width_at q 0) (width_at q 1) full in
    rw (good, shifts, pitch_fine q.pitch (least_pitch q) some (omega (arith, least, fits)) most) refl

-- 7 and 8 can't arise
pub laid_out : (r : SuperOpts) → planes_no r ≡ 0 → (k : ℕ) → layout_no (plane_of r k) ≡ 0
unfolding reduced
laid_out r e zero = let w = taken r e in laid_by (plane_of r 0) w.good w.full refl (omega (arith, w.wide)) (omega arith) (omega (arith, (within r w.good).width))
laid_out r e (suc k) = let w = taken r e in laid_by (plane_of r (suc k)) w.good w.full refl (omega (arith, w.wide)) (omega arith) (omega (arith, (within r w.good).width))

pub laid_plane : (r : SuperOpts) → planes_no r ≡ 0 → (k : ℕ) {q : Layout} → q ≡ plane_of r k → layout_no q ≡ 0
laid_plane r e k is = ap layout_no is ∙ laid_out r e k

-- ---- what the planes share
opts_of : (r : SuperOpts) (k : ℕ) → (plane_of r k).opts ≡ r
opts_of r zero = refl
opts_of r (suc k) = refl

pub full_plane : (r : SuperOpts) → planes_no r ≡ 0 → (k : ℕ) → (plane_of r k).opts.full ≡ true
full_plane r e k = ap (λ (x : SuperOpts). x.full) (opts_of r k) ∙ (taken r e).full

-- no pitch is above luma's
pub pitch_luma : (r : SuperOpts) (k : ℕ) → (plane_of r k).pitch ≤ (plane_of r 0).pitch
pitch_luma r zero = omega arith
pitch_luma r (suc k) = omega arith

-- ---- lengths and starts
pub length_by : (r : SuperOpts) (k : ℕ) {q : Layout} {n : ℕ} → q ≡ plane_of r k → n ≡ level_count r → offset_at q n ≡ length_of r k
length_by r k e m = rw (e, m, ap level_count (opts_of r k)) refl

pub length_le : (r : SuperOpts) → planes_no r ≡ 0 → (k : ℕ) → length_of r k ≤ most_offset
length_le r e k =
    let a = allowed (plane_of r k) (laid_out r e k) in
    offset_le (plane_of r k) a _ (levels_le (plane_of r k) a)

pub start_first : (r : SuperOpts) → start_of r 0 ≡ 0
unfolding total
start_first r = refl

pub start_next : (r : SuperOpts) (k : ℕ) → start_of r (k + 1) ≡ start_of r k + length_of r k
start_next r k = ap (start_of r) (add-one k) ∙ total_suc (length_of r) k

-- where U and V start, and where V ends, which is as long as U
pub starts : (r : SuperOpts) → (length_of r 0 ≡ start_of r 1) × (length_of r 0 + length_of r 1 ≡ start_of r 2) × (length_of r 0 + length_of r 1 + length_of r 1 ≡ start_of r 3)
unfolding total
starts r = (omega arith, omega arith, omega arith)

pub start_mono : (r : SuperOpts) (k : ℕ) → k ≤ 3 → start_of r k ≤ start_of r 3
unfolding total
start_mono r zero le = omega arith
start_mono r (suc zero) le = omega arith
start_mono r (suc (suc zero)) le = omega arith
start_mono r (suc (suc (suc zero))) le = omega arith
start_mono r (suc (suc (suc (suc k)))) le = absurd (omega (arith, le))

pub part_ends : (r : SuperOpts) (k : ℕ) → k ≤ 2 → start_of r k + length_of r k ≤ start_of r 3
part_ends r k le = omega (arith, start_next r k, start_mono r (k + 1) (omega (arith, le)))

pub start_le : (r : SuperOpts) → planes_no r ≡ 0 → (k : ℕ) → start_of r k ≤ k * most_offset
start_le r e k = total_le (length_of r) most_offset k (length_le r e)

-- a part by its number
pub part_by : (r : SuperOpts) (k : ℕ) {p : Parts} {t : Part} → p ≡ parts_of r → t ≡ three p.y p.u p.v k → k ≤ 2 → t ≡ part_of r k
part_by r k is e le = e ∙ ap (λ (p : Parts). three p.y p.u p.v k) is ∙ go k le
  where
    go : (j : ℕ) → j ≤ 2 → three (part_of r 0) (part_of r 1) (part_of r 2) j ≡ part_of r j
    go zero le = refl
    go (suc zero) le = refl
    go (suc (suc zero)) le = refl
    go (suc (suc (suc j))) le = absurd (omega (arith, le))
