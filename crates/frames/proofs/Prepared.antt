-- A call that isn't refused: each plane can be built in its part. Assumes nothing.
use mathlib.Core.Path.{◌≡◌}
use mathlib.Core.Bool.{Bool, false, ◌||◌}
use Prim.Native.Nat.{ℕ, zero, suc, ◌≤◌}
use native.Mathlib.Omega.{arith}
use lib.Dec.{ltb}
use borrow.Author.Tests.{ltb-false}
use Rattle.settings.specs.declared.super_opts.SuperOpts.{SuperOpts}
use Rattle.settings.specs.Numbers.{refuse, ◌then◌}
use Rattle.settings.proofs.Tests.{or_false_left, or_false_right}
use Rattle.settings.proofs.Refusals.{then_first, then_rest, refuse_not}
use Rattle.layouts.specs.declared.layout.Layout.{Layout}
use Rattle.layouts.specs.Layout.{width_at, spill_need, scratch_need}
use Rattle.layouts.specs.Refusals.{bad_pitch, source_need}
use Rattle.layouts.specs.Room.{Ready}
use Rattle.layouts.proofs.Layouts.{pitch_within, allowed}
use Rattle.layouts.proofs.Stored.{spill_full}
use Rattle.frames.specs.Parts.{plane_of, length_of, joined_end, planes_no}
use Rattle.frames.specs.Build.{any_of, lent_frame_no, build_frame_no}
use Rattle.frames.proofs.Laid.{laid_out, full_plane, pitch_luma}

-- none of three
pub none_of : (bad : ℕ → Bool) → any_of bad ≡ false → (k : ℕ) → k ≤ 2 → bad k ≡ false
none_of bad e zero le = or_false_left (bad 0) (bad 1) (or_false_left (bad 0 || bad 1) (bad 2) e)
none_of bad e (suc zero) le = or_false_right (bad 0) (bad 1) (or_false_left (bad 0 || bad 1) (bad 2) e)
none_of bad e (suc (suc zero)) le = or_false_right (bad 0 || bad 1) (bad 2) e
none_of bad e (suc (suc (suc k))) le = absurd (omega (arith, le))

-- what `build_frame_no` leaves
pub record Granted (r : SuperOpts) (n sp : ℕ → ℕ) (len spill scratch : ℕ) : Type 0 where
  pub planes : planes_no r ≡ 0
  pub pitches : (k : ℕ) → k ≤ 2 → bad_pitch (sp k) (width_at (plane_of r k) 0) ≡ false
  pub end : joined_end r ≤ len
  pub parts : (k : ℕ) → k ≤ 2 → Ready (plane_of r k) (n k) (sp k) (length_of r k) spill scratch

pub granted : (r : SuperOpts) (n sp : ℕ → ℕ) (len spill scratch : ℕ) → build_frame_no r n sp len spill scratch ≡ 0 → Granted r n sp len spill scratch
unfolding build_frame_no lent_frame_no
granted r n sp len spill scratch e =
    let bad : ℕ → Bool = λ k. bad_pitch (sp k) (width_at (plane_of r k) 0) in
    let short : ℕ → Bool = λ k. ltb (n k) (source_need (plane_of r k) (sp k)) in
    let t11 = ltb len (joined_end r) in
    let t12 = ltb spill (spill_need (plane_of r 0)) in
    let t13 = ltb scratch (scratch_need (plane_of r 0)) in
    let r9 = planes_no r then refuse (any_of bad) 9 in
    let r11 = refuse (any_of short) 10 then refuse t11 11 in
    let r12 = r11 then refuse t12 12 in
    let e9 = then_first r9 (r12 then refuse t13 13) e in
    let e13 = then_rest r9 (r12 then refuse t13 13) e in
    let e12 = then_first r12 (refuse t13 13) e13 in
    let e11 = then_first r11 (refuse t12 12) e12 in
    let planes = then_first (planes_no r) (refuse (any_of bad) 9) e9 in
    let pitches = refuse_not (any_of bad) 8 (then_rest (planes_no r) (refuse (any_of bad) 9) e9) in
    let sources = refuse_not (any_of short) 9 (then_first (refuse (any_of short) 10) (refuse t11 11) e11) in
    let spills = ltb-false spill (spill_need (plane_of r 0)) (refuse_not t12 11 (then_rest r11 (refuse t12 12) e12)) in
    let room = ltb-false scratch (scratch_need (plane_of r 0)) (refuse_not t13 12 (then_rest r12 (refuse t13 13) e13)) in
    let need : (k : ℕ) → spill_need (plane_of r k) ≡ 16 = λ k. spill_full (plane_of r k) (allowed (plane_of r k) (laid_out r planes k)) (full_plane r planes k) in
    record {
      planes = planes;
      pitches = none_of bad pitches;
      end = ltb-false len (joined_end r) (refuse_not t11 10 (then_rest (refuse (any_of short) 10) (refuse t11 11) e11));
      parts = λ k le. record {
        layout = laid_out r planes k;
        pitch = (pitch_within (sp k) (width_at (plane_of r k) 0) (none_of bad pitches k le)).1;
        source = ltb-false (n k) (source_need (plane_of r k) (sp k)) (none_of short sources k le);
        end = omega arith;
        spills = omega (arith, need k, need 0, spills);
        room = omega (arith, pitch_luma r k, room);
      };
    }

pub part_ready : {q q' : Layout} {n sp len len' spill scratch : ℕ} → Ready q n sp len spill scratch → q' ≡ q → len' ≡ len → Ready q' n sp len' spill scratch
part_ready r e l = rw (e, l) r

-- what a part's build asks, in slices of as many bytes
pub part_asks : {r : SuperOpts} {n sp : ℕ → ℕ} {len spill scratch len' spill' scratch' : ℕ} → Granted r n sp len spill scratch → len' ≡ len → spill' ≡ spill → scratch' ≡ scratch → (k : ℕ) → k ≤ 2 → (k ≤ 2) × (joined_end r ≤ len') × Ready (plane_of r k) (n k) (sp k) (length_of r k) spill' scratch'
part_asks g l s x k le = rw (l, s, x) (le, g.end, g.parts k le)
