-- A row of a part: where it lies in the whole frame, its number there, and that it ends in it. Assumes nothing.
use mathlib.Core.Path.{◌≡◌, refl, sym, ap, ◌∙◌}
use mathlib.Core.Bool.{false}
use mathlib.Core.List.{List}
use Prim.Native.Nat.{ℕ, ◌+◌, ◌*◌, ◌≤◌, ◌<◌}
use native.Mathlib.Omega.{arith}
use lib.Dec.{leb, ltb}
use lib.ListN.{length, take, drop}
use borrow.Author.Tests.{ltb-false, leb-false, lt-ltb, le-ltb}
use Rattle.settings.specs.declared.super_opts.SuperOpts.{SuperOpts}
use Rattle.settings.specs.declared.refusal.Refusal.{Refusal}
use Rattle.settings.specs.Numbers.{refuse, ◌then◌}
use Rattle.settings.specs.Answers.{Answer, answer, if_done, number}
use Rattle.settings.proofs.Refusals.{then_first, then_rest, refuse_not}
use Rattle.settings.proofs.Known.{given, refused, number_of, value_given}
use Rattle.layouts.specs.declared.rows.Run.{Run}
use Rattle.layouts.specs.Layout.{width_at, row_start}
use Rattle.layouts.specs.Refusals.{no_row}
use Rattle.layouts.specs.Answers.{run_of, no_run}
use Rattle.layouts.specs.Room.{most_offset}
use Rattle.layouts.proofs.Layouts.{then_kept, row_ends, run_ends}
use Rattle.frames.specs.Parts.{plane_of, length_of, start_of, joined_end, planes_no, part_no, row_in_no, run_in_of, place_in_answer, row_in_part, row_in_from}
use Rattle.frames.proofs.Laid.{laid_out, length_le, part_ends, start_le}

-- ---- a part that isn't refused
pub record There (r : SuperOpts) (len k : ℕ) : Type 0 where
  pub planes : planes_no r ≡ 0
  pub end : joined_end r ≤ len
  pub part : k ≤ 2

pub there : (r : SuperOpts) (len k : ℕ) → part_no r len k ≡ 0 → There r len k
there r len k e =
    let short = refuse (ltb len (joined_end r)) 11 in
    let none = refuse (leb 3 k) 19 in
    let first = then_first (planes_no r then short) none e in
    record {
      planes = then_first (planes_no r) short first;
      end = ltb-false len (joined_end r) (refuse_not (ltb len (joined_end r)) 10 (then_rest (planes_no r) short first));
      part = omega (arith, leb-false 3 k (refuse_not (leb 3 k) 18 (then_rest (planes_no r then short) none e)));
    }

-- the number of a part, where the planes aren't refused
pub part_short : (r : SuperOpts) (len k : ℕ) → planes_no r ≡ 0 → len < joined_end r → 11 ≡ part_no r len k
part_short r len k none lt = rw (none, lt-ltb len (joined_end r) lt) refl

pub part_long : (r : SuperOpts) (len k : ℕ) → planes_no r ≡ 0 → joined_end r ≤ len → refuse (leb 3 k) 19 ≡ part_no r len k
part_long r len k none le = rw (none, le-ltb len (joined_end r) le) refl

module _ (r : SuperOpts) (k l j y : ℕ) where
  -- in a frame that is the part alone
  ends_alone : planes_no r ≡ 0 → no_row (plane_of r k) l j y ≡ false → row_start (plane_of r k) l j y + width_at (plane_of r k) l ≤ length_of r k
  ends_alone e none = row_ends (plane_of r k) (length_of r k) l j y (record { frame = record { layout = laid_out r e k; end = omega arith }; none = none })

  -- ---- in the whole
  module _ {n : ℕ} {at : Run} (e : answer 0 at ≡ if_done n (run_of (plane_of r k) l j y) no_run) {s : ℕ} (starts : s ≡ start_of r k) where
    run : at ≡ run_of (plane_of r k) l j y
    run = value_given (run_of (plane_of r k) l j y) no_run e

    pub moved : answer 0 (record { offset = s + at.offset; length = at.length }) ≡ if_done n (run_in_of r k l j y) no_run
    moved = ap (answer 0) (rw (starts, run) refl) ∙ given n (run_in_of r k l j y) no_run (sym (number_of e))

    pub moved_le : planes_no r ≡ 0 → k ≤ 2 → n ≡ refuse (no_row (plane_of r k) l j y) 19 → s + at.offset ≤ 4 * most_offset
    moved_le p h is = omega (arith, starts, ap (λ (x : Run). x.offset) run, ends_alone p (refuse_not (no_row (plane_of r k) l j y) 18 (sym is ∙ sym (number_of e))), length_le r p k, start_le r p k)

  pub placed_in : (len : ℕ) → part_no r len k ≡ 0 → {a : Answer Run} → a ≡ if_done (refuse (no_row (plane_of r k) l j y) 19) (run_in_of r k l j y) no_run → a ≡ place_in_answer r len k l j y
  unfolding row_in_no
  placed_in len e at = at ∙ rw e refl

  pub refused_in : (len : ℕ) (f : Refusal) → number f ≡ part_no r len k → answer (number f) no_run ≡ place_in_answer r len k l j y
  unfolding row_in_no
  refused_in len f e = refused (row_in_no r len k l j y) f (run_in_of r k l j y) no_run (e ∙ then_kept f (part_no r len k) (refuse (no_row (plane_of r k) l j y) 19) e)

  -- a refusal of the planes is the row's
  pub refused_planes : (len : ℕ) (f : Refusal) → number f ≡ planes_no r → answer (number f) no_run ≡ place_in_answer r len k l j y
  refused_planes len f e =
      let short = refuse (ltb len (joined_end r)) 11 in
      let first = then_kept f (planes_no r) short e in
      refused_in len f (e ∙ first ∙ then_kept f (planes_no r then short) (refuse (leb 3 k) 19) (e ∙ first))

  -- where the answer says that the row lies, it ends in the frame
  pub ends_in : (len : ℕ) → (place_in_answer r len k l j y).value.offset + (place_in_answer r len k l j y).value.length ≤ len
  unfolding row_in_no
  ends_in len =
      run_ends (row_in_no r len k l j y) len (run_in_of r k l j y)
      (λ passed.
      let none = refuse (no_row (plane_of r k) l j y) 19 in
      let part = there r len k (then_first (part_no r len k) none passed) in
      omega (arith, ends_alone part.planes (refuse_not (no_row (plane_of r k) l j y) 18 (then_rest (part_no r len k) none passed)), part_ends r k part.part, part.end))

  -- by what a call told, the row or none
  pub row_told : (f : List ℕ) {n : ℕ} {at : Run} → answer n at ≡ place_in_answer r (length f) k l j y → take at.length (drop at.offset f) ≡ row_in_part r f k l j y
  unfolding row_in_part
  row_told f e = ap (λ (x : Answer Run). take x.value.length (drop x.value.offset f)) e

  pub from_told : (len : ℕ) {n : ℕ} {at : Run} → answer n at ≡ place_in_answer r len k l j y → at.offset ≡ row_in_from r len k l j y
  from_told len e = ap (λ (x : Answer Run). x.value.offset) e
