-- The numbers of a call that takes a stored layout: a refusal is kept by the tests after it; what comes where the layout isn't refused; that a build's is document 01's for the layout's view; last, the rows of a level's plane. Assumes nothing.
use mathlib.Core.Path.{◌≡◌, refl, sym, ap, ◌∙◌}
use mathlib.Core.Bool.{false}
use mathlib.Core.List.{List}
use Prim.Native.Nat.{ℕ, ◌+◌, ◌*◌, ◌≤◌, ◌<◌}
use native.Mathlib.Nat.{add-mul, add_assoc}
use lib.Dec.{ltb}
use borrow.Author.Tests.{ltb-false, lt-ltb, le-ltb, lt-leb}
use Rattle.settings.specs.declared.refusal.Refusal.{Refusal}
use Rattle.settings.specs.declared.super_opts.SuperOpts.{SuperOpts}
use Rattle.settings.specs.Numbers.{refuse, ◌then◌}
use Rattle.settings.specs.Answers.{number}
use Rattle.settings.proofs.Refusals.{then_first, then_rest, refuse_not}
use Rattle.layouts.specs.Layout.{width_at, height_at, offset_at, row_start, written_end}
use Rattle.layouts.specs.Refusals.{bad_pitch, no_row, lent_no, build_no}
use Rattle.layouts.proofs.Layouts.{Rowed, then_kept}
use Rattle.stored.specs.Layout.{view_of}
use Rattle.stored.specs.Refusals.{stored_no}
use Rattle.stored.proofs.Exact.{passed}
use Rattle.lookups.specs.Refusals.{frame_no, row_no, no_plane, level_plane_no, stored_build_no}
use Rattle.lookups.specs.Answers.{level_plane}

module _ (r : SuperOpts) (s : List ℕ) (len : ℕ) where
  pub frame_kept : (f : Refusal) → number f ≡ stored_no r s → number f ≡ frame_no r s len
  unfolding frame_no
  frame_kept f e = e ∙ then_kept f (stored_no r s) (refuse (ltb len (written_end (view_of r s))) 11) e

  pub row_kept : (f : Refusal) (l k y : ℕ) → number f ≡ frame_no r s len → number f ≡ row_no r s len l k y
  unfolding row_no
  row_kept f l k y e = e ∙ then_kept f (frame_no r s len) (refuse (no_row (view_of r s) l k y) 19) e

  pub plane_kept : (f : Refusal) (l k : ℕ) → number f ≡ frame_no r s len → number f ≡ level_plane_no r s len l k
  unfolding level_plane_no
  plane_kept f l k e = e ∙ then_kept f (frame_no r s len) (refuse (no_plane (view_of r s) l k) 19) e

  pub frame_short : stored_no r s ≡ 0 → len < written_end (view_of r s) → 11 ≡ frame_no r s len
  unfolding frame_no
  frame_short none lt = rw (none, lt-ltb len (written_end (view_of r s)) lt)

  pub frame_long : stored_no r s ≡ 0 → written_end (view_of r s) ≤ len → frame_no r s len ≡ 0
  unfolding frame_no
  frame_long none le = rw (none, le-ltb len (written_end (view_of r s)) le) refl

  pub row_last : (l k y : ℕ) → frame_no r s len ≡ 0 → refuse (no_row (view_of r s) l k y) 19 ≡ row_no r s len l k y
  unfolding row_no
  row_last l k y none = rw none

  pub plane_last : (l k : ℕ) → frame_no r s len ≡ 0 → refuse (no_plane (view_of r s) l k) 19 ≡ level_plane_no r s len l k
  unfolding level_plane_no
  plane_last l k none = rw none

  -- what a row that isn't refused has
  pub rowed : (l k y : ℕ) → row_no r s len l k y ≡ 0 → Rowed (view_of r s) len l k y
  unfolding row_no frame_no
  rowed l k y e =
      let short = refuse (ltb len (written_end (view_of r s))) 11 in
      let last = refuse (no_row (view_of r s) l k y) 19 in
      let frame = then_first (frame_no r s len) last e in
      record {
        frame = record {
          layout = (passed r s (then_first (stored_no r s) short frame)).layout;
          end = ltb-false len (written_end (view_of r s)) (refuse_not (ltb len (written_end (view_of r s))) 10 (then_rest (stored_no r s) short frame));
        };
        none = refuse_not (no_row (view_of r s) l k y) 18 (then_rest (frame_no r s len) last e);
      }

-- a build that isn't refused has a layout that isn't
pub build_stored : (r : SuperOpts) (s : List ℕ) (n sp len spill scratch : ℕ) → stored_build_no r s n sp len spill scratch ≡ 0 → stored_no r s ≡ 0
unfolding stored_build_no
build_stored r s n sp len spill scratch e =
    let second = refuse (bad_pitch sp (width_at (view_of r s) 0)) 9 in
    then_first (stored_no r s) second (then_first (stored_no r s then second) (lent_no (view_of r s) n sp len spill scratch) e)

-- a build's number, where the layout isn't refused, is that of its view
pub build_as_view : (r : SuperOpts) (s : List ℕ) (n sp len spill scratch : ℕ) → stored_no r s ≡ 0 → stored_build_no r s n sp len spill scratch ≡ build_no (view_of r s) n sp len spill scratch
unfolding stored_build_no build_no
build_as_view r s n sp len spill scratch none = rw (none, (passed r s none).layout)

-- "steps by the pitch": the rows of a level's plane that isn't refused are there, each its pitch after the one before
module _ (r : SuperOpts) (s : List ℕ) (len l k : ℕ) where
  pub plane_row : (y : ℕ) → level_plane_no r s len l k ≡ 0 → y < height_at (view_of r s) l → (row_no r s len l k y ≡ 0) × (row_start (view_of r s) l k y ≡ (level_plane (view_of r s) l k).start + y * (level_plane (view_of r s) l k).pitch)
  unfolding level_plane_no row_no
  plane_row y none lt =
      let q = view_of r s in
      let last = refuse (no_plane q l k) 19 in
      let there : no_plane q l k ≡ false = refuse_not (no_plane q l k) 18 (then_rest (frame_no r s len) last none) in
      (rw (then_first (frame_no r s len) last none, there, lt-leb (height_at q l) y lt) refl, ap (λ (n : ℕ). offset_at q l + n) (add-mul (k * height_at q l) y q.pitch) ∙ sym (add_assoc (offset_at q l) (k * height_at q l * q.pitch) (y * q.pitch)))
