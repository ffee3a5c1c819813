-- `row` meets its contract. Assumes nothing.
use mathlib.Core.Path.{◌≡◌, refl, ap, ◌∙◌}
use mathlib.Core.Bool.{Bool, true, false, cond}
use mathlib.Core.List.{List, []}
use Prim.Native.Nat.{ℕ, ◌+◌, ◌≤◌}
use lib.Dec.{eqb}
use lib.ListN.{length, take, drop}
use Rattle.settings.specs.declared.super_opts.SuperOpts.{SuperOpts}
use Rattle.settings.specs.Answers.{Answer}
use Rattle.layouts.specs.declared.rows.Run.{Run}
use Rattle.layouts.specs.Storing.{part_at}
use Rattle.layouts.specs.Answers.{run_of, no_run}
use Rattle.layouts.proofs.Layouts.{row_ends, run_ends}
use Rattle.stored.specs.Layout.{view_of}
use Rattle.lookups.specs.Refusals.{row_no}
use Rattle.lookups.specs.Answers.{place_answer, row_part, row_from}
use Rattle.lookups.proofs.Numbers.{rowed}
use Rattle.lookups.proofs.rows.row.Goals as goal

-- the bytes and the place of a run that is there, or isn't
bytes : (t : Bool) (r : Run) (f : List ℕ) → take (cond t r no_run).length (drop (cond t r no_run).offset f) ≡ cond t (take r.length (drop r.offset f)) []
bytes true r f = refl
bytes false r f = refl

start : (t : Bool) (r : Run) → (cond t r no_run).offset ≡ cond t r.offset 0
start true r = refl
start false r = refl

module _ (r : SuperOpts) (s : List ℕ) (l k y : ℕ) where
  ends : (len : ℕ) → (place_answer r s len l k y).value.offset + (place_answer r s len l k y).value.length ≤ len
  ends len = run_ends (row_no r s len l k y) len (run_of (view_of r s) l k y) (λ e. row_ends (view_of r s) len l k y (rowed r s len l k y e))

  row_bytes : (f : List ℕ) → take (place_answer r s (length f) l k y).value.length (drop (place_answer r s (length f) l k y).value.offset f) ≡ row_part r s f l k y
  unfolding row_part
  row_bytes f = bytes (eqb (row_no r s (length f) l k y) 0) (run_of (view_of r s) l k y) f

  row_from_lem : (len : ℕ) → (place_answer r s len l k y).value.offset ≡ row_from r s len l k y
  row_from_lem len = start (eqb (row_no r s len l k y) 0) (run_of (view_of r s) l k y)

pub hand_out-requires : goal.hand_out-requires
hand_out-requires c = let s = c.args in rw c.row_place-at.ensures (ends s.opts s.layout.now s.level s.plane s.y (length s.frame.now))

pub returns : goal.returns
returns c =
    let s = c.args in
    let e = c.row_place-at.ensures in (
      c.hand_out.ensures.0 ∙ ap (λ (a : Answer Run). take a.value.length (drop a.value.offset s.frame.now)) e ∙ row_bytes s.opts s.layout.now s.level s.plane s.y s.frame.now,
      c.hand_out.ensures.1 ∙ ap (λ (a : Answer Run). part_at s.frame a.value.offset) e ∙ ap (part_at s.frame) (row_from_lem s.opts s.layout.now s.level s.plane s.y (length s.frame.now)),
    )
