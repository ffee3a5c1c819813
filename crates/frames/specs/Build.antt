-- Document 02, order 3: the whole frame in one call, from three sources src 0, src 1 and src 2, whose rows are sp 0, sp 1 and sp 2 apart.
-- First what there are three of; then the number; then what is left; last three calls in place of one.
use Rattle.std.specs.Prelude.{◌≡◌, ℕ, zero, suc, ◌≤◌, Bool, ◌||◌, List, ◌++◌, ltb, length, take, drop}
use Rattle.settings.specs.declared.super_opts.SuperOpts.{SuperOpts}
use Rattle.settings.specs.Numbers.{refuse, ◌then◌}
use Rattle.settings.specs.Answers.{answer, if_done}
use Rattle.layouts.specs.Layout.{width_at, spill_need, scratch_need}
use Rattle.layouts.specs.Refusals.{bad_pitch, source_need}
use Rattle.stored.specs.Layout.{stored_of}
use Rattle.planes.specs.Build.{built_frame, lent_after, BuildLeaves}
use Rattle.frames.specs.Parts.{plane_of, length_of, start_of, joined_end, planes_no}

-- Y's, U's and V's
abbrev pub three : {A : Type 0} → A → A → A → ℕ → A
three y u v zero = y
three y u v (suc zero) = u
three y u v (suc (suc k)) = v

-- "Y then U then V for each number"
abbrev pub any_of : (ℕ → Bool) → Bool
any_of bad = bad 0 || bad 1 || bad 2

-- what a call is lent: sources of n 0, n 1 and n 2 bytes, a frame of len bytes, so many of spill and scratch. "11 over the joined ends"; "Spill and scratch needs are luma's."
unfoldable pub lent_frame_no : SuperOpts → (ℕ → ℕ) → (ℕ → ℕ) → ℕ → ℕ → ℕ → ℕ
lent_frame_no r n sp len spill scratch =
    refuse (any_of (λ k. ltb (n k) (source_need (plane_of r k) (sp k)))) 10
    then refuse (ltb len (joined_end r)) 11
    then refuse (ltb spill (spill_need (plane_of r 0))) 12
    then refuse (ltb scratch (scratch_need (plane_of r 0))) 13

-- "23 .., 24 .., after 6; then 9 to 13 as before"
unfoldable pub build_frame_no : SuperOpts → (ℕ → ℕ) → (ℕ → ℕ) → ℕ → ℕ → ℕ → ℕ
build_frame_no r n sp len spill scratch =
    planes_no r
    then refuse (any_of (λ k. bad_pitch (sp k) (width_at (plane_of r k) 0))) 9
    then lent_frame_no r n sp len spill scratch

-- part k of the frame f
abbrev pub part_bytes : SuperOpts → ℕ → List ℕ → List ℕ
part_bytes r k f = take (length_of r k) (drop (start_of r k) f)

-- what document 01's build of plane k leaves in a frame that is its part alone
abbrev pub plane_left : SuperOpts → (ℕ → List ℕ) → (ℕ → ℕ) → List ℕ → ℕ → List ℕ
plane_left r src sp f k = built_frame (plane_of r k) (src k) (sp k) (part_bytes r k f)

-- the frame f with part k of it built
abbrev pub part_built : SuperOpts → ℕ → List ℕ → ℕ → List ℕ → List ℕ
part_built r k s p f = take (start_of r k) f ++ (built_frame (plane_of r k) s p (part_bytes r k f) ++ drop (start_of r (suc k)) f)

-- "joined in that order as `bytes` does. Bytes past the third stay."
unfoldable pub frame_left : SuperOpts → (ℕ → List ℕ) → (ℕ → ℕ) → List ℕ → List ℕ
frame_left r src sp f = plane_left r src sp f 0 ++ (plane_left r src sp f 1 ++ (plane_left r src sp f 2 ++ drop (joined_end r) f))

-- what a call of number k leaves in the frame, in spill and in scratch: "A refusal in any plane leaves all three untouched"
abbrev pub FrameLeaves : SuperOpts → (ℕ → List ℕ) → (ℕ → ℕ) → List ℕ → List ℕ → List ℕ → ℕ → List ℕ → List ℕ → List ℕ → Type 0
FrameLeaves r src sp frame spill scratch k frame' spill' scratch' =
    let n = build_frame_no r (λ j. length (src j)) sp (length frame) (length spill) (length scratch) in
    (answer k frame' ≡ if_done n (frame_left r src sp frame) frame) × (answer k spill' ≡ lent_after n spill) × (answer k scratch' ≡ lent_after n scratch)

-- ---- three calls of `build_plane` in place of one
-- what a call is lent beside its sources
pub record Lent : Type 0 where
  pub frame : List ℕ
  pub spill : List ℕ
  pub scratch : List ℕ

-- one of them, for plane k in its part of the frame: what it gives by its contract (`build_plane_contract` of `planes`) with the layout that making gives, and the part put back
pub record PlaneCall (r : SuperOpts) (src : ℕ → List ℕ) (sp : ℕ → ℕ) (k n : ℕ) (before after : Lent) : Type 0 where
  pub part : List ℕ
  pub leaves : BuildLeaves r (stored_of (plane_of r k)) (src k) (sp k) (part_bytes r k before.frame) before.spill before.scratch n part after.spill after.scratch
  pub joined : after.frame ≡ take (start_of r k) before.frame ++ (part ++ drop (start_of r (suc k)) before.frame)

-- the planes 0, 1 and 2 in an order: each of them once
pub record Once (i j k : ℕ) : Type 0 where
  pub first : i ≤ 2
  pub second : j ≤ 2
  pub third : k ≤ 2
  pub apart : (i ≡ j → ⊥) × (i ≡ k → ⊥) × (j ≡ k → ⊥)

-- one for each plane, in any order, what is lent going from call to call
pub record ByCalls (r : SuperOpts) (src : ℕ → List ℕ) (sp : ℕ → ℕ) (before after : Lent) : Type 0 where
  pub i : ℕ
  pub j : ℕ
  pub k : ℕ
  pub order : Once i j k
  pub numbers : ℕ → ℕ
  pub b : Lent
  pub c : Lent
  pub first : PlaneCall r src sp i (numbers 0) before b
  pub second : PlaneCall r src sp j (numbers 1) b c
  pub third : PlaneCall r src sp k (numbers 2) c after
