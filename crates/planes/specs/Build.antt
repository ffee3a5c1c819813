-- Document 01, "How a plane is built": the whole, in the document's order, with a switch for the fused path; then the document's own build, where it is on; last the number and value.
use Rattle.std.specs.Prelude.{◌≡◌, ℕ, ◌+◌, ◌*◌, ◌-◌, Bool, true, cond, ◌&&◌, ◌||◌, List, ◌++◌, leb, ltb, eqb, length, take, replicate, Option, Some, None}
use Rattle.settings.specs.declared.super_opts.SuperOpts.{SuperOpts}
use Rattle.settings.specs.Numbers.{to_nat}
use Rattle.settings.specs.Check.{pel_of}
use Rattle.settings.specs.Answers.{Answer, answer, if_done}
use Rattle.filters.specs.declared.halving.ReduceFilter.{ReduceFilter}
use Rattle.filters.specs.Halve.{chosen}
use Rattle.filters.specs.Refine.{upscale}
use Rattle.layouts.specs.declared.layout.Layout.{Layout}
use Rattle.layouts.specs.Storing.{put, steps}
use Rattle.layouts.specs.Layout.{levels_of, width_at, height_at, offset_at, region_at, spill_need}
use Rattle.layouts.specs.Margins.{fused_at}
use Rattle.stored.specs.Layout.{view_of}
use Rattle.lookups.specs.Refusals.{stored_build_no}
use Rattle.builder.specs.declared.refining.Interp.{Interp}
use Rattle.builder.specs.Canvas.{fetch, ◌▷◌}
use Rattle.builder.specs.Halving.{from_stored, fused, from_source}
use Rattle.builder.specs.Refining.{refine}

-- level 0's planes
abbrev pub planes_of : Layout → Interp
planes_of q = record { pitch = q.pitch; width = width_at q 0; height = height_at q 0 }

-- "Level 0, if full: h rows of w bytes copied", from the source plane src, whose rows are sp apart
unfoldable pub copied : Layout → List ℕ → ℕ → List ℕ → List ℕ
copied q src sp c = steps (λ y d. put d (y * q.pitch) (fetch src (y * sp) (width_at q 0))) (height_at q 0) c

-- level l, by the filter f, in a frame of len bytes: "Fused cubic is taken when the source level is stored and `cubic_fits` holds"; "Not full: level 1 comes from the source plane"
-- fuse: whether the fused path may be taken; document 01's build is the one where it may ("on")
unfoldable pub level_by : Bool → Layout → List ℕ → ℕ → ℕ → ReduceFilter → ℕ → List ℕ → List ℕ
level_by fuse q src sp len f l c =
    let base = offset_at q (l - 1) in
    cond (fuse && fused_at q len l) (fused base q.pitch (region_at q l) c)
    (cond (q.opts.full || leb 2 l) (from_stored f base q.pitch (region_at q l) c) (from_source f src sp q.pitch (region_at q l) c))

-- "any other value leaves later levels unwritten"
unfoldable pub halved_by : Bool → Layout → List ℕ → ℕ → ℕ → Option ReduceFilter → List ℕ → List ℕ
halved_by fuse q src sp len (Some f) c = steps (λ i. level_by fuse q src sp len f (i + 1)) (levels_of q - 1) c
halved_by fuse q src sp len None c = c

-- "Refining, after halving, if pel > 1, gpu < 2 and full."
abbrev pub refines : Layout → Bool
refines q = ltb 1 (pel_of q.opts) && ltb (to_nat q.opts.gpu) 2 && q.opts.full

unfoldable pub refined : Layout → List ℕ → List ℕ
refined q c = cond (refines q) (refine (planes_of q) (pel_of q.opts) (upscale q.opts.scale_up) c) c

-- the canvas c after a build in a frame of len bytes: "With no level, no frame byte is written."
unfoldable pub built_by : Bool → Layout → List ℕ → ℕ → ℕ → List ℕ → List ℕ
built_by fuse q src sp len c =
    let first = cond q.opts.full (copied q src sp c) c in
    cond (eqb (levels_of q) 0) c (first ▷ halved_by fuse q src sp len (chosen q.opts.scale_down) ▷ refined q)

-- "A byte stored past the frame goes to the spill", which holds zeros before; what is left is the frame
unfoldable pub frame_by : Bool → Layout → List ℕ → ℕ → List ℕ → List ℕ
frame_by fuse q src sp f = take (length f) (built_by fuse q src sp (length f) (f ++ replicate (spill_need q) 0))

-- ---- document 01's own build: the switch is on
abbrev pub halve_level : Layout → List ℕ → ℕ → ℕ → ReduceFilter → ℕ → List ℕ → List ℕ
halve_level = level_by true

abbrev pub halved : Layout → List ℕ → ℕ → ℕ → Option ReduceFilter → List ℕ → List ℕ
halved = halved_by true

abbrev pub built : Layout → List ℕ → ℕ → ℕ → List ℕ → List ℕ
built = built_by true

abbrev pub built_frame : Layout → List ℕ → ℕ → List ℕ → List ℕ
built_frame = frame_by true

-- ---- its number and value
-- building, by what it is lent
abbrev pub plane_no : SuperOpts → List ℕ → List ℕ → ℕ → List ℕ → List ℕ → List ℕ → ℕ
plane_no r s src sp frame spill scratch = stored_build_no r s (length src) sp (length frame) (length spill) (length scratch)

-- by its number, with the frame that it leaves
abbrev pub answer_by : Bool → ℕ → Layout → List ℕ → ℕ → List ℕ → Answer (List ℕ)
answer_by fuse n q src sp f = if_done n (frame_by fuse q src sp f) f

abbrev pub build_answer : ℕ → Layout → List ℕ → ℕ → List ℕ → Answer (List ℕ)
build_answer = answer_by true

-- spill or scratch: "After a finished build, spill and scratch are zero throughout"; "no refusal changes a lent byte"
abbrev pub lent_after : ℕ → List ℕ → Answer (List ℕ)
lent_after n lent = if_done n (replicate (length lent) 0) lent

-- what a build of number k, of the record r and the stored layout s, leaves in the frame, in spill and in scratch
abbrev pub LeavesBy : Bool → SuperOpts → List ℕ → List ℕ → ℕ → List ℕ → List ℕ → List ℕ → ℕ → List ℕ → List ℕ → List ℕ → Type 0
LeavesBy fuse r s src sp frame spill scratch k frame' spill' scratch' =
    let n = plane_no r s src sp frame spill scratch in
    (answer k frame' ≡ answer_by fuse n (view_of r s) src sp frame) × (answer k spill' ≡ lent_after n spill) × (answer k scratch' ≡ lent_after n scratch)

abbrev pub BuildLeaves : SuperOpts → List ℕ → List ℕ → ℕ → List ℕ → List ℕ → List ℕ → ℕ → List ℕ → List ℕ → List ℕ → Type 0
BuildLeaves = LeavesBy true
