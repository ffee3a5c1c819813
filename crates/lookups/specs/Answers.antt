-- The number and value of a call that takes a stored layout, and of each answer.
use Rattle.std.specs.Prelude.{ℕ, ◌+◌, ◌*◌, cond, List, [], eqb, length, take, drop, Result}
use Rattle.settings.specs.declared.refusal.Refusal.{Refusal}
use Rattle.settings.specs.declared.super_opts.SuperOpts.{SuperOpts}
use Rattle.settings.specs.Answers.{Answer, if_done, outcome}
use Rattle.layouts.specs.declared.layout.Layout.{Layout}
use Rattle.layouts.specs.declared.layout.Needs.{Needs}
use Rattle.layouts.specs.declared.rows.Run.{Run}
use Rattle.layouts.specs.Layout.{width_at, height_at, offset_at, row_start, written_end}
use Rattle.layouts.specs.Margins.{cleared}
use Rattle.layouts.specs.Answers.{needs_of, no_needs, run_of, no_run}
use Rattle.stored.specs.Layout.{view_of}
use Rattle.stored.specs.Refusals.{stored_no}
use Rattle.lookups.specs.declared.rows.Plane.{Plane}
use Rattle.lookups.specs.Refusals.{frame_no, row_no, level_plane_no}

abbrev pub end_answer : SuperOpts → List ℕ → Answer ℕ
end_answer r s = if_done (stored_no r s) (written_end (view_of r s)) 0

abbrev pub needs_answer : SuperOpts → List ℕ → Answer Needs
needs_answer r s = if_done (stored_no r s) (needs_of (view_of r s)) no_needs

-- where row y of plane k of level l lies, in a frame of len bytes
abbrev pub place_answer : SuperOpts → List ℕ → ℕ → ℕ → ℕ → ℕ → Answer Run
place_answer r s len l k y = if_done (row_no r s len l k y) (run_of (view_of r s) l k y) no_run

-- "A row is its level's w bytes. A refused row is the empty part"
unfoldable pub row_part : SuperOpts → List ℕ → List ℕ → ℕ → ℕ → ℕ → List ℕ
row_part r s f l k y = let q = view_of r s in cond (eqb (row_no r s (length f) l k y) 0) (take (width_at q l) (drop (row_start q l k y) f)) []

-- "handed out as the caller's own frame bytes, never a copy": where in the frame it starts, at its front where it is refused
abbrev pub row_from : SuperOpts → List ℕ → ℕ → ℕ → ℕ → ℕ → ℕ
row_from r s len l k y = cond (eqb (row_no r s len l k y) 0) (row_start (view_of r s) l k y) 0

-- plane k of level l: where its first row starts, its width and height, and how far its rows are apart
abbrev pub level_plane : Layout → ℕ → ℕ → Plane
level_plane q l k = record { start = offset_at q l + k * height_at q l * q.pitch; width = width_at q l; height = height_at q l; pitch = q.pitch }

abbrev pub no_level_plane : Plane
no_level_plane = record { start = 0; width = 0; height = 0; pitch = 0 }

abbrev pub level_plane_answer : SuperOpts → List ℕ → ℕ → ℕ → ℕ → Answer Plane
level_plane_answer r s len l k = if_done (level_plane_no r s len l k) (level_plane (view_of r s) l k) no_level_plane

-- clearing margins, with the frame that it leaves: "no refusal changes a lent byte"
abbrev pub clear_answer : SuperOpts → List ℕ → List ℕ → Answer (List ℕ)
clear_answer r s f = if_done (frame_no r s (length f)) (cleared (view_of r s) f) f

-- ---- the answers
abbrev pub ended : Result ℕ Refusal → Answer ℕ
ended = outcome 0

abbrev pub needed : Result Needs Refusal → Answer Needs
needed = outcome no_needs

abbrev pub planed : Result Plane Refusal → Answer Plane
planed = outcome no_level_plane
