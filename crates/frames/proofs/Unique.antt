-- One outcome: no second answer, row, frame, spill or scratch meets the contract of a public call (`OneOutcome`), by one law (`determined`). Assumes nothing.
use mathlib.Core.List.{List}
use Prim.Native.Nat.{ℕ}
use contract.Lifetimes.{Lfts}
use Rattle.std.specs.Prelude.{Result, ⊤}
use Rattle.settings.specs.declared.refusal.Refusal.{Refusal}
use Rattle.settings.proofs.Outcome.{OneOutcome, determined, itself}
use Rattle.settings.proofs.Known.{outcome_known}
use Rattle.layouts.specs.Answers.{no_run}
use Rattle.planes.proofs.Whole.{one_left}
use Rattle.frames.specs.Parts.{no_parts}
use Rattle.frames.proofs.parts.frame_parts.Reads as frame_parts_reads
use Rattle.frames.proofs.parts.frame_row_place.Reads as frame_row_place_reads
use Rattle.frames.proofs.parts.frame_row.Reads as frame_row_reads
use Rattle.frames.proofs.build.build_frame.Reads as build_frame_reads

pub frame_parts_unique : (κs : Lfts 0) → OneOutcome (frame_parts_reads.Post κs) (λ r e. r)
frame_parts_unique κs x r s e f p q = determined (outcome_known no_parts) p q

pub frame_row_place_unique : (κs : Lfts 0) → OneOutcome (frame_row_place_reads.Post κs) (λ r e. r)
frame_row_place_unique κs x r s e f p q = determined (outcome_known no_run) p q

-- the bytes of the row, and where they lie
pub frame_row_unique : (κs : Lfts 1) → OneOutcome {O = (ℕ × ℕ) × List ℕ} (frame_row_reads.Post κs) (λ r e. (r.ref_ptr, r.now))
frame_row_unique κs x r s e f p q = rw (determined itself p.0 q.0, determined itself p.1 q.1)

-- the answer, the frame, and what spill and scratch are left as
pub build_frame_unique : (κs : Lfts 6) → OneOutcome {O = Result ⊤ Refusal × List ℕ × List ℕ × List ℕ} (build_frame_reads.Post κs) (λ r e. (r, e.0.now, e.1.0.now, e.1.1.0.now))
build_frame_unique κs x r s e f p q = one_left p q
