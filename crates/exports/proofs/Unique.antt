-- One outcome: no second number and no other lent slice meets the contract of an exported call (`OneOutcome`), by one law (`determined`). What is seen of a call is its number with each slice that it writes. Assumes nothing.
use mathlib.Core.List.{List}
use Prim.Native.Nat.{ℕ}
use lib.IntN.{ℤ}
use contract.Lifetimes.{Lfts}
use Rattle.settings.specs.Answers.{Answer, answer}
use Rattle.settings.proofs.Outcome.{OneOutcome, determined, itself}
use Rattle.exports.proofs.words.sill_check.Reads as sill_check_reads
use Rattle.exports.proofs.words.sill_accepted.Reads as sill_accepted_reads
use Rattle.exports.proofs.words.sill_pack_data.Reads as sill_pack_data_reads
use Rattle.exports.proofs.words.sill_read_word.Reads as sill_read_word_reads
use Rattle.exports.proofs.words.sill_prepare_alike.Reads as sill_prepare_alike_reads
use Rattle.exports.proofs.words.sill_super_sizes.Reads as sill_super_sizes_reads
use Rattle.exports.proofs.longhand.sill_longhand_write.Reads as sill_longhand_write_reads
use Rattle.exports.proofs.longhand.sill_longhand_read.Reads as sill_longhand_read_reads
use Rattle.exports.proofs.plane.sill_layout.Reads as sill_layout_reads
use Rattle.exports.proofs.plane.sill_layout_change.Reads as sill_layout_change_reads
use Rattle.exports.proofs.plane.sill_level_plane.Reads as sill_level_plane_reads
use Rattle.exports.proofs.plane.sill_written_end.Reads as sill_written_end_reads
use Rattle.exports.proofs.plane.sill_needs.Reads as sill_needs_reads
use Rattle.exports.proofs.plane.sill_clear_margins.Reads as sill_clear_margins_reads
use Rattle.exports.proofs.plane.sill_row.Reads as sill_row_reads
use Rattle.exports.proofs.plane.sill_build_plane.Reads as sill_build_plane_reads
use Rattle.exports.proofs.frame.sill_frame_parts.Reads as sill_frame_parts_reads
use Rattle.exports.proofs.frame.sill_frame_row.Reads as sill_frame_row_reads
use Rattle.exports.proofs.frame.sill_build_frame.Reads as sill_build_frame_reads

pub sill_check_unique : (κs : Lfts 1) → OneOutcome (sill_check_reads.Post κs) (λ r e. answer r e.1.1.1.1.1.1.1.1.1.1.0.now)
sill_check_unique κs x r s e f p q = determined itself p q

pub sill_accepted_unique : (κs : Lfts 1) → OneOutcome (sill_accepted_reads.Post κs) (λ r e. r)
sill_accepted_unique κs x r s e f p q = determined itself p q

pub sill_pack_data_unique : (κs : Lfts 2) → OneOutcome (sill_pack_data_reads.Post κs) (λ r e. answer r e.1.0.now)
sill_pack_data_unique κs x r s e f p q = determined itself p q

pub sill_read_word_unique : (κs : Lfts 1) → OneOutcome (sill_read_word_reads.Post κs) (λ r e. answer r e.1.0.now)
sill_read_word_unique κs x r s e f p q = determined itself p q

pub sill_prepare_alike_unique : (κs : Lfts 0) → OneOutcome (sill_prepare_alike_reads.Post κs) (λ r e. r)
sill_prepare_alike_unique κs x r s e f p q = determined itself p q

pub sill_super_sizes_unique : (κs : Lfts 2) → OneOutcome (sill_super_sizes_reads.Post κs) (λ r e. answer r e.1.0.now)
sill_super_sizes_unique κs x r s e f p q = determined itself p q

pub sill_longhand_write_unique : (κs : Lfts 2) → OneOutcome (sill_longhand_write_reads.Post κs) (λ r e. answer r e.1.0.now)
sill_longhand_write_unique κs x r s e f p q = determined itself p q

-- with the record's numbers and with the place
pub sill_longhand_read_unique : (κs : Lfts 3) → OneOutcome {O = Answer (List ℤ) × Answer (List ℕ)} (sill_longhand_read_reads.Post κs) (λ r e. (answer r e.1.0.now, answer r e.1.1.0.now))
sill_longhand_read_unique κs x r s e f p q = rw (determined itself p.0 q.0, determined itself p.1 q.1)

pub sill_layout_unique : (κs : Lfts 2) → OneOutcome (sill_layout_reads.Post κs) (λ r e. answer r e.1.1.1.1.0.now)
sill_layout_unique κs x r s e f p q = determined itself p q

pub sill_layout_change_unique : (κs : Lfts 2) → OneOutcome (sill_layout_change_reads.Post κs) (λ r e. answer r e.1.0.now)
sill_layout_change_unique κs x r s e f p q = determined itself p q

pub sill_written_end_unique : (κs : Lfts 3) → OneOutcome (sill_written_end_reads.Post κs) (λ r e. answer r e.1.1.0.now)
sill_written_end_unique κs x r s e f p q = determined itself p q

pub sill_needs_unique : (κs : Lfts 3) → OneOutcome (sill_needs_reads.Post κs) (λ r e. answer r e.1.1.0.now)
sill_needs_unique κs x r s e f p q = determined itself p q

pub sill_clear_margins_unique : (κs : Lfts 3) → OneOutcome (sill_clear_margins_reads.Post κs) (λ r e. answer r e.0.now)
sill_clear_margins_unique κs x r s e f p q = determined itself p q

pub sill_row_unique : (κs : Lfts 3) → OneOutcome (sill_row_reads.Post κs) (λ r e. answer r e.1.1.1.1.1.1.0.now)
sill_row_unique κs x r s e f p q = determined itself p q

pub sill_level_plane_unique : (κs : Lfts 3) → OneOutcome (sill_level_plane_reads.Post κs) (λ r e. answer r e.1.1.1.1.1.0.now)
sill_level_plane_unique κs x r s e f p q = determined itself p q

-- with the frame, with what spill and with what scratch is left as
pub sill_build_plane_unique : (κs : Lfts 6) → OneOutcome {O = Answer (List ℕ) × Answer (List ℕ) × Answer (List ℕ)} (sill_build_plane_reads.Post κs) (λ r e. (answer r e.0.now, answer r e.1.0.now, answer r e.1.1.0.now))
sill_build_plane_unique κs x r s e f p q = rw (determined itself p.0 q.0, determined itself p.1 q.1, determined itself p.2 q.2)

pub sill_frame_parts_unique : (κs : Lfts 2) → OneOutcome (sill_frame_parts_reads.Post κs) (λ r e. answer r e.1.0.now)
sill_frame_parts_unique κs x r s e f p q = determined itself p q

pub sill_frame_row_unique : (κs : Lfts 2) → OneOutcome (sill_frame_row_reads.Post κs) (λ r e. answer r e.1.1.1.1.1.1.0.now)
sill_frame_row_unique κs x r s e f p q = determined itself p q

-- as `sill_build_plane_unique`
pub sill_build_frame_unique : (κs : Lfts 7) → OneOutcome {O = Answer (List ℕ) × Answer (List ℕ) × Answer (List ℕ)} (sill_build_frame_reads.Post κs) (λ r e. (answer r e.0.now, answer r e.1.0.now, answer r e.1.1.0.now))
sill_build_frame_unique κs x r s e f p q = rw (determined itself p.0 q.0, determined itself p.1 q.1, determined itself p.2 q.2)
