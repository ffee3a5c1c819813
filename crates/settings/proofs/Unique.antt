-- One outcome: no second answer meets the contract of a public call (`OneOutcome`), by one law (`determined`). What is seen of a call is its answer. Assumes nothing.
use contract.Lifetimes.{Lfts}
use lib.IntN.{pos}
use Rattle.settings.specs.Inner.{plainly}
use Rattle.settings.specs.Answers.{no_record, no_description}
use Rattle.settings.proofs.super_opts.SuperOpts.from_opt.Reads as from_opt_reads
use Rattle.settings.proofs.super_opts.SuperOpts.pack_data.Reads as pack_data_reads
use Rattle.settings.proofs.super_opts.SuperOpts.super_height.Reads as super_height_reads
use Rattle.settings.proofs.super_opts.SuperOpts.super_width.Reads as super_width_reads
use Rattle.settings.proofs.super_opts.SuperOpts.accepted.Reads as accepted_reads
use Rattle.settings.proofs.super_opts.SuperOpts.as_accepted.Reads as as_accepted_reads
use Rattle.settings.proofs.super_opts.SuperOpts.naturals.Reads as naturals_reads
use Rattle.settings.proofs.refusal.Refusal.number.Reads as number_reads
use Rattle.settings.proofs.refusal.refuse_if.Reads as refuse_if_reads
use Rattle.settings.proofs.numbers.natural.Reads as natural_reads
use Rattle.settings.proofs.numbers.bit.Reads as bit_reads
use Rattle.settings.proofs.numbers.to_bits.Reads as to_bits_reads
use Rattle.settings.proofs.numbers.from_bits.Reads as from_bits_reads
use Rattle.settings.proofs.word.read_word.Reads as read_word_reads
use Rattle.settings.proofs.word.prepare_alike.Reads as prepare_alike_reads
use Rattle.settings.proofs.super_opts.reduce_dim.Reads as reduce_dim_reads
use Rattle.settings.proofs.Outcome.{OneOutcome, determined, itself}
use Rattle.settings.proofs.Known.{outcome_known}

pub from_opt_unique : (κs : Lfts 0) → OneOutcome (from_opt_reads.Post κs) (λ r e. r)
from_opt_unique κs x r s e f p q = determined (outcome_known no_record) p q

pub pack_data_unique : (κs : Lfts 0) → OneOutcome (pack_data_reads.Post κs) (λ r e. r)
pack_data_unique κs x r s e f p q = determined (outcome_known 0) p q

pub super_height_unique : (κs : Lfts 0) → OneOutcome (super_height_reads.Post κs) (λ r e. r)
super_height_unique κs x r s e f p q = determined (outcome_known (pos 0)) p q

pub super_width_unique : (κs : Lfts 0) → OneOutcome (super_width_reads.Post κs) (λ r e. r)
super_width_unique κs x r s e f p q = determined (outcome_known (pos 0)) p q

pub accepted_unique : (κs : Lfts 0) → OneOutcome (accepted_reads.Post κs) (λ r e. r)
accepted_unique κs x r s e f p q = determined itself p q

-- the record, or the refusal
pub as_accepted_unique : (κs : Lfts 0) → OneOutcome (as_accepted_reads.Post κs) (λ r e. plainly r)
as_accepted_unique κs x r s e f p q = determined (outcome_known x.0) p q

pub naturals_unique : (κs : Lfts 0) → OneOutcome (naturals_reads.Post κs) (λ r e. r)
naturals_unique κs x r s e f p q = determined itself p q

pub number_unique : (κs : Lfts 0) → OneOutcome (number_reads.Post κs) (λ r e. r)
number_unique κs x r s e f p q = determined itself p q

pub refuse_if_unique : (g : _) (t : _) (d : _) (κs : Lfts 1) → OneOutcome (refuse_if_reads.Post g t d κs) (λ r e. r)
refuse_if_unique g t d κs x r s e f p q = determined itself p q

pub natural_unique : (κs : Lfts 0) → OneOutcome (natural_reads.Post κs) (λ r e. r)
natural_unique κs x r s e f p q = determined itself p q

pub bit_unique : (κs : Lfts 0) → OneOutcome (bit_reads.Post κs) (λ r e. r)
bit_unique κs x r s e f p q = determined itself p.0 q.0

pub to_bits_unique : (κs : Lfts 0) → OneOutcome (to_bits_reads.Post κs) (λ r e. r)
to_bits_unique κs x r s e f p q = determined itself p q

pub from_bits_unique : (κs : Lfts 0) → OneOutcome (from_bits_reads.Post κs) (λ r e. r)
from_bits_unique κs x r s e f p q = determined itself p q

pub read_word_unique : (κs : Lfts 0) → OneOutcome (read_word_reads.Post κs) (λ r e. r)
read_word_unique κs x r s e f p q = determined (outcome_known no_description) p q

pub prepare_alike_unique : (κs : Lfts 0) → OneOutcome (prepare_alike_reads.Post κs) (λ r e. r)
prepare_alike_unique κs x r s e f p q = determined itself p q

pub reduce_dim_unique : (κs : Lfts 0) → OneOutcome (reduce_dim_reads.Post κs) (λ r e. r)
reduce_dim_unique κs x r s e f p q = determined itself p q
