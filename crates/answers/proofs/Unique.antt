-- One outcome: no second answer and no other lent slice meets the contract of a public call (`OneOutcome`), by one law (`determined`). What is seen of a call that puts an answer is its number with the slice. Assumes nothing.
use contract.Lifetimes.{Lfts}
use Rattle.settings.specs.Answers.{answer}
use Rattle.settings.proofs.Outcome.{OneOutcome, determined, itself}
use Rattle.answers.proofs.given.settings_of.Reads as settings_of_reads
use Rattle.answers.proofs.record.record_of.Reads as record_of_reads
use Rattle.answers.proofs.record.numbers_of.Reads as numbers_of_reads
use Rattle.answers.proofs.record.flag.Reads as flag_reads
use Rattle.answers.proofs.told.told_numbers.Reads as told_numbers_reads
use Rattle.answers.proofs.sizes.need_numbers.Reads as need_numbers_reads
use Rattle.answers.proofs.sizes.parts_numbers.Reads as parts_numbers_reads
use Rattle.answers.proofs.room.number.Reads as number_reads
use Rattle.answers.proofs.room.lowest.Reads as lowest_reads
use Rattle.answers.proofs.room.no_room.Reads as no_room_reads
use Rattle.answers.proofs.room.put.Reads as put_reads
use Rattle.answers.proofs.room.put_layout.Reads as put_layout_reads
use Rattle.answers.proofs.sizes.plane_numbers.Reads as plane_numbers_reads

pub settings_of_unique : (κs : Lfts 0) → OneOutcome (settings_of_reads.Post κs) (λ r e. r)
settings_of_unique κs x r s e f p q = determined itself p q

pub record_of_unique : (κs : Lfts 1) → OneOutcome (record_of_reads.Post κs) (λ r e. r)
record_of_unique κs x r s e f p q = determined itself p q

pub numbers_of_unique : (κs : Lfts 0) → OneOutcome (numbers_of_reads.Post κs) (λ r e. r)
numbers_of_unique κs x r s e f p q = determined itself p q

pub flag_unique : (κs : Lfts 0) → OneOutcome (flag_reads.Post κs) (λ r e. r)
flag_unique κs x r s e f p q = determined itself p q

pub told_numbers_unique : (κs : Lfts 0) → OneOutcome (told_numbers_reads.Post κs) (λ r e. r)
told_numbers_unique κs x r s e f p q = determined itself p q

pub need_numbers_unique : (κs : Lfts 0) → OneOutcome (need_numbers_reads.Post κs) (λ r e. r)
need_numbers_unique κs x r s e f p q = determined itself p q

pub parts_numbers_unique : (κs : Lfts 0) → OneOutcome (parts_numbers_reads.Post κs) (λ r e. r)
parts_numbers_unique κs x r s e f p q = determined itself p q

pub number_unique : (κs : Lfts 0) → OneOutcome (number_reads.Post κs) (λ r e. r)
number_unique κs x r s e f p q = determined itself p q

pub lowest_unique : (κs : Lfts 0) → OneOutcome (lowest_reads.Post κs) (λ r e. r)
lowest_unique κs x r s e f p q = determined itself p q

pub no_room_unique : (κs : Lfts 0) → OneOutcome (no_room_reads.Post κs) (λ r e. r)
no_room_unique κs x r s e f p q = determined itself p q

pub put_unique : (g : _) (b : _) (t : _) (d : _) (d' : _) (κs : Lfts 3) → OneOutcome (put_reads.Post g b t d d' κs) (λ r e. answer r e.0.now)
put_unique g b t d d' κs x r s e f p q = determined itself p q

pub put_layout_unique : (κs : Lfts 1) → OneOutcome (put_layout_reads.Post κs) (λ r e. answer r e.0.now)
put_layout_unique κs x r s e f p q = determined itself p q

pub plane_numbers_unique : (κs : Lfts 0) → OneOutcome (plane_numbers_reads.Post κs) (λ r e. r)
plane_numbers_unique κs x r s e f p q = determined itself p q
