-- One outcome: no second answer meets the contract of a public call (`OneOutcome`). None of these calls is lent anything to write. Assumes nothing.
use mathlib.Core.Path.{sym, ◌∙◌}
use contract.Lifetimes.{Lfts}
use Rattle.settings.proofs.Outcome.{OneOutcome, determined, itself}
use Rattle.lines.proofs.text.all_digits.Reads as all_digits_reads
use Rattle.lines.proofs.text.hex_of.Reads as hex_of_reads
use Rattle.lines.proofs.text.number_of.Reads as number_of_reads
use Rattle.lines.proofs.text.hex_word.Reads as hex_word_reads
use Rattle.lines.proofs.text.Line.new.Reads as new_reads
use Rattle.lines.proofs.text.Line.as_bytes.Reads as as_bytes_reads
use Rattle.lines.proofs.text.line_out.Reads as line_out_reads
use Rattle.lines.proofs.parting.bytes_before.Reads as bytes_before_reads

pub all_digits_unique : (κs : Lfts 1) → OneOutcome (all_digits_reads.Post κs) (λ r e. r)
all_digits_unique κs x r s e f p q = determined itself p q

pub hex_of_unique : (κs : Lfts 0) → OneOutcome (hex_of_reads.Post κs) (λ r e. r)
hex_of_unique κs x r s e f p q = determined itself p.0 q.0

pub number_of_unique : (κs : Lfts 1) → OneOutcome (number_of_reads.Post κs) (λ r e. r)
number_of_unique κs x r s e f p q = determined itself p q

pub hex_word_unique : (κs : Lfts 1) → OneOutcome (hex_word_reads.Post κs) (λ r e. r)
hex_word_unique κs x r s e f p q = determined itself p q

pub new_unique : (κs : Lfts 0) → OneOutcome (new_reads.Post κs) (λ r e. r)
new_unique κs x r s e f p q = p ∙ sym q

pub as_bytes_unique : (κs : Lfts 1) → OneOutcome (as_bytes_reads.Post κs) (λ r e. r.now)
as_bytes_unique κs x r s e f p q = determined itself p q

pub line_out_unique : (κs : Lfts 1) → OneOutcome (line_out_reads.Post κs) (λ r e. r)
line_out_unique κs x r s e f p q = determined itself p.text q.text

pub bytes_before_unique : (κs : Lfts 1) → OneOutcome (bytes_before_reads.Post κs) (λ r e. r)
bytes_before_unique κs x r s e f p q = determined itself p.0 q.0
