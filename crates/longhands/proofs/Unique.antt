-- One outcome: no second answer meets the contract of reading or of writing a longhand record. What is seen of `read_longhand` is its answer; of `write_longhand`, its number with the slice that it is lent. Assumes nothing.
use contract.Lifetimes.{Lfts}
use Rattle.settings.specs.Answers.{answer, tested}
use Rattle.settings.proofs.Outcome.{OneOutcome, determined, itself}
use Rattle.longhands.proofs.longhand.read_longhand.Reads as read_longhand_reads
use Rattle.longhands.proofs.longhand.write_longhand.Reads as write_longhand_reads
use Rattle.longhands.proofs.Known.{read_known}

pub read_longhand_unique : (κs : Lfts 1) → OneOutcome (read_longhand_reads.Post κs) (λ r e. r)
read_longhand_unique κs x r s e f p q = determined read_known p q

pub write_longhand_unique : (κs : Lfts 1) → OneOutcome (write_longhand_reads.Post κs) (λ r e. answer (tested r) e.1.0.now)
write_longhand_unique κs x r s e f p q = determined itself p q
