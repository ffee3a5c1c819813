-- One outcome: no second answer meets the contract of the public call (`OneOutcome`). Assumes nothing.
use contract.Lifetimes.{Lfts}
use Rattle.settings.proofs.Outcome.{OneOutcome, determined, itself}
use Rattle.longhand_lines.proofs.longhand.longhand_line.Reads as longhand_line_reads

pub longhand_line_unique : (κs : Lfts 1) → OneOutcome (longhand_line_reads.Post κs) (λ r e. r)
longhand_line_unique κs x r s e f p q = determined itself p.text q.text
