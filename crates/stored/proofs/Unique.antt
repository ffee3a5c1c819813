-- One outcome of a call that the crate keeps to itself: no second answer meets its contract (`OneOutcome`). Those that other crates make are in `demands`. Assumes nothing.
use contract.Lifetimes.{Lfts}
use Rattle.settings.proofs.Outcome.{OneOutcome, determined, itself}
use Rattle.stored.proofs.layout.view.Reads as view_reads

pub view_unique : (κs : Lfts 1) → OneOutcome (view_reads.Post κs) (λ r e. r)
view_unique κs x r s e f p q = determined itself p q
