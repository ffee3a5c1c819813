-- One outcome: no second count of bytes, and no other bytes in the lent slice, meet the contract of the public call that has one (`OneOutcome`), whichever program prints. Assumes nothing.
use mathlib.Core.List.{List}
use Prim.Native.Nat.{ℕ}
use denote.Param.Laws.{Laws}
use denote.RattleType.{RattleType}
use mir.Syntax.{Dict}
use contract.Lifetimes.{Lfts}
use Rattle.settings.proofs.Outcome.{OneOutcome, determined, itself}
use Rattle.line_answers.specs.declared.Program.{Ghosts}
use Rattle.line_answers.proofs.output.Reads as output_reads

pub output_unique : (P : RattleType) (laws : Laws P) (program : Ghosts P.Denot) (d : Dict) (κs : Lfts 3) → OneOutcome {O = ℕ × List ℕ} (output_reads.Post P laws program d κs) (λ r e. (r, e.1.0.now))
output_unique P laws program d κs x r s e f p q = rw (determined itself p.count q.count, determined itself p.bytes q.bytes)
