-- `put_lines` meets its contract. So far the lines passed stand there. Assumes nothing.
use lib.ListN.{length}
use Rattle.line_answers.proofs.Printing.{Begun}
use Rattle.line_answers.proofs.put_lines.Given as goal

abbrev pub invariant-loop-rest : goal.invariant-loop-rest
invariant-loop-rest g l = Begun g.P.Program.line_for l.input l.initial.out l.rest l.n l.out

abbrev pub decreases-loop-rest : goal.decreases-loop-rest
decreases-loop-rest g l = length l.rest
