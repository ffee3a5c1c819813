-- `with_digits` calls itself: the measure is how many digits there are at most.
use Rattle.lines.proofs.text.Line.+with_digits.Given as goal

abbrev pub decreases-with_digits : goal.decreases-with_digits
decreases-with_digits l = l.most
