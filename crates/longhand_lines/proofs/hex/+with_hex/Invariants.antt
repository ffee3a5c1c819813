-- `with_hex` calls itself: the measure is how many digits there are.
use Rattle.longhand_lines.proofs.hex.+with_hex.Given as goal

abbrev pub decreases-with_hex : goal.decreases-with_hex
decreases-with_hex l = l.count
