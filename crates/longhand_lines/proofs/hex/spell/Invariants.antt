-- `spell` meets its contract. So far the bytes that the pairs passed spell stand there. Assumes nothing.
use mathlib.Core.Path.{◌≡◌}
use Rattle.longhand_lines.proofs.Spelling.{Spelled}
use Rattle.longhand_lines.proofs.hex.spell.Given as goal

abbrev pub invariant-loop-i : goal.invariant-loop-i
invariant-loop-i l = Spelled l.line l.out l.i-iterator.iter.rest.now l.i-iterator.count × (l.i-iterator.iter.size ≡ 2)
