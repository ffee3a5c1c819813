-- `with_hex_bytes` meets its contract. So far the bytes passed stand there. Assumes nothing.
use Prim.Native.Nat.{◌*◌, ◌≤◌}
use lib.ListN.{length, take}
use Rattle.lines.specs.Text.{Appended}
use Rattle.longhand_lines.specs.Hex.{hex_text}
use Rattle.longhand_lines.proofs.hex.with_hex_bytes.Given as goal

abbrev pub invariant-loop-b : goal.invariant-loop-b
invariant-loop-b l = Appended l.initial.next l.next (hex_text (take l.b-index l.bytes)) (2 * l.b-index) × (l.b-index ≤ length l.bytes)
