-- `number_of` meets its contract. So far the digits passed make the number. Assumes nothing.
use mathlib.Core.Path.{◌≡◌}
use Prim.Native.Nat.{◌<◌, ◌≤◌, ◌^◌}
use lib.ListN.{length, take}
use Rattle.lines.specs.Text.{number_of}
use Rattle.lines.proofs.text.number_of.Given as goal

abbrev pub invariant-loop-b : goal.invariant-loop-b
invariant-loop-b l = (l.v ≡ number_of l.base 0 (take l.b-index l.line)) × (l.v < 16 ^ l.b-index) × (l.b-index ≤ length l.line)
