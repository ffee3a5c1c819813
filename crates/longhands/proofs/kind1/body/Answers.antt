-- `body` meets its contract. Assumes nothing.
use mathlib.Core.Path.{ap, ◌∙◌}
use mir.Syntax.{w16}
use borrow.Author.Rules.{rules}
use Rattle.std.specs.Int.{to_le_bytes}
use Rattle.settings.proofs.Integers.{same}
use Rattle.settings.proofs.Fields.{FieldsFit}
use Rattle.longhands.specs.LittleEndian.{little_endian}
use Rattle.longhands.specs.Kind1.{kind1_body}
use Rattle.longhands.proofs.Bytes.{le_low, le_4}
use Rattle.longhands.proofs.kind1.body.Goals as goal

pub returns : goal.returns
unfolding kind1_body little_endian
returns c =
    let r = c.args.opts in
    let f : FieldsFit r = search rules in
    let width = c.to_le_bytes-width.ensures ∙ ap (to_le_bytes w16) c.low_16.ensures ∙ le_low c.naturals-n.result.width in
    let height = c.to_le_bytes-height.ensures ∙ ap (to_le_bytes w16) c.low_16-2.ensures ∙ le_low c.naturals-n.result.height in
    let down = c.to_le_bytes-down.ensures ∙ le_4 c.to_bits.result in
    let up = c.to_le_bytes-up.ensures ∙ le_4 c.to_bits-2.result in
    rw (up, c.to_bits-2.ensures, down, c.to_bits.ensures, height, width, c.naturals-n.ensures, c.flags.ensures)
    (rw (same r.scale_down f.down, same r.scale_up f.up))
