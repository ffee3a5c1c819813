-- `frame_row` meets its contract. Assumes nothing.
use mathlib.Core.Path.{ap, ◌∙◌}
use lib.ListN.{length}
use Rattle.layouts.specs.Storing.{part_at}
use Rattle.frames.proofs.Rows.{ends_in, row_told, from_told}
use Rattle.frames.proofs.parts.frame_row.Goals as goal

pub hand_out-requires : goal.hand_out-requires
hand_out-requires c = let s = c.args in rw c.frame_row_place-at.ensures (ends_in s.opts s.part s.level s.plane s.y (length s.frame.now))

pub returns : goal.returns
returns c =
    let s = c.args in
    let e = c.frame_row_place-at.ensures in (
      c.hand_out.ensures.0 ∙ row_told s.opts s.part s.level s.plane s.y s.frame.now e,
      c.hand_out.ensures.1 ∙ ap (part_at s.frame) (from_told s.opts s.part s.level s.plane s.y (length s.frame.now) e),
    )
