-- `put_framed` meets its contract. Assumes nothing.
use mathlib.Core.Path.{◌∙◌}
use Rattle.longhands.proofs.Bytes.{le_2, le_4}
use Rattle.longhands.proofs.Longhands.{frame_put}
use Rattle.longhands.proofs.longhand.put_framed.Goals as goal

pub returns : goal.returns
returns c =
    let a = c.args in
    frame_put a.kind a.body.now a.out.now (c.to_le_bytes.ensures ∙ le_4 _) (c.to_le_bytes-2.ensures ∙ le_2 _) c.put.ensures c.put-2.ensures c.put-3.ensures
