-- `mean_at_once` meets its contract. Assumes nothing.
use mathlib.Core.Path.{refl, ◌∙◌}
use Rattle.builder.proofs.AtOnce.{three_planes, once_stages, once_planes}
use Rattle.builder.proofs.refining.Interp.mean_at_once.Goals as goal

pub mean_blocks-requires : goal.mean_blocks-requires
mean_blocks-requires c = let p = c.requires in (p.0, three_planes _ _ _ c.plane-across.ensures c.plane-below.ensures c.plane-both.ensures c.args.at.ordered p.1)

pub returns : goal.returns
returns c =
    let a = c.args in
    let p = c.requires in
    let ea = c.plane-across.ensures in
    let eb = c.plane-below.ensures in
    let ed = c.plane-both.ensures in
    once_stages p.0 (three_planes _ _ _ ea eb ed a.at.ordered p.1) p.1.fits a.frame.now _ _ _ refl c.mean_blocks.ensures c.copy_first_row.ensures c.copy_first_row-2.ensures
    ∙ once_planes a.self a.at.horizontal a.at.vertical a.at.diagonal _ _ _ ea eb ed a.frame.now
