use mathlib.Core.Path.{◌∙◌}
use native.Mathlib.Omega.{arith}
use Rattle.longhand_lines.proofs.Spelling.{spelled_more, spelled_whole}
use Rattle.longhand_lines.proofs.hex.spell.Goals as goal

pub loop-i-preserved : goal.loop-i-preserved
loop-i-preserved c =
    let pair = c.in-Some.pair.now in
    let step = c.in-Some.ensures.steps in
    let size = c.loop-i.invariant.1 in
    (spelled_more c.loop-i.invariant.0 pair step.0.1.0 (step.0.1.1 ∙ size) step.1 step.2 (omega (arith, c.requires.1)) (rw (c.hex_of.ensures.0, c.hex_of-in-loop-i.ensures.0)), step.0.0 ∙ size)

pub returns : goal.returns
returns c = spelled_whole c.loop-i.invariant.0 (omega (arith, c.in-None.ensures.steps.0.1.0, c.loop-i.invariant.1))
