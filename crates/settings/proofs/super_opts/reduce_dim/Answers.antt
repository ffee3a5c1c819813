use mathlib.Core.Path.{refl, sym, ap, ◌∙◌}
use native.Mathlib.Omega.{arith}
use Rattle.settings.specs.Sizes.{reduce, reduced}
use Rattle.settings.proofs.Levels.{reduced_next}
use Rattle.settings.proofs.super_opts.reduce_dim.Goals as goal

pub loop-init : goal.loop-init
unfolding reduced
loop-init c = (refl, omega arith)

pub loop-preserved : goal.loop-preserved
loop-preserved c = (c.reduce_once-d.ensures ∙ ap reduce c.loop.invariant.0 ∙ sym (reduced_next c.args.dim c.loop.counter), omega arith)
