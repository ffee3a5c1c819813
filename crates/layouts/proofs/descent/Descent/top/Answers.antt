-- `top` meets its contract. Assumes nothing.
use mathlib.Core.Path.{sym, ap}
use Rattle.settings.specs.declared.super_opts.Naturals.{Naturals}
use Rattle.settings.specs.Sizes.{reduced}
use Rattle.layouts.proofs.Layouts.{offset_first}
use Rattle.layouts.proofs.descent.Descent.top.Goals as goal

pub invariant_of-result : goal.invariant_of-result
unfolding reduced
invariant_of-result c =
    record {
      place = sym (offset_first c.args.layout);
      sides = (ap (λ (x : Naturals). x.width) c.naturals-n.ensures, ap (λ (x : Naturals). x.height) c.naturals-n.ensures);
    }
