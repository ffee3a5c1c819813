-- `layout` meets its contract. Assumes nothing.
use mathlib.Core.Path.{ap, ◌∙◌}
use Rattle.layouts.specs.Refusals.{layout_no}
use Rattle.stored.proofs.Exact.{passed, passed_view}
use Rattle.stored.proofs.passed.Stored.layout.Goals as goal

pub view-layout-requires : goal.view-layout-requires
view-layout-requires c = passed_view _ _ (passed _ _ c.args.self.passes)

pub invariant_of-result : goal.invariant_of-result
invariant_of-result c = record { fits = ap layout_no c.view-layout.ensures ∙ (passed _ _ c.args.self.passes).layout }
