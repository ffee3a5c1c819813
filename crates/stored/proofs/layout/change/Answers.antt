-- `change` meets its contract. Assumes nothing.
use mathlib.Core.Path.{sym}
use Rattle.stored.proofs.Exact.{passed, passed_view}
use Rattle.stored.proofs.layout.change.Goals as goal

pub view-old-requires : goal.view-old-requires
view-old-requires c = passed_view _ _ (passed _ _ (sym c.in_ok-tested.ensures))
