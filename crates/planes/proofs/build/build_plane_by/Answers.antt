-- `build_plane_by` meets its contract. Assumes nothing.
use mathlib.Core.Path.{◌≡◌, sym}
use Rattle.lookups.proofs.Numbers.{build_stored}
use Rattle.planes.specs.Build.{plane_no}
use Rattle.planes.proofs.Whole.{ready_stored}
use Rattle.planes.proofs.build.build_plane_by.Goals as goal

pub invariant_of-stored : goal.invariant_of-stored
invariant_of-stored c = record { passes = build_stored _ _ _ _ _ _ _ (sym c.in_ok-build_tested.ensures) }

pub build_spilled-requires : goal.build_spilled-requires
build_spilled-requires c =
    let passed : plane_no c.args.opts c.args.layout.now c.args.src.now c.args.src_pitch c.args.frame.now c.args.spill.now c.args.scratch.now ≡ 0 = sym c.in_ok-build_tested.ensures in
    rw c.layout.ensures (ready_stored _ _ _ _ _ _ _ passed)
