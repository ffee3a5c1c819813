-- `row_in` meets its contract. Assumes nothing.
use mathlib.Core.Path.{ap}
use native.Mathlib.Omega.{arith}
use Rattle.settings.specs.declared.super_opts.Naturals.{Naturals}
use Rattle.layouts.proofs.Layouts.{allowed, levels_le}
use Rattle.layouts.proofs.fitting.Fitting.row_in.Goals as goal

pub down-requires : goal.down-requires
down-requires c =
    let q = c.args.self in
    let levels = ap (λ (x : Naturals). x.levels) c.naturals.ensures in
    (rw c.top.ensures.0 q.fits, omega (arith, c.top.ensures.1), omega (arith, levels, c.if-naturals-level.false, levels_le q.layout (allowed q.layout q.fits)))
