-- `source_need` meets its contract. Assumes nothing.
use mathlib.Core.Path.{◌≡◌}
use Prim.Native.Nat.{ℕ, ◌*◌, ◌-◌, ◌≤◌}
use Rattle.settings.specs.Limits.{most_side, most_pitch}
use native.Mathlib.Omega.{arith}
use Rattle.settings.proofs.Heights.{prod_le}
use Rattle.layouts.specs.declared.fitting.Fitting.{Fitting}
use Rattle.layouts.specs.Layout.{height_at}
use Rattle.layouts.proofs.Layouts.{allowed, width_le, height_le}
use Rattle.layouts.proofs.fitting.Fitting.source_need.Goals as goal

-- the rows before the last, by the height as it was read
small : (q : Fitting) (sp : ℕ) {h : ℕ} → h ≡ height_at q.layout 0 → sp ≤ most_pitch → (h - 1) * sp ≤ most_side * most_pitch
small q sp e le = prod_le most_side most_pitch (omega (arith, height_le q.layout (allowed q.layout q.fits) 0, e)) le

pub overflow_mul-result : goal.overflow_mul-result
overflow_mul-result c = omega (arith, small c.args.self c.args.src_pitch c.height-h.ensures c.requires)

pub overflow_add-result : goal.overflow_add-result
overflow_add-result c =
    let q = c.args.self in
    omega (arith, small q c.args.src_pitch c.height-h.ensures c.requires, width_le q.layout (allowed q.layout q.fits) 0, c.width-w.ensures)
