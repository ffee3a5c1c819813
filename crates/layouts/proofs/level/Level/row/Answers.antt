-- `row` meets its contract. Assumes nothing.
use mathlib.Core.Path.{◌≡◌, ap}
use mathlib.Core.Bool.{◌||◌, false}
use Prim.Native.Nat.{ℕ, ◌+◌, ◌*◌, ◌≤◌, ◌<◌}
use native.Mathlib.Omega.{arith}
use lib.Dec.{leb}
use borrow.Author.Tests.{lt-leb}
use Rattle.settings.specs.Limits.{most_side, most_pitch}
use Rattle.settings.proofs.Heights.{prod_le}
use Rattle.layouts.specs.declared.layout.Region.{Region}
use Rattle.layouts.specs.declared.level.Level.{Level}
use Rattle.layouts.specs.Layout.{levels_of, height_at, stored_at}
use Rattle.layouts.specs.Refusals.{no_row}
use Rattle.layouts.proofs.Loops.{row_in}
use Rattle.layouts.proofs.Layouts.{There, allowed, there, levels_le, offset_le, planes_le}
use Rattle.layouts.proofs.level.Level.row.Goals as goal

-- the test is the refusal's
absent : (t : Level) (k y : ℕ) {n : ℕ} → n ≡ stored_at t.fitting.layout t.level → (leb n k || leb t.region.height y) ≡ no_row t.fitting.layout t.level k y
absent t k y e = rw (e, t.lies, lt-leb (levels_of t.fitting.layout) t.level t.there)

-- the rows before it are few, and so are their bytes
small : (t : Level) (k y : ℕ) {n : ℕ} → n ≡ stored_at t.fitting.layout t.level → (leb n k || leb t.region.height y) ≡ false → k * t.region.height + y < 16 * most_side
small t k y e some =
    let q = t.fitting.layout in
    let r : There q t.level k y = there q t.level k y (rw (← absent t k y e) some) in
    rw t.lies (omega (arith, row_in k (stored_at q t.level) (height_at q t.level) r.plane, r.row, planes_le q (allowed q t.fitting.fits) t.level))

bytes : (t : Level) (k y : ℕ) {n : ℕ} → n ≡ stored_at t.fitting.layout t.level → (leb n k || leb t.region.height y) ≡ false → (k * t.region.height + y) * t.fitting.layout.pitch ≤ 16 * most_side * most_pitch
bytes t k y e some = prod_le (16 * most_side) most_pitch (omega (arith, small t k y e some)) (allowed t.fitting.layout t.fitting.fits).most

pub overflow_mul-result : goal.overflow_mul-result
overflow_mul-result c = omega (arith, small c.args.self c.args.plane c.args.y c.stored.ensures c.if-stored-plane.false)

pub overflow_add-result : goal.overflow_add-result
overflow_add-result c = omega (arith, small c.args.self c.args.plane c.args.y c.stored.ensures c.if-stored-plane.false)

pub overflow_mul-result-2 : goal.overflow_mul-result-2
overflow_mul-result-2 c = omega (arith, bytes c.args.self c.args.plane c.args.y c.stored.ensures c.if-stored-plane.false)

pub overflow_add-result-2 : goal.overflow_add-result-2
overflow_add-result-2 c =
    let t = c.args.self in
    let q = t.fitting.layout in
    let a = allowed q t.fitting.fits in
    omega (arith, bytes t c.args.plane c.args.y c.stored.ensures c.if-stored-plane.false, ap (λ (x : Region). x.offset) t.lies, offset_le q a t.level (omega (arith, levels_le q a, t.there)))
