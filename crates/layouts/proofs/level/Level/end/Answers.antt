-- `end` meets its contract. Assumes nothing.
use mathlib.Core.Path.{◌≡◌, sym, ap, ap₂, ◌∙◌}
use Prim.Native.Nat.{ℕ, ◌+◌, ◌*◌}
use native.Mathlib.Omega.{arith}
use Rattle.layouts.specs.declared.layout.Region.{Region}
use Rattle.layouts.specs.declared.level.Level.{Level}
use Rattle.layouts.specs.Layout.{height_at, stored_at, bytes_at}
use Rattle.layouts.proofs.Layouts.{allowed, levels_le, planes_le, bytes_le, offset_le, offset_next}
use Rattle.layouts.proofs.level.Level.end.Goals as goal

-- the rows that the level keeps, and their bytes
rows : (t : Level) {n : ℕ} → n ≡ stored_at t.fitting.layout t.level → n * t.region.height ≡ stored_at t.fitting.layout t.level * height_at t.fitting.layout t.level
rows t e = ap₂ ◌*◌ e (ap (λ (x : Region). x.height) t.lies)

bytes : (t : Level) {n : ℕ} → n ≡ stored_at t.fitting.layout t.level → n * t.region.height * t.fitting.layout.pitch ≡ bytes_at t.fitting.layout t.level
bytes t e = ap (λ (n : ℕ). n * t.fitting.layout.pitch) (rows t e)

pub overflow_mul-result : goal.overflow_mul-result
overflow_mul-result c =
    let t = c.args.self in
    let q = t.fitting in
    omega (arith, rows t c.stored.ensures, planes_le q.layout (allowed q.layout q.fits) t.level)

pub overflow_mul-result-2 : goal.overflow_mul-result-2
overflow_mul-result-2 c =
    let t = c.args.self in
    let q = t.fitting in
    omega (arith, bytes t c.stored.ensures, bytes_le q.layout (allowed q.layout q.fits) t.level)

pub overflow_add-result : goal.overflow_add-result
overflow_add-result c =
    let t = c.args.self in
    let q = t.fitting in
    let a = allowed q.layout q.fits in
    omega (arith, bytes t c.stored.ensures, bytes_le q.layout a t.level, ap (λ (x : Region). x.offset) t.lies, offset_le q.layout a t.level (omega (arith, levels_le q.layout a, t.there)))

pub returns : goal.returns
returns c =
    let t = c.args.self in
    ap₂ ◌+◌ (ap (λ (x : Region). x.offset) t.lies) (bytes t c.stored.ensures) ∙ sym (offset_next t.fitting.layout t.level)
