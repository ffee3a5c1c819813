-- `next` meets its contract. Assumes nothing.
use mathlib.Core.Path.{◌≡◌, sym, ap, ap₂, ◌∙◌}
use Prim.Native.Nat.{ℕ, ◌+◌, ◌*◌, ◌/◌, ◌^◌}
use native.Mathlib.Omega.{arith}
use Rattle.settings.specs.Sizes.{reduce}
use Rattle.settings.specs.Check.{luma_w, luma_h}
use Rattle.settings.proofs.Levels.{reduced_next}
use Rattle.layouts.specs.declared.descent.Descent.{Descent}
use Rattle.layouts.specs.Layout.{height_at, stored_at, bytes_at}
use Rattle.layouts.proofs.Layouts.{allowed, planes_le, bytes_le, offset_le, offset_next}
use Rattle.layouts.proofs.descent.Descent.next.Goals as goal

-- the rows that the level keeps, and their bytes
rows : (d : Descent) {n : ℕ} → n ≡ stored_at d.layout d.level → n * (d.height / 2 ^ d.layout.y_shift) ≡ stored_at d.layout d.level * height_at d.layout d.level
rows d e = ap₂ ◌*◌ e (ap (λ (h : ℕ). h / 2 ^ d.layout.y_shift) d.sides.1)

bytes : (d : Descent) {n : ℕ} → n ≡ stored_at d.layout d.level → n * (d.height / 2 ^ d.layout.y_shift) * d.layout.pitch ≡ bytes_at d.layout d.level
bytes d e = ap (λ (n : ℕ). n * d.layout.pitch) (rows d e)

pub overflow_shr-rows : goal.overflow_shr-rows
overflow_shr-rows c = omega (arith, (allowed c.args.self.layout c.requires.0).y)

pub overflow_mul-rows : goal.overflow_mul-rows
overflow_mul-rows c =
    let d = c.args.self in
    let q = d.layout in
    omega (arith, rows d c.stored.ensures, planes_le q (allowed q c.requires.0) d.level)

pub overflow_mul-result : goal.overflow_mul-result
overflow_mul-result c =
    let d = c.args.self in
    let q = d.layout in
    omega (arith, bytes d c.stored.ensures, bytes_le q (allowed q c.requires.0) d.level)

pub overflow_add-result-2 : goal.overflow_add-result-2
overflow_add-result-2 c =
    let d = c.args.self in
    let q = d.layout in
    let a = allowed q c.requires.0 in
    omega (arith, bytes d c.stored.ensures, bytes_le q a d.level, d.place, offset_le q a d.level (omega (arith, c.requires.1)))

pub invariant_of-result : goal.invariant_of-result
invariant_of-result c =
    let d = c.args.self in
    let q = d.layout in
    record {
      place = ap₂ ◌+◌ d.place (bytes d c.stored.ensures) ∙ sym (offset_next q d.level);
      sides = (c.reduce_once.ensures ∙ ap reduce d.sides.0 ∙ sym (reduced_next (luma_w q.opts) d.level), c.reduce_once-below.ensures ∙ ap reduce d.sides.1 ∙ sym (reduced_next (luma_h q.opts) d.level));
    }
