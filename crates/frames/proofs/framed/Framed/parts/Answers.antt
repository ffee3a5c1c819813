-- `parts` meets its contract. Assumes nothing.
use mathlib.Core.Path.{◌≡◌, ap, ◌∙◌}
use Prim.Native.Nat.{ℕ, ◌+◌, ◌≤◌}
use native.Mathlib.Omega.{arith}
use Rattle.settings.specs.declared.super_opts.SuperOpts.{SuperOpts}
use Rattle.layouts.specs.declared.layout.Layout.{Layout}
use Rattle.layouts.specs.Layout.{spill_need, scratch_need}
use Rattle.layouts.specs.Room.{most_offset}
use Rattle.frames.specs.declared.parts.Parts.{Parts}
use Rattle.frames.specs.Parts.{plane_of, length_of, parts_of, planes_no}
use Rattle.frames.proofs.Laid.{length_le, start_first, starts}
use Rattle.frames.proofs.framed.Framed.parts.Goals as goal

by_parts : (r : SuperOpts) {a b p q m n : ℕ} → a ≡ length_of r 0 → b ≡ length_of r 1 → p ≡ (plane_of r 0).pitch → q ≡ (plane_of r 1).pitch → m ≡ spill_need (plane_of r 0) → n ≡ scratch_need (plane_of r 0) → ◌≡◌ {A = Parts} (record { y = record { start = 0; pitch = p; length = a }; u = record { start = a; pitch = q; length = b }; v = record { start = a + b; pitch = q; length = b }; length = a + b + b; needs = record { spill = m; scratch = n } }) (parts_of r)
by_parts r la lb lp lq lm ln = rw (la, lb, lp, lq, lm, ln, start_first r, ← (starts r).0, ← (starts r).1, ← (starts r).2)

small : (r : SuperOpts) → planes_no r ≡ 0 → {a b : ℕ} → a ≡ length_of r 0 → b ≡ length_of r 1 → (a ≤ most_offset) × (b ≤ most_offset)
small r e la lb = (omega (arith, la, length_le r e 0), omega (arith, lb, length_le r e 1))

pub overflow_add-result : goal.overflow_add-result
overflow_add-result c = omega (arith, small c.args.self.opts c.args.self.takes c.part_length-long.ensures c.part_length-short.ensures)

pub overflow_add-result-2 : goal.overflow_add-result-2
overflow_add-result-2 c = omega (arith, small c.args.self.opts c.args.self.takes c.part_length-long.ensures c.part_length-short.ensures)

pub overflow_add-result-3 : goal.overflow_add-result-3
overflow_add-result-3 c = omega (arith, small c.args.self.opts c.args.self.takes c.part_length-long.ensures c.part_length-short.ensures)

pub returns : goal.returns
returns c = by_parts c.args.self.opts c.part_length-long.ensures c.part_length-short.ensures (ap (λ (q : Layout). q.pitch) c.plane-luma.ensures) (ap (λ (q : Layout). q.pitch) c.plane-pitch.ensures)
    (c.spill_need.ensures ∙ ap spill_need c.plane-luma.ensures)
    (c.scratch_need.ensures ∙ ap scratch_need c.plane-luma.ensures)
