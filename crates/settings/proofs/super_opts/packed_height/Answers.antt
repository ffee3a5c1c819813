-- `packed_height` meets its contract. Assumes nothing.
use mathlib.Core.Path.{◌≡◌, ap, ◌∙◌}
use Prim.Native.Nat.{◌*◌, ◌/◌, max}
use native.Mathlib.Omega.{arith}
use Rattle.std.proofs.Math.Nat.{max_comm}
use Rattle.settings.specs.Sizes.{reduce, reduced}
use Rattle.settings.specs.Check.{upward, raised_to_even, packed_height}
use Rattle.settings.proofs.Heights.{area_small, upward_le, upward_ceil}
use Rattle.settings.proofs.super_opts.packed_height.Goals as goal

pub returns : goal.returns
unfolding packed_height reduced
returns c =
    let n = c.args.base_w * c.args.base_h / 2 in
    let w = c.max-width.result in
    let row : w ≡ max 1 (reduce c.args.base_w) = c.max-width.ensures ∙ ap (λ k. max k 1) c.reduce_dim.ensures ∙ max_comm _ 1 in
    let rows : c.div_ceil.result ≡ upward n w = c.div_ceil.ensures ∙ upward_ceil n w (omega (arith, row)) in (
      c.raised_to_even.ensures ∙ ap raised_to_even (rows ∙ ap (upward n) row),
      omega (arith, rows, row, area_small c.args.base_w c.args.base_h c.requires.0 c.requires.1, upward_le n w),
    )
