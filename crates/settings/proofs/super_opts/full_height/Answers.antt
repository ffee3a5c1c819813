use mathlib.Core.Path.{◌≡◌, refl, sym, ap, ◌∙◌}
use Prim.Native.Nat.{ℕ, ◌+◌, ◌*◌, ◌-◌}
use native.Mathlib.Omega.{arith}
use Rattle.settings.specs.Numbers.{total as sum}
use Rattle.settings.specs.Sizes.{reduce, reduced}
use Rattle.settings.specs.Check.{full_height}
use Rattle.settings.proofs.Levels.{reduced_next}
use Rattle.settings.proofs.Heights.{heights, heights_next, square_le, heights_small, reduced_le}
use Rattle.settings.proofs.super_opts.full_height.Goals as goal

pub loop-init : goal.loop-init
unfolding sum reduced
loop-init c = (omega arith, refl, omega arith, omega arith)

pub overflow_add-total : goal.overflow_add-total
overflow_add-total c =
    let a = c.args in
    omega (arith, square_le a.pel a.base_h c.requires.1 c.requires.0, heights_small a.base_h (c.loop.counter - 1) c.requires.0 (omega arith), c.reduce_once-h.ensures, c.loop.invariant.1, reduced_le a.base_h (c.loop.counter - 1))

pub loop-preserved : goal.loop-preserved
loop-preserved c =
    let h = c.args.base_h in
    let n = c.loop.counter - 1 in
    let next : c.loop.counter + 1 - 1 ≡ n + 1 = omega arith in
    let high = c.reduce_once-h.ensures ∙ ap reduce c.loop.invariant.1 in
    rw next (omega (arith, c.loop.invariant.0, high, heights_next h n), high ∙ sym (reduced_next h n), omega arith, omega arith)

pub returns : goal.returns
unfolding full_height
returns c =
    let a = c.args in
    let pre = c.requires in
    let last : c.loop.counter - 1 ≡ a.levels - 1 = omega arith in
    (c.loop.invariant.0 ∙ ap (λ (n : ℕ). a.pel * a.pel * a.base_h + heights a.base_h n) last, omega (arith, square_le a.pel a.base_h pre.1 pre.0, heights_small a.base_h (c.loop.counter - 1) pre.0 (omega arith)))
