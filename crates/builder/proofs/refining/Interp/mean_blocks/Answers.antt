use mathlib.Core.Path.{◌≡◌, refl, ap, ◌∙◌}
use Prim.Native.Nat.{ℕ, ◌+◌, ◌*◌}
use native.Mathlib.Omega.{arith}
use Rattle.layouts.proofs.Loops.{walked_none, walked_more, walked_whole}
use Rattle.builder.specs.Canvas.{◌▷◌}
use Rattle.builder.specs.Refining.{pair_run}
use Rattle.builder.proofs.AtOnce.{in_blocks}
use Rattle.builder.proofs.refining.Interp.mean_blocks.Goals as goal

pub loop-k-init : goal.loop-k-init
loop-k-init c = walked_none

pub loop-k-preserved : goal.loop-k-preserved
loop-k-preserved c =
    let q = c.mean_block in
    let l = c.loop-k in
    let a = c.args in
    let p = a.self.pitch in
    let at = l.k * 64 in
    let same : at ≡ 0 + at = omega arith in
    walked_more l.invariant c.loop-k-test.true q.auto.frame
    (q.ensures ∙ ap (λ (s : ℕ). l.frame ▷ pair_run (a.a + at) s (1 + at) 64 ▷ pair_run (a.b + at) s (p + at) 64 ▷ pair_run (a.d + at) s (p + 1 + at) 64) same)

pub returns : goal.returns
returns c = walked_whole c.loop-k.invariant c.loop-k-test.false ∙ in_blocks c.requires.0 c.requires.1 c.args.frame.now refl
