-- `super_height` meets its contract. Assumes nothing.
use mathlib.Core.Path.{ap, ◌∙◌}
use mathlib.Core.Bool.{cond}
use native.Mathlib.Omega.{arith}
use lib.IntN.{pos}
use mir.Syntax.{w32}
use mir.Facts.{to_z_pos}
use Rattle.settings.specs.declared.super_opts.Naturals.{Naturals}
use Rattle.settings.specs.Check.{super_height, full_height, packed_height}
use Rattle.settings.proofs.Accepted.{within}
use Rattle.settings.proofs.record.Accepted.super_height.Goals as goal

pub returns-then-self : goal.returns-then-self
unfolding super_height
returns-then-self c = rw c.if-self.true

pub super_plane_height-requires : goal.super_plane_height-requires
super_plane_height-requires c =
    let w = within c.args.self.opts c.args.self.good in
    let n = c.naturals-n.ensures in
    omega (arith, ap (λ (x : Naturals). x.width) n, ap (λ (x : Naturals). x.height) n, ap (λ (x : Naturals). x.pel) n, ap (λ (x : Naturals). x.levels) n)

pub returns : goal.returns
unfolding super_height
returns c =
    let r = c.args.self.opts in
    let height = c.super_plane_height in
    to_z_pos w32 height.ensures.1 ∙ ap pos (height.ensures.0 ∙ ap (λ (x : Naturals). cond r.full (full_height x.height x.pel x.levels) (packed_height x.width x.height)) c.naturals-n.ensures ∙ rw c.if-self.false)
