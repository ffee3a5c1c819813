-- `super_width` meets its contract. Assumes nothing.
use Prim.Native.Nat.{◌<◌, ◌^◌}
use native.Mathlib.Omega.{arith}
use mathlib.Core.Path.{◌≡◌, sym, ap, ◌∙◌}
use lib.IntN.{pos}
use mir.Syntax.{w32}
use mir.Facts.{to_z_pos}
use borrow.Author.Rules.{rules}
use Rattle.settings.specs.Check.{luma_w}
use Rattle.settings.specs.Sizes.{reduce, reduced}
use Rattle.settings.proofs.Accepted.{pos_side, fine, sound, within}
use Rattle.settings.proofs.Integers.{same, counts}
use Rattle.settings.proofs.record.Accepted.super_width.Goals as goal

pub returns-then-self : goal.returns-then-self
returns-then-self c =
    let r = c.args.self.opts in
    same r.width (search rules) ∙ sym (pos_side r.width (sound r (fine r c.args.self.good).none).width) ∙ rw c.if-self.true

pub overflow_cast-result : goal.overflow_cast-result
unfolding reduced
overflow_cast-result c =
    let halved : c.reduce_dim.result ≡ reduce (luma_w c.args.self.opts) = let r = c.args.self.opts in
    c.reduce_dim.ensures ∙ ap reduce (counts r.width c.natural.result (search rules) c.natural.ensures) in
    let small : c.reduce_dim.result < 2 ^ 31 = omega (arith, halved, (within c.args.self.opts c.args.self.good).width) in
    record { sfits = small }

pub returns : goal.returns
unfolding reduced
returns c =
    let halved : c.reduce_dim.result ≡ reduce (luma_w c.args.self.opts) = let r = c.args.self.opts in
    c.reduce_dim.ensures ∙ ap reduce (counts r.width c.natural.result (search rules) c.natural.ensures) in
    let small : c.reduce_dim.result < 2 ^ 31 = omega (arith, halved, (within c.args.self.opts c.args.self.good).width) in
    to_z_pos w32 (small) ∙ ap pos (halved ∙ rw c.if-self.false)
