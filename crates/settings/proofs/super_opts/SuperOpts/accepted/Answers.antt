-- `accepted` meets its contract. Assumes nothing.
use mathlib.Core.Path.{◌≡◌, refl, sym, ◌∙◌}
use mathlib.Core.Bool.{◌&&◌}
use Prim.Native.Nat.{ℕ}
use native.Mathlib.Omega.{arith}
use lib.Dec.{eqb}
use lib.IntN.{ℤ, pos, negsuc}
use lib.Signed.{le_z}
use mir.Syntax.{w32}
use mir.Val.{SFits}
use borrow.Author.Tests.{le-leb, not-true, not-false}
use Rattle.settings.specs.Numbers.{is_nat, to_nat}
use Rattle.settings.specs.Sizes.{auto_levels}
use Rattle.settings.specs.Check.{luma_w, luma_h, accepted}
use Rattle.settings.proofs.Integers.{same}
use borrow.Author.Rules.{rules}
use Rattle.settings.proofs.super_opts.SuperOpts.accepted.Goals as goal

by_sign : (z : ℤ) (n : ℕ) → (le_z (pos 0) z && eqb (to_nat z) n) ≡ is_nat z n
by_sign (pos a) n = rw (le-leb 0 a (omega arith))
by_sign (negsuc a) n = refl

pub returns-then-not-accepted_but_levels : goal.returns-then-not-accepted_but_levels
unfolding accepted
returns-then-not-accepted_but_levels c = rw (sym c.accepted_but_levels.ensures ∙ not-true c.accepted_but_levels.result c.if-not-accepted_but_levels.true-raw) refl

pub returns : goal.returns
unfolding accepted
returns c =
    let levels : SFits w32 c.args.self.levels = search rules in
    let r = c.args.self in
    rw (sym c.accepted_but_levels.ensures ∙ not-false c.accepted_but_levels.result c.if-not-accepted_but_levels.false-raw, c.has_levels.ensures, c.naturals-n.ensures, same r.levels (levels))
    (by_sign r.levels (auto_levels (luma_w r) (luma_h r)))
