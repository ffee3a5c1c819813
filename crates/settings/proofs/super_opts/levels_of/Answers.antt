-- `levels_of` meets its contract. Assumes nothing.
use mathlib.Core.Path.{◌≡◌, ap, ap₂, ◌∙◌}
use Prim.Native.Nat.{◌<◌, ◌^◌}
use lib.IntN.{pos}
use mir.Syntax.{w32}
use mir.Facts.{to_z_pos}
use native.Mathlib.Omega.{arith}
use Rattle.settings.specs.Numbers.{to_nat}
use Rattle.settings.specs.Sizes.{auto_levels}
use Rattle.settings.proofs.Integers.{same}
use Rattle.settings.proofs.Fields.{levels_fit}
use Rattle.settings.proofs.super_opts.levels_of.Goals as goal

pub overflow_cast-result : goal.overflow_cast-result
overflow_cast-result c =
    let counted : c.auto_levels.result ≡ auto_levels (to_nat c.args.width) (to_nat c.args.height) = let a = c in
    c.auto_levels.ensures ∙ ap₂ auto_levels (c.natural.ensures ∙ ap to_nat (same a.args.width a.ranges.width)) (c.natural-2.ensures ∙ ap to_nat (same a.args.height a.ranges.height)) in
    let small : c.auto_levels.result < 2 ^ 31 = let a = c in omega (arith, counted, levels_fit a.args.width a.args.height a.ranges.width) in
    record { sfits = small }

pub returns : goal.returns
returns c =
    let counted : c.auto_levels.result ≡ auto_levels (to_nat c.args.width) (to_nat c.args.height) = let a = c in
    c.auto_levels.ensures ∙ ap₂ auto_levels (c.natural.ensures ∙ ap to_nat (same a.args.width a.ranges.width)) (c.natural-2.ensures ∙ ap to_nat (same a.args.height a.ranges.height)) in
    let small : c.auto_levels.result < 2 ^ 31 = let a = c in omega (arith, counted, levels_fit a.args.width a.args.height a.ranges.width) in
    to_z_pos w32 (small) ∙ ap pos (counted)
