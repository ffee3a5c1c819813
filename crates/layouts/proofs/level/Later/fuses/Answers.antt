-- `fuses` meets its contract. Assumes nothing.
use mathlib.Core.Path.{ap}
use Prim.Native.Nat.{◌-◌}
use native.Mathlib.Omega.{arith}
use lib.Dec.{lit<}
use borrow.Author.Rules.{rules}
use Rattle.settings.proofs.Integers.{is_by_bits}
use Rattle.layouts.specs.declared.layout.Region.{Region}
use Rattle.layouts.specs.Margins.{fused_at}
use Rattle.layouts.proofs.Layouts.{allowed, levels_le, height_le, width_le, offset_le}
use Rattle.layouts.proofs.level.Later.fuses.Goals as goal

pub cubic_fits-fits-requires : goal.cubic_fits-fits-requires
cubic_fits-fits-requires c =
    let t = c.args.self.at in
    let q = t.fitting.layout in
    let l = t.level in
    let a = allowed q t.fitting.fits in
    let low = levels_le q a in
    let o0 = ap (λ (x : Region). x.offset) t.lies in
    let o1 = ap (λ (x : Region). x.width) t.lies in
    let o2 = ap (λ (x : Region). x.height) t.lies in
    (omega (arith, c.args.self.above, t.there, offset_le q a (l - 1) (omega (arith, t.there))), a.most, omega (arith, o0, offset_le q a l (omega (arith, t.there))), omega (arith, o1, width_le q a l), omega (arith, o2, height_le q a l))

pub returns : goal.returns
unfolding fused_at
returns c = rw (is_by_bits c.args.self.at.fitting.layout.opts.scale_down 4 (search rules) (lit< tt), c.cubic_fits-fits.ensures, c.args.self.above, c.args.self.at.lies)
