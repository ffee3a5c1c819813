-- `HalfPelTaps::weighed` meets its contract. Assumes nothing.
use mathlib.Core.Path.{sym, ap, ◌∙◌}
use Rattle.filters.specs.declared.half_pel.HalfPel.{HalfPel}
use Rattle.filters.specs.declared.half_pel.HalfPel.TheVariants.{CatmullRom, Wiener}
use Rattle.filters.specs.Refine.{half_pel}
use Rattle.filters.proofs.Kernels.{half_pel_natural}
use Rattle.filters.proofs.half_pel.HalfPelTaps.weighed.Goals as goal

pub returns-in-CatmullRom : goal.returns-in-CatmullRom
returns-in-CatmullRom c = let a = c.args in c.apply.ensures ∙ half_pel_natural CatmullRom a.m2 a.m1 a.c0 a.p1 a.p2 a.p3 ∙ ap (λ (k : HalfPel). half_pel k a.m2 a.m1 a.c0 a.p1 a.p2 a.p3) (sym c.in-CatmullRom.is)

pub returns-in-Wiener : goal.returns-in-Wiener
returns-in-Wiener c = let a = c.args in c.apply-in-Wiener.ensures ∙ half_pel_natural Wiener a.m2 a.m1 a.c0 a.p1 a.p2 a.p3 ∙ ap (λ (k : HalfPel). half_pel k a.m2 a.m1 a.c0 a.p1 a.p2 a.p3) (sym c.in-Wiener.is)
