-- `has_levels` meets its contract. Assumes nothing.
use mathlib.Core.Path.{◌≡◌, refl, sym, ap, ◌∙◌}
use Prim.Native.Nat.{ℕ, zero, suc, ◌+◌, ◌/◌, ◌^◌, min}
use native.Mathlib.Omega.{arith}
use native.Mathlib.Numerals.{add-one}
use lib.Dec.{eqb, ltb}
use borrow.Author.Tests.{ne_eqb}
use Rattle.settings.specs.Sizes.{auto_levels}
use Rattle.settings.proofs.Levels.{levels_small, levels_none, levels_some}
use Rattle.settings.proofs.super_opts.has_levels.Goals as goal

some : (n w h least : ℕ) → (n ≡ 0 → ⊥) → least ≡ min w h → eqb (least / 2 ^ (n + 1)) 1 ≡ eqb n (auto_levels w h)
some zero w h least not e = absurd (not refl)
some (suc n) w h least not e = rw (e, add-one) (sym (levels_some n w h))

pub returns-then-levels-eq0 : goal.returns-then-levels-eq0
returns-then-levels-eq0 c = let a = c.args in ap (λ (x : ℕ). ltb x 4) c.min-least.ensures ∙ sym (levels_none a.width a.height) ∙ ap (λ (x : ℕ). eqb x (auto_levels a.width a.height)) (sym c.if-levels-eq0.true)

pub returns-then-levels-gt30 : goal.returns-then-levels-gt30
returns-then-levels-gt30 c =
    let a = c.args in
    sym (ne_eqb a.levels (auto_levels a.width a.height) (λ e. omega (arith, levels_small 30 a.width a.width a.height (omega arith))))

pub returns : goal.returns
returns c = let a = c.args in some a.levels a.width a.height c.min-least.result c.if-levels-eq0.false c.min-least.ensures
