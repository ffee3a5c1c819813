use lib.Dec.{ltb}
use mathlib.Core.Path.{◌≡◌}
use mathlib.Core.Bool.{true, false, ◌||◌}
use mathlib.Core.Logic.{⊎_elim}
use Prim.Native.Nat.{ℕ, ◌≤◌}
use native.Mathlib.Omega.{arith}
use borrow.Author.Tests.{ltb-true, ltb-false}
use Rattle.settings.specs.Sizes.{auto_levels}
use Rattle.settings.proofs.Tests.{or_cases, or_false_left, or_false_right}
use Rattle.settings.proofs.Levels.{levels_narrow, levels_low, levels_more}
use Rattle.settings.proofs.super_opts.auto_levels.Goals as goal

stops : (w h : ℕ) → (ltb h 4 || ltb w 4) ≡ true → auto_levels w h ≡ 0
stops w h t = ⊎_elim (λ a. levels_low w w h (ltb-true h 4 a)) (λ a. levels_narrow w w h (ltb-true w 4 a)) (or_cases (ltb h 4) (ltb w 4) t)

goes : (w h : ℕ) → (ltb h 4 || ltb w 4) ≡ false → (4 ≤ w) × (4 ≤ h)
goes w h t = (ltb-false w 4 (or_false_right (ltb h 4) (ltb w 4) t), ltb-false h 4 (or_false_left (ltb h 4) (ltb w 4) t))

pub returns-then-h-w : goal.returns-then-h-w
returns-then-h-w c = let l = c.loop-h in omega (arith, l.invariant.0, stops l.w l.h c.if-h-w.true)

pub loop-h-preserved : goal.loop-h-preserved
loop-h-preserved c =
    let l = c.loop-h in
    let both = goes l.w l.h c.if-h-w.false in
    rw (c.reduce_once-w.ensures, c.reduce_once-h.ensures) (omega (arith, l.invariant.0, levels_more l.w l.h both.0 both.1), omega (arith, both))
