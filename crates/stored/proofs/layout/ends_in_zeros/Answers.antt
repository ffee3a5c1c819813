use mathlib.Core.Path.{◌≡◌, sym, ap, ◌∙◌}
use mathlib.Core.Bool.{true, false}
use mathlib.Core.Logic.{⊎_elim}
use Prim.Native.Nat.{ℕ, ◌≤◌, ◌<◌}
use native.Mathlib.Omega.{arith}
use Rattle.settings.specs.Limits.{most_levels}
use Rattle.filters.proofs.Tests.{below_or}
use Rattle.layouts.specs.declared.layout.Region.{Region}
use Rattle.layouts.specs.Layout.{no_region}
use Rattle.layouts.proofs.Layouts.{region_none}
use Rattle.stored.specs.Inner.{region_in, same_region, same_at}
use Rattle.stored.proofs.Exact.{apart, every_yes, every_at, every_no}
use Rattle.stored.proofs.layout.ends_in_zeros.Goals as goal

pub returns-then-ne : goal.returns-then-ne
returns-then-ne c =
    let numbers = c.args.numbers.now in
    let q = c.args.layout in
    let l = c.loop-level in
    let none = region_none q l.level (omega (arith, c.requires.0, l.invariant.0)) in
    let other : same_at q numbers l.level ≡ false = ap (same_region (region_in numbers l.level)) none ∙ ap (λ (x : Region). same_region x no_region) (sym c.region_in.ensures) ∙ apart c.region_in.result no_region (sym c.ne.ensures ∙ c.if-ne.true) in
    sym (every_no (same_at q numbers) most_levels l.level (omega (arith, c.loop-level-test.true)) other)

pub returns : goal.returns
returns c =
    let l = c.loop-level in
    let q = c.args.layout in
    let numbers = c.args.numbers.now in
    let past : (j : ℕ) → j < most_levels → c.args.levels ≤ j → same_at q numbers j ≡ true = λ j lt le. ap (same_region (region_in numbers j)) (region_none q j (omega (arith, c.requires.0))) ∙ l.invariant.1 j le (omega (arith, c.loop-level-test.false)) in
    sym (every_yes (same_at q numbers) most_levels (λ j lt. ⊎_elim (λ (k : j < c.args.levels). every_at (same_at q numbers) c.args.levels c.requires.2 j k) (past j lt) (below_or j c.args.levels)))
