-- `level` meets its contract. Assumes nothing.
use mathlib.Core.Path.{sym, ap, ◌∙◌}
use Prim.Native.Nat.{◌<◌}
use native.Mathlib.Omega.{arith}
use Rattle.layouts.specs.declared.layout.Layout.{Layout}
use Rattle.layouts.specs.Layout.{levels_of, region_at}
use Rattle.stored.proofs.Exact.{passed, passed_long, passed_count, Found, found}
use Rattle.stored.specs.declared.passed.Stored.{Stored}
use Rattle.stored.specs.Layout.{view_of}
use Rattle.stored.proofs.passed.Stored.level.Goals as goal

here : (s : Stored) (l : _) → l < levels_of (view_of s.opts s.numbers.now) → Found s.opts s.numbers.now l
here s l lt = let p = passed s.opts s.numbers.now s.passes in found s.opts s.numbers.now l p (omega (arith, passed_count _ _ p, lt))

pub region_in-requires : goal.region_in-requires
region_in-requires c = let s = c.args.self in ((here s c.args.level c.requires).few, passed_long _ _ (passed _ _ s.passes))

pub invariant_of-result : goal.invariant_of-result
invariant_of-result c =
    let h = here c.args.self c.args.level c.requires in
    let q = sym c.layout.ensures in
    record {
      there = omega (arith, ap levels_of q, h.there);
      lies = c.region_in.ensures ∙ h.region ∙ ap (λ (x : Layout). region_at x c.args.level) q;
    }
