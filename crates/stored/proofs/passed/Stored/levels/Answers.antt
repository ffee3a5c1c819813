-- `levels` meets its contract. Assumes nothing.
use native.Mathlib.Omega.{arith}
use Rattle.layouts.proofs.Layouts.{allowed, levels_le}
use Rattle.stored.specs.Layout.{view_of}
use Rattle.stored.proofs.Exact.{passed, passed_long, passed_count}
use Rattle.stored.proofs.passed.Stored.levels.Goals as goal

pub bounds-self-0 : goal.bounds-self-0
bounds-self-0 c = omega (arith, passed_long _ _ (passed _ _ c.args.self.passes))

pub overflow_cast-result : goal.overflow_cast-result
overflow_cast-result c =
    let s = c.args.self in
    let p = passed s.opts s.numbers.now s.passes in
    let q = view_of s.opts s.numbers.now in
    omega (arith, passed_count _ _ p, levels_le q (allowed q p.layout))

pub returns : goal.returns
returns c = passed_count _ _ (passed _ _ c.args.self.passes)
