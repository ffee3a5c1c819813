use mathlib.Core.Logic.{◌⊎◌, inl, inr, ⊎_elim}
use mathlib.Core.Path.{ap, ◌∙◌}
use Prim.Native.Nat.{ℕ, ◌+◌, ◌≤◌, ◌<◌}
use native.Mathlib.Omega.{arith}
use lib.ListN.{get_or}
use Rattle.filters.specs.Row.{mean_of}
use Rattle.builder.proofs.Refined.{laid_none, laid_more, laid_whole, laid_read, pair_laid}
use Rattle.builder.proofs.refining.pair_inside.Goals as goal

pub loop-i-init : goal.loop-i-init
loop-i-init c = laid_none _ _ _ _ (omega arith)

pub loop-i-preserved : goal.loop-i-preserved
loop-i-preserved c =
    let l = c.loop-i in
    let a = c.args in
    let right : (a.r + l.i < a.t) ⊎ (a.t + l.i ≤ a.r + l.i) =
    ⊎_elim (λ (h : a.r + a.n ≤ a.t). inl (omega arith)) (λ (h : a.t ≤ a.r). inr (omega arith)) c.requires.1 in
    laid_more l.invariant (omega arith) (omega arith)
    (c.mean.ensures
    ∙ ap (λ (x : ℕ). mean_of x (get_or l.frame (a.r + l.i) 0)) (laid_read (a.l + l.i) l.invariant (inl (omega arith)))
    ∙ ap (λ (x : ℕ). mean_of (get_or a.frame.now (a.l + l.i) 0) x) (laid_read (a.r + l.i) l.invariant right))

pub returns : goal.returns
returns c = let a = c.args in laid_whole c.loop-i.invariant (omega arith) ∙ pair_laid a.frame.now a.t a.l a.r a.n
