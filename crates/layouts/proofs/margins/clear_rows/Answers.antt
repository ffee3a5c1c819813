use mathlib.Core.Path.{◌≡◌, ap, ◌∙◌}
use Prim.Native.Nat.{ℕ, ◌+◌, ◌*◌, ◌-◌, ◌≤◌}
use native.Mathlib.Omega.{arith}
use lib.ListN.{length, replicate}
use borrow.Author.Rules.{rules}
use Rattle.layouts.specs.Storing.{put}
use Rattle.layouts.specs.Margins.{clear_from}
use Rattle.layouts.proofs.Loops.{put_zeros, row_in, walked_none, walked_more, walked_whole}
use Rattle.layouts.proofs.margins.clear_rows.Goals as goal

pub loop-y-init : goal.loop-y-init
loop-y-init c = walked_none

pub loop-y-preserved : goal.loop-y-preserved
loop-y-preserved c =
    let inside : c.args.target.offset + c.loop-y.y * c.args.pitch + c.args.pitch ≤ length c.loop-y.frame = let s = c in
    let h = s.args.target.height in
    omega (arith, row_in c.loop-y.y h s.args.pitch c.loop-y-test.true, s.requires.1, c.loop-y.invariant.same) in
    let t = c in
    let s = t in
    let F = t.loop-y.frame in
    let start = s.args.target.offset + t.loop-y.y * s.args.pitch in
    let from = start + s.args.target.width in
    let end = start + s.args.pitch in
    let n : end - from ≡ s.args.pitch - s.args.target.width = omega arith in
    walked_more t.loop-y.invariant t.loop-y-test.true (search rules)
    (put_zeros F c.zero_row.new.out from end (omega (arith, s.requires)) (omega (arith, inside)) c.zero_row.ensures ∙ ap (λ (k : ℕ). put F from (replicate k 0)) n)

pub returns : goal.returns
unfolding clear_from
returns c = walked_whole c.loop-y.invariant c.loop-y-test.false
