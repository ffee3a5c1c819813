-- `build_spilled` meets its contract. Assumes nothing.
use mathlib.Core.Path.{◌≡◌, ap, ◌∙◌}
use Prim.Native.Nat.{ℕ}
use native.Mathlib.Omega.{arith}
use lib.ListN.{length, take, replicate}
use lib.Seq.{length-take-le}
use borrow.Author.Rules.{rules}
use Rattle.planes.proofs.Whole.{frame_left_lem}
use Rattle.planes.proofs.build.build_spilled.Goals as goal

pub returns : goal.returns
returns c =
    let part : length (take c.spill_need-need.result c.args.spill.now) ≡ c.spill_need-need.result = length-take-le c.spill_need-need.result c.args.spill.now (omega (arith, c.spill_need-need.ensures, c.requires.spills)) in
    let a = c.args in
    let d = c.build_levels.new.canvas in
    let left = frame_left_lem a.fuse a.fitting.layout a.src.now a.frame.now d.frame.now d.spill.now _ a.src_pitch c.build_levels.ensures.frame_long
    (c.zero_row.ensures ∙ ap (λ (k : ℕ). replicate k 0) (part ∙ c.spill_need-need.ensures))
    c.build_levels.ensures.bytes in
    search rules
