-- `fused_row` meets its contract. Assumes nothing.
use mathlib.Core.Path.{◌≡◌, ap, ◌∙◌}
use mathlib.Core.List.{List}
use Prim.Native.Nat.{ℕ, ◌+◌, ◌*◌, ◌-◌}
use native.Mathlib.Omega.{arith}
use lib.ListN.{replicate}
use Rattle.filters.specs.declared.halving.ReduceFilter.TheVariants.{Cubic}
use Rattle.layouts.specs.Storing.{put}
use Rattle.builder.specs.Halving.{whole_of, vertical_line, halve_run}
use Rattle.builder.proofs.Lines.{line_length, whole_or}
use Rattle.builder.proofs.Halves.{row_within, fused_run}
use Rattle.builder.proofs.halving.fused_row.Goals as goal

pub returns : goal.returns
returns c =
    let t = c.args.target in
    let w = t.width in
    let p = c.args.pitch in
    let at = t.offset + c.args.y * p in
    let F = c.args.frame.now in
    let v = vertical_line Cubic (whole_of Cubic (2 * w)) (2 * w) t.height F c.args.base p c.args.y in
    let n : at + p - (at + 2 * w) ≡ p - 2 * w = omega arith in
    c.finish_row.ensures
    ∙ ap (λ (x : List ℕ). put (halve_run Cubic w at x) (at + 2 * w) (replicate (at + p - (at + 2 * w)) 0)) c.vertical_row.ensures
    ∙ ap (λ (k : ℕ). put (halve_run Cubic w at (put F at v)) (at + 2 * w) (replicate k 0)) n
    ∙ fused_run p w at F v (line_length Cubic (whole_of Cubic (2 * w)) (2 * w) t.height F c.args.base p c.args.y (whole_or Cubic (2 * w)).0) c.requires.0.fits (row_within c.requires.0 c.requires.1)
