-- `spread_vertical` meets its contract. The loop has stored the rows passed. Assumes nothing.
use Prim.Native.Nat.{◌+◌, ◌*◌}
use Rattle.layouts.specs.Storing.{put}
use Rattle.builder.specs.Halving.{whole_of, vertical_line}
use Rattle.builder.proofs.Runs.{Passed}
use Rattle.builder.proofs.separate.spread_vertical.Given as goal

abbrev pub invariant-loop-y : goal.invariant-loop-y
invariant-loop-y l = let n = 2 * l.target.width in
    Passed (λ i d. put d (l.target.offset + i * (2 * l.pitch)) (vertical_line l.filter (whole_of l.filter n) n l.target.height l.src 0 l.src_pitch i)) l.initial.canvas l.canvas l.target.height l.y
