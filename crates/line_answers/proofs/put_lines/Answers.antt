use mathlib.Core.Path.{◌≡◌}
use Prim.Native.Nat.{◌≤◌}
use lib.ListN.{length}
use borrow.Author.Rules.{rules}
use Rattle.line_answers.proofs.Printing.{begun_more, begun_whole}
use Rattle.line_answers.proofs.put_lines.Goals as goal

pub loop-rest-preserved : goal.loop-rest-preserved
loop-rest-preserved g c =
    let some : 1 ≤ length c.loop-rest.rest.now = search rules in
    let more = begun_more c.loop-rest.invariant some c.parted.ensures.line c.parted.ensures.others (rw (← c.as_bytes.ensures) at c.line_for.ensures) c.put-n.auto.out c.put-n.ensures.1 in
    rw c.put-n.ensures.0 more

pub returns : goal.returns
returns g c =
    let none : length c.loop-rest.rest.now ≡ 0 = search rules in
    begun_whole c.loop-rest.invariant none
