-- `has_view` meets its contract. Assumes nothing.
use lib.ListN.{length}
use borrow.Author.Tests.{eq-eqb, ne_eqb}
use Rattle.stored.specs.Layout.{most_numbers}
use Rattle.stored.specs.Inner.{has_view}
use Rattle.stored.proofs.layout.has_view.Goals as goal

pub returns-then-numbers-ne-LAYOUT : goal.returns-then-numbers-ne-LAYOUT
unfolding has_view
returns-then-numbers-ne-LAYOUT c = rw (ne_eqb (length c.args.numbers.now) most_numbers c.if-numbers-ne-LAYOUT.true)

pub returns : goal.returns
unfolding has_view
returns c = rw (eq-eqb (length c.args.numbers.now) most_numbers c.if-numbers-ne-LAYOUT.false)
