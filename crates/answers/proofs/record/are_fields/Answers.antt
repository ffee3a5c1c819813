-- `are_fields` meets its contract. Assumes nothing.
use lib.ListN.{length}
use borrow.Author.Tests.{eq-eqb, ne_eqb}
use borrow.Author.Rules.{sfits_of}
use Rattle.settings.proofs.Integers.{same}
use Rattle.answers.specs.Fields.{at, are_fields}
use Rattle.answers.proofs.record.are_fields.Goals as goal

pub returns-then-fields-ne-FIELDS : goal.returns-then-fields-ne-FIELDS
unfolding are_fields
returns-then-fields-ne-FIELDS c = rw (ne_eqb (length c.args.fields.now) 10 c.if-fields-ne-FIELDS.true)

pub returns : goal.returns
unfolding are_fields
returns c =
    let l = c.args.fields.now in
    rw (c.is_bit-3.ensures, c.is_bit-2.ensures, c.is_bit.ensures, eq-eqb (length l) 10 c.if-fields-ne-FIELDS.false, same (at l 4) (sfits_of c.is_bit-arg-1.given), same (at l 5) (sfits_of c.is_bit-arg-2-1.given), same (at l 6) (sfits_of c.is_bit-arg-3-1.given))
