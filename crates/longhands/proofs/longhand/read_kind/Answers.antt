-- `read_kind` meets its contract. Assumes nothing.
use mathlib.Core.Path.{◌∙◌}
use native.Mathlib.Omega.{arith}
use Rattle.longhands.proofs.Longhands.{whole, kind_unknown}
use Rattle.longhands.proofs.longhand.read_kind.Goals as goal

pub number_2-requires : goal.number_2-requires
number_2-requires c = let w = whole c.args.bytes.now c.requires in omega (arith, w.own, w.kind)

pub number_4-requires : goal.number_4-requires
number_4-requires c = (whole c.args.bytes.now c.requires).field

pub returns : goal.returns
returns c = rw c.number_4.ensures (kind_unknown c.args.bytes.now c.requires (λ e. c.if-number_2-eq-KIND_1.false (c.number_2.ensures ∙ e)))
