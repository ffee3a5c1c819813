-- `read_body` meets its contract. Assumes nothing.
use mathlib.Core.Path.{◌≡◌, refl, ap, ◌∙◌}
use mathlib.Core.Bool.{not, ◌&&◌}
use mathlib.Core.List.{List}
use Prim.Native.Nat.{ℕ}
use lib.Dec.{ltb}
use lib.ListN.{get_or}
use native.Mathlib.Omega.{arith}
use Rattle.settings.specs.declared.refusal.Refusal.TheVariants.{Longhand as OfLonghand}
use Rattle.settings.specs.declared.refusal.BadLonghand.TheVariants.{Contents}
use Rattle.settings.specs.Numbers.{refuse}
use Rattle.settings.specs.Check.{accepted}
use Rattle.settings.specs.Inner.{accepted_but_levels}
use Rattle.settings.specs.Answers.{answer, no_record}
use Rattle.settings.proofs.Known.{given, refused}
use Rattle.settings.proofs.Accepted.{but_levels_accepted}
use Rattle.longhands.specs.Kind1.{kind1_record, kind1_good}
use Rattle.longhands.proofs.Bytes.{number_of_1}
use Rattle.longhands.proofs.kind1.read_body.Goals as goal

counted : (b : List ℕ) → accepted_but_levels (kind1_record b) ≡ accepted (kind1_record b)
unfolding kind1_record
counted b = but_levels_accepted (kind1_record b) refl

pub returns-then-good : goal.returns-then-good
returns-then-good c =
    let good : (c.accepted_but_levels.result && ltb (get_or c.args.body.now 6 0) 8) ≡ kind1_good c.args.body.now = rw (number_of_1 c.args.body.now 6 (omega (arith, c.requires)), c.accepted_but_levels.ensures, c.spelled-opts.ensures, counted c.args.body.now) in
    let l = c.args.body.now in
    ap (answer 0) c.spelled-opts.ensures ∙ given (refuse (not (kind1_good l)) 18) (kind1_record l) no_record (rw (← good, c.if-good.true))

pub returns : goal.returns
returns c =
    let good : (c.accepted_but_levels.result && ltb (get_or c.args.body.now 6 0) 8) ≡ kind1_good c.args.body.now = rw (number_of_1 c.args.body.now 6 (omega (arith, c.requires)), c.accepted_but_levels.ensures, c.spelled-opts.ensures, counted c.args.body.now) in
    let l = c.args.body.now in
    refused (refuse (not (kind1_good l)) 18) (OfLonghand Contents) (kind1_record l) no_record (rw (← good, c.if-good.false))
