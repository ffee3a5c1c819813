-- `field_at` meets its contract: the part of that number, of those that `split` gives. Assumes nothing.
use Rattle.std.proofs.Common.{◌≡◌, ℕ, List, Bor, eqb, get_or, Option, Some, None, ap, ◌∙◌, rules, tests}
use Rattle.std.specs.List.{slice_get, slice_split}
use Rattle.std.specs.Option.{option_map, unwrap_or}
use Rattle.std.proofs.lemmas.Iterator.Consumers.{nth_from_yields_List}
use Rattle.std.proofs.lemmas.Iterator.Splits.{YieldsList-from_slice_split}
use Rattle.std.proofs.lemmas.Option.{unwrap_or-slice_get}
use Rattle.longhand_lines.proofs.fields.field_at.Goals as goal

abbrev now : Bor (List ℕ) → List ℕ
now x = x.now

part_or : (o : Option (Bor (List ℕ))) (r d : Bor (List ℕ)) (ls : List (List ℕ)) (k : ℕ) → option_map now o ≡ slice_get ls k → r ≡ unwrap_or o d → now r ≡ get_or ls k (now d)
part_or None r d ls k part is = ap now is ∙ ap (λ (o : Option (List ℕ)). unwrap_or o (now d)) part ∙ unwrap_or-slice_get ls k (now d)
part_or (Some x) r d ls k part is = ap now is ∙ ap (λ (o : Option (List ℕ)). unwrap_or o (now d)) part ∙ unwrap_or-slice_get ls k (now d)

pub returns : goal.returns
returns c =
    let line = c.args.line.now in
    let part : option_map now c.nth.result ≡ slice_get (slice_split (λ b. eqb b 32) line) c.args.k = nth_from_yields_List c.nth.result c.nth.new.self c.args.k c.nth.ensures.ran (YieldsList-from_slice_split _ (λ (b : ℕ). eqb b 32) line c.split.ensures.rest c.split.ensures.done c.split.ensures.closure (λ x b q k. search (rules, tests))) in
    part_or c.nth.result c.unwrap_or.result _ _ c.args.k part c.unwrap_or.ensures
