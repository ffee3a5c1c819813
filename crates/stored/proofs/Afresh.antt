-- "Changing the pitch or the shifts of a stored layout gives the layout one would get afresh", about the calls: where the layout handed in isn't told to be another's, `change` answers what `level_regions` answers for the same record and the new shifts and pitch, 6 for a record that is none as well. First of the definitions. Assumes nothing.
use mathlib.Core.Path.{◌≡◌, refl, sym, ap, ◌∙◌}
use mathlib.Core.Bool.{Bool, true, false}
use mathlib.Core.List.{List}
use Prim.Native.Nat.{ℕ}
use contract.Lifetimes.{Lfts}
use Rattle.settings.specs.declared.super_opts.SuperOpts.{SuperOpts}
use Rattle.settings.specs.Check.{accepted}
use Rattle.settings.proofs.Outcome.{Promises}
use Rattle.layouts.specs.Refusals.{layout_no}
use Rattle.settings.proofs.Known.{outcome_known}
use Rattle.stored.specs.Layout.{is_stored, no_stored}
use Rattle.stored.specs.Refusals.{stored_no}
use Rattle.stored.specs.Answers.{layout_answer, settled_by, change_answer}
use Rattle.stored.proofs.layout.level_regions.Reads as level_regions_reads
use Rattle.stored.proofs.layout.change.Reads as change_reads

pub change_is_making : (r : SuperOpts) (l : List ℕ) (x y p : ℕ) → (stored_no r l ≡ 32 → ⊥) → change_answer r l x y p ≡ layout_answer (settled_by r x y p)
unfolding stored_no layout_no
change_is_making r l x y p other = go (accepted r) (is_stored r l) refl refl
  where
    go : (a s : Bool) → accepted r ≡ a → is_stored r l ≡ s → change_answer r l x y p ≡ layout_answer (settled_by r x y p)
    go false s e f = rw e refl
    go true true e f = rw (e, f) refl
    go true false e f = absurd (other (rw (e, f) refl))

-- of record, layout, shifts and pitch
pub change_afresh : (κs : Lfts 1) (κs' : Lfts 0) → Promises (change_reads.Post κs) (λ x a e. Promises (level_regions_reads.Post κs') (λ y b d. y.0 ≡ settled_by x.0 x.1.1.0 x.1.1.1.0 x.1.1.1.1.0 → (stored_no x.0 x.1.0.now ≡ 32 → ⊥) → a ≡ b))
change_afresh κs κs' x a e p y b d p' same other = outcome_known no_stored a b (p ∙ change_is_making x.0 x.1.0.now x.1.1.0 x.1.1.1.0 x.1.1.1.1.0 other ∙ ap layout_answer (sym same) ∙ sym p')
