-- What a call tells, by the answer of the call that it makes. Assumes nothing.
use mathlib.Core.Path.{◌≡◌, refl, ap, ◌∙◌}
use mathlib.Core.Bool.{Bool, true, false, cond, ◌&&◌}
use mathlib.Core.List.{List}
use Prim.Native.Nat.{ℕ}
use lib.Dec.{eqb, leb, ltb}
use lib.ListN.{length}
use Rattle.settings.specs.declared.refusal.Refusal.{Refusal}
use Rattle.settings.specs.Answers.{Answer, answer, if_done, number, written}
use Rattle.settings.proofs.Known.{number_some, number_of, value_given}
use Rattle.answers.specs.Lent.{lowest, tells}

chosen_some : (n : ℕ) (low short : Bool) → eqb n 0 ≡ false → eqb (cond low n (cond short 15 n)) 0 ≡ false
chosen_some n true short h = h
chosen_some n false true h = refl
chosen_some n false false h = h

-- a refusal stays one
lowest_some : (f : Refusal) (short : Bool) → eqb (lowest (number f) short) 0 ≡ false
lowest_some f short = chosen_some (number f) (leb 1 (number f) && ltb (number f) 15) short (number_some f)

kept : {A : Type 0} (n : ℕ) (a lent : List A) → eqb n 0 ≡ false → answer n lent ≡ if_done n a lent
kept n a lent h = rw h

-- r is the number where the call that was made refuses by f, and k numbers would have been told
pub tell_refused : {A : Type 0} {n k r : ℕ} (f : Refusal) (values lent : List A) → number f ≡ n → r ≡ lowest (number f) (ltb (length lent) k) → k ≡ length values → answer r lent ≡ tells n values lent
tell_refused f values lent e low long =
    ap (λ (x : ℕ). answer x lent) (low ∙ ap (λ (x : ℕ). lowest (number f) (ltb (length lent) x)) long)
    ∙ kept (lowest (number f) (ltb (length lent) (length values))) (written values lent) lent (lowest_some f (ltb (length lent) (length values)))
    ∙ ap (λ (x : ℕ). tells x values lent) e

-- x is what is left where it gives a, and v are the numbers of a
pub tell_given : {A B : Type 0} {n : ℕ} {a : B} {v : List A} {x : Answer (List A)} (values : B → List A) (lent : List A) (b none : B) → answer 0 a ≡ if_done n b none → v ≡ values a → x ≡ tells 0 v lent → x ≡ tells n (values b) lent
tell_given {A} values lent b none e same put =
    put
    ∙ ap (λ (l : List A). tells 0 l lent) (same ∙ ap values (value_given b none e))
    ∙ ap (λ (m : ℕ). tells m (values b) lent) (number_of e)
