-- What a call's contract is, what it promises, and that it has one outcome: the statements, and the law behind each proof of the last. `Post` is what the checker itself reads of a call's `ensures`: arguments, answer, references at exit. Assumes nothing.
use mathlib.Core.Path.{◌≡◌, sym, ◌∙◌}
use mathlib.Core.Logic.{◌↔◌}

-- the contract is `Says`, no less and no more
abbrev pub Contract : {X R E : Type 0} → (X → R → E → Type 0) → (X → R → E → Type 0) → Type 0
Contract {X} {R} {E} Post Says = (x : X) (r : R) (e : E) → Post x r e ↔ Says x r e

-- where it is written so
pub both_ways : {A : Type 0} → A ↔ A
both_ways = (λ a. a, λ a. a)

-- `Says` follows from it
abbrev pub Promises : {X R E : Type 0} → (X → R → E → Type 0) → (X → R → E → Type 0) → Type 0
Promises {X} {R} {E} Post Says = (x : X) (r : R) (e : E) → Post x r e → Says x r e

-- two outcomes that meet a call's contract are alike in all that is seen of them: the answer, and what is left in the slices that were lent
abbrev pub OneOutcome : {X R E O : Type 0} → (X → R → E → Type 0) → (R → E → O) → Type 0
OneOutcome {X} {R} {E} Post seen = (x : X) (r s : R) (e f : E) → Post x r e → Post x s f → seen r e ≡ seen s f

-- what is known by its value under f is determined by an equation for that value
pub determined : {A B : Type 0} {f : A → B} → ((a b : A) → f a ≡ f b → a ≡ b) → {a b : A} {owed : B} → f a ≡ owed → f b ≡ owed → a ≡ b
determined known {a} {b} p q = known a b (p ∙ sym q)

-- a plain value is known by itself
pub itself : {A : Type 0} (a b : A) → a ≡ b → a ≡ b
itself a b e = e
