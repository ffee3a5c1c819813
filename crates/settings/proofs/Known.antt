-- Answers and their numbers: a refusal's number is not 0; what a call gives by its number; and an answer is known by its number and value. Assumes nothing.
use Rattle.std.specs.Prelude.{Result, Ok, Err, ⊤}
use mathlib.Core.Path.{◌≡◌, refl, sym, ap, ◌∙◌}
use mathlib.Core.Bool.{false, cond}
use Prim.Native.Nat.{ℕ, zero, suc}
use native.Mathlib.Omega.{arith}
use borrow.Author.Tests.{ne_eqb}
use lib.Dec.{eqb}
use Rattle.settings.specs.declared.refusal.Refusal.{Refusal}
use Rattle.settings.specs.declared.refusal.Refusal.TheVariants.{Setting, NoRecord, Layout, Lent, Levels, Longhand, NoRow, Word as BadCode, Planes}
use Rattle.settings.specs.declared.refusal.BadSetting.TheVariants.{Pel, Gpu, Finest, Lean, Side}
use Rattle.settings.specs.declared.refusal.BadLayout.TheVariants.{Shift, Pitch, Stored}
use Rattle.settings.specs.declared.refusal.BadLent.TheVariants.{SourcePitch, Source, Frame, Spill, Scratch}
use Rattle.settings.specs.declared.refusal.BadLonghand.TheVariants.{Short, Length, Contents}
use Rattle.settings.specs.declared.refusal.BadWord.TheVariants.{NoCode, Halving, Upscale}
use Rattle.settings.specs.declared.refusal.BadPlanes.TheVariants.{Side as ShortSide, Full as NotFull}
use Rattle.settings.specs.Numbers.{◌then◌}
use Rattle.settings.specs.Answers.{Answer, answer, if_done, number, tested, outcome}

-- ---- a refusal's number tells which refusal it is, and is not 0
-- the refusal of a number
abbrev pub refusal_of : ℕ → Refusal
refusal_of n = cond (eqb n 1) (Setting Pel) (cond (eqb n 2) (Setting Gpu) (cond (eqb n 3) (Setting Finest) (cond (eqb n 4) (Setting Lean) (cond (eqb n 5) (Setting Side) (cond (eqb n 6) NoRecord (cond (eqb n 7) (Layout Shift) (cond (eqb n 8) (Layout Pitch) (cond (eqb n 32) (Layout Stored) (cond (eqb n 9) (Lent SourcePitch) (cond (eqb n 10) (Lent Source) (cond (eqb n 11) (Lent Frame) (cond (eqb n 12) (Lent Spill) (cond (eqb n 13) (Lent Scratch) (cond (eqb n 14) Levels (cond (eqb n 15) (Longhand Short) (cond (eqb n 17) (Longhand Length) (cond (eqb n 18) (Longhand Contents) (cond (eqb n 19) NoRow (cond (eqb n 20) (BadCode NoCode) (cond (eqb n 21) (BadCode Halving) (cond (eqb n 22) (BadCode Upscale) (cond (eqb n 23) (Planes ShortSide) (Planes NotFull)))))))))))))))))))))))

pub number_back : (f : Refusal) → refusal_of (number f) ≡ f
number_back (Setting Pel) = refl
number_back (Setting Gpu) = refl
number_back (Setting Finest) = refl
number_back (Setting Lean) = refl
number_back (Setting Side) = refl
number_back NoRecord = refl
number_back (Layout Shift) = refl
number_back (Layout Pitch) = refl
number_back (Layout Stored) = refl
number_back (Lent SourcePitch) = refl
number_back (Lent Source) = refl
number_back (Lent Frame) = refl
number_back (Lent Spill) = refl
number_back (Lent Scratch) = refl
number_back Levels = refl
number_back (Longhand Short) = refl
number_back (Longhand Length) = refl
number_back (Longhand Contents) = refl
number_back NoRow = refl
number_back (BadCode NoCode) = refl
number_back (BadCode Halving) = refl
number_back (BadCode Upscale) = refl
number_back (Planes ShortSide) = refl
number_back (Planes NotFull) = refl

-- a number that goes back to the last refusal alone is the last's or none's
none_of : (f : Refusal) (n : ℕ) → refusal_of n ≡ Planes NotFull → (n ≡ 24 → ⊥) → number f ≡ n → ⊥
none_of f n back other e = let last : f ≡ Planes NotFull = sym (number_back f) ∙ ap refusal_of e ∙ back in other (sym e ∙ ap number last)

number_not_0 : (f : Refusal) → number f ≡ 0 → ⊥
number_not_0 f = none_of f 0 refl (λ e. omega arith)

-- an unknown kind's number is no refusal's
pub number_not_16 : (f : Refusal) → eqb (number f) 16 ≡ false
number_not_16 f = ne_eqb (number f) 16 (none_of f 16 refl (λ e. omega arith))

pub number_some : (f : Refusal) → eqb (number f) 0 ≡ false
number_some f = ne_eqb (number f) 0 (number_not_0 f)

then_some : (m n : ℕ) → (m ≡ 0 → ⊥) → m ≡ (m then n)
then_some zero n h = absurd (h refl)
then_some (suc m) n h = refl

pub number_then : (f : Refusal) (n : ℕ) → number f ≡ (number f then n)
number_then f n = then_some (number f) n (number_not_0 f)

-- ---- an answer by its number
pub given : {A : Type 0} (n : ℕ) (a none : A) → n ≡ 0 → answer 0 a ≡ if_done n a none
given n a none e = rw e

pub refused : {A : Type 0} (n : ℕ) (f : Refusal) (a none : A) → number f ≡ n → answer (number f) none ≡ if_done n a none
refused n f a none e = rw (← e, number_some f)

-- the number of an answer
pub number_of : {B : Type 0} {m n : ℕ} {a b : B} → answer m a ≡ answer n b → m ≡ n
number_of {B} e = ap (λ (x : Answer B). x.no) e

-- the value of an answer whose number is 0, and of one whose number isn't
pub value_done : {B : Type 0} {m n : ℕ} {a : B} (b none : B) → answer m a ≡ if_done n b none → n ≡ 0 → a ≡ b
value_done {B} b none e z = ap (λ (x : Answer B). x.value) e ∙ ap (λ (n : ℕ). cond (eqb n 0) b none) z

pub value_given : {B : Type 0} {n : ℕ} {a : B} (b none : B) → answer 0 a ≡ if_done n b none → a ≡ b
value_given b none e = value_done b none e (sym (number_of e))

pub value_refused : {B : Type 0} {m n : ℕ} {a : B} (b none : B) → answer m a ≡ if_done n b none → (n ≡ 0 → ⊥) → a ≡ none
value_refused {B} b none e some = ap (λ (x : Answer B). x.value) e ∙ rw (ne_eqb _ 0 some) refl

-- ---- an answer is known by its number and value
-- f is known by its value, where g takes it back
pub known_by : {A B : Type 0} (f : A → B) (g : B → A) → ((a : A) → g (f a) ≡ a) → (a b : A) → f a ≡ f b → a ≡ b
known_by f g back a b e = sym (back a) ∙ ap g e ∙ back b

abbrev tested_from : ℕ → Result ⊤ Refusal
tested_from n = cond (eqb n 0) (Ok tt) (Err (refusal_of n))

tested_back : (a : Result ⊤ Refusal) → tested_from (tested a) ≡ a
tested_back (Ok tt) = refl
tested_back (Err f) = rw (number_some f, number_back f)

pub tested_known : (a b : Result ⊤ Refusal) → tested a ≡ tested b → a ≡ b
tested_known = known_by tested tested_from tested_back

module _ {A : Type 0} (none : A) where
  abbrev outcome_from : Answer A → Result A Refusal
  outcome_from a = cond (eqb a.no 0) (Ok a.value) (Err (refusal_of a.no))

  outcome_back : (a : Result A Refusal) → outcome_from (outcome none a) ≡ a
  outcome_back (Ok x) = refl
  outcome_back (Err f) = rw (number_some f, number_back f)

  pub outcome_known : (a b : Result A Refusal) → outcome none a ≡ outcome none b → a ≡ b
  outcome_known = known_by (outcome none) outcome_from outcome_back
