-- The answer of reading a longhand record is known by its number and value. Assumes nothing.
use Rattle.std.specs.Prelude.{Result, Ok, Err}
use mathlib.Core.Path.{◌≡◌, refl}
use mathlib.Core.Bool.{cond}
use lib.Dec.{eqb}
use Rattle.settings.specs.Answers.{Answer}
use Rattle.settings.proofs.Known.{refusal_of, number_back, number_not_16, number_some, known_by}
use Rattle.longhands.specs.declared.longhand.Longhand.{Longhand}
use Rattle.longhands.specs.declared.longhand.Unread.{Unread}
use Rattle.longhands.specs.declared.longhand.Unread.TheVariants.{Kind, Refused as LonghandRefused}
use Rattle.longhands.specs.Longhand.{read_as}

-- an unknown kind has a place, and a number that is no refusal's
abbrev read_from : Answer Longhand → Result Longhand Unread
read_from a = cond (eqb a.no 0) (Ok a.value) (Err (cond (eqb a.no 16) (Kind a.value.after) (LonghandRefused (refusal_of a.no))))

read_back : (a : Result Longhand Unread) → read_from (read_as a) ≡ a
read_back (Ok h) = refl
read_back (Err (Kind place)) = refl
read_back (Err (LonghandRefused f)) = rw (number_some f, number_not_16 f, number_back f)

pub read_known : (a b : Result Longhand Unread) → read_as a ≡ read_as b → a ≡ b
read_known = known_by read_as read_from read_back
