-- An answer put at the front of a slice that has room for it or hasn't. Assumes nothing.
use mathlib.Core.Path.{◌≡◌, ap}
use mathlib.Core.List.{List, ◌++◌}
use Prim.Native.Nat.{◌≤◌, ◌<◌}
use lib.ListN.{length, drop}
use borrow.Author.Tests.{lt-ltb, le-ltb}
use Rattle.settings.specs.Answers.{answer}
use Rattle.answers.specs.Lent.{tells}

pub put_short : {A : Type 0} (values lent : List A) → length lent < length values → answer 15 lent ≡ tells 0 values lent
put_short values lent h = rw (lt-ltb (length lent) (length values) h)

pub put_fits : {A : Type 0} {out : List A} (values lent : List A) → length values ≤ length lent → out ≡ values ++ drop (length values) lent → answer 0 out ≡ tells 0 values lent
put_fits values lent h e = rw (le-ltb (length lent) (length values) h) (ap (answer 0) e)
