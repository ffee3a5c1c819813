-- What a choice by a test gives. Assumes nothing.
use mathlib.Core.Path.{◌≡◌}
use mathlib.Core.Bool.{Bool, true, false, cond}

pub cond_yes : {A : Type 0} (t : Bool) (a b : A) → t ≡ true → cond t a b ≡ a
cond_yes t a b e = rw e

pub cond_no : {A : Type 0} (t : Bool) (a b : A) → t ≡ false → cond t a b ≡ b
cond_no t a b e = rw e
