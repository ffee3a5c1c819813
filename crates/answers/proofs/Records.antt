-- Numbers that are a record's, and those that are none's. Assumes nothing.
use mathlib.Core.Path.{◌≡◌, refl, sym, ap, ◌∙◌}
use mathlib.Core.Bool.{Bool, true, false, not, ◌&&◌}
use mathlib.Core.List.{List}
use Prim.Native.Nat.{◌≤◌}
use native.Mathlib.Omega.{arith}
use lib.Dec.{eqb}
use lib.IntN.{ℤ}
use lib.ListN.{length}
use borrow.Author.Tests.{eqb-true}
use Rattle.settings.specs.declared.super_opts.SuperOpts.{SuperOpts}
use Rattle.settings.specs.Numbers.{is_nat, refuse}
use Rattle.settings.specs.Check.{accepted, settings_no, record_no}
use Rattle.settings.specs.Answers.{no_record}
use Rattle.settings.proofs.Tests.{and_left}
use Rattle.answers.specs.Fields.{flag, numbers_of, at, is_bit, are_fields, fields_of, record_of}

pub no_record_of : (l : List ℤ) → are_fields l ≡ false → no_record ≡ record_of l
unfolding record_of
no_record_of l e = rw e

pub record_fields : (l : List ℤ) → are_fields l ≡ true → fields_of l ≡ record_of l
unfolding record_of
record_fields l e = rw e

pub record_long : (l : List ℤ) → are_fields l ≡ true → 10 ≤ length l
unfolding are_fields
record_long l e =
    let ten = eqb-true (length l) 10 (and_left (eqb (length l) 10) (is_bit (at l 4)) (and_left (eqb (length l) 10 && is_bit (at l 4)) (is_bit (at l 5)) (and_left (eqb (length l) 10 && is_bit (at l 4) && is_bit (at l 5)) (is_bit (at l 6)) e))) in
    omega arith

-- ---- numbers that are no record's are 6
zeros_refused : accepted no_record ≡ false
unfolding accepted settings_no
zeros_refused = refl

pub no_record_refused : (l : List ℤ) → are_fields l ≡ false → record_no (record_of l) ≡ 6
no_record_refused l e = ap record_no (sym (no_record_of l e)) ∙ ap (λ (b : Bool). refuse (not b) 6) zeros_refused

-- ---- a record's numbers are that record's: what `sill_check` tells, each other call takes
flag_is : (b : Bool) → is_bit (flag b) ≡ true
flag_is true = refl
flag_is false = refl

flag_back : (b : Bool) → is_nat (flag b) 1 ≡ b
flag_back true = refl
flag_back false = refl

is_record_lem : (r : SuperOpts) → are_fields (numbers_of r) ≡ true
unfolding are_fields
is_record_lem r = rw (flag_is r.full, flag_is r.rc, flag_is r.lean)

pub numbers_back : (r : SuperOpts) → record_of (numbers_of r) ≡ r
numbers_back r = sym (record_fields (numbers_of r) (is_record_lem r)) ∙ rw (flag_back r.full, flag_back r.rc, flag_back r.lean)
