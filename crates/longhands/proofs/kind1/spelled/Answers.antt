-- `spelled` meets its contract. Assumes nothing.
use mathlib.Core.Path.{◌≡◌, ap}
use Prim.Native.Nat.{ℕ, ◌/◌, ◌%◌}
use native.Mathlib.Omega.{arith}
use lib.Dec.{eqb}
use lib.ListN.{get_or}
use mir.Syntax.{w32}
use mir.Facts.{to_z_pos}
use borrow.Author.Rules.{rules}
use Rattle.settings.specs.Reading.{is_set}
use Rattle.settings.proofs.Integers.{same}
use Rattle.longhands.specs.Kind1.{kind1_record}
use Rattle.longhands.proofs.Bytes.{number_of_1}
use Rattle.longhands.proofs.kind1.spelled.Goals as goal

lowest_flag : (n : ℕ) → eqb (n % 2) 1 ≡ is_set n 0
lowest_flag n = ap (λ (m : ℕ). eqb (m % 2) 1) (whole n)
  where
    whole : (n : ℕ) → n ≡ n / 1
    whole n = omega arith

pub returns : goal.returns
unfolding kind1_record
returns c =
    let l = c.args.body.now in
    let w = c.number_2-width in
    let h = c.number_2-height in
    let wide = to_z_pos w32 {n = w.result} (omega (arith, w.type_inv)) in
    let high = to_z_pos w32 {n = h.result} (omega (arith, h.type_inv)) in
    rw (to_z_pos w32 {n = get_or l 4 0} (omega (arith, c.shared_slice_known-3-1.given 4)), to_z_pos w32 {n = get_or l 5 0} (omega (arith, c.shared_slice_known-4-1.given 5)), wide, high)
    (rw (same c.from_bits-2.result (search rules), same c.from_bits.result (search rules), same c.levels_of.result (search rules))
    (rw (c.from_bits-2.ensures, c.number_4-2.ensures, c.from_bits.ensures, c.number_4.ensures, c.levels_of.ensures, lowest_flag (get_or l 6 0), number_of_1 l 4 (omega (arith, c.requires)), number_of_1 l 5 (omega (arith, c.requires)), number_of_1 l 6 (omega (arith, c.requires))) (rw (wide, high, w.ensures, h.ensures))))
