-- The body of kind 1: an accepted record is read back from its body, and a good body is its record's. Assumes nothing.
use mathlib.Core.Path.{◌≡◌, refl}
use mathlib.Core.Bool.{Bool, true, false}
use mathlib.Core.List.{List, ◌++◌}
use Prim.Native.Nat.{ℕ, zero, suc, ◌+◌, ◌*◌, ◌≤◌, ◌<◌}
use native.Mathlib.Omega.{arith}
use lib.Dec.{ltb}
use lib.ListN.{length, take, drop}
use lib.Seq.{take-add, take_all}
use borrow.Author.Tests.{ltb-true}
use Rattle.settings.specs.declared.super_opts.SuperOpts.{SuperOpts}
use Rattle.settings.specs.Numbers.{to_nat, is_i32, bit, bits_of}
use Rattle.settings.specs.Check.{accepted, pel_of, luma_w, luma_h}
use Rattle.settings.specs.Reading.{is_set}
use Rattle.settings.proofs.Integers.{of_bits_back, bits_back, bits_small, of_bits_fit}
use Rattle.settings.proofs.Accepted.{fine, sound, within, pos_pel, pos_gpu, pos_side}
use Rattle.longhands.specs.LittleEndian.{bytes, little_endian, number_at}
use Rattle.longhands.specs.Kind1.{flags_of, kind1_body, flags_at, kind1_record, kind1_good}
use Rattle.longhands.proofs.Bytes.{value_back, part_back, part_small}

pub body_long : (r : SuperOpts) → length (kind1_body r) ≡ 15
unfolding kind1_body little_endian
body_long r = refl

-- ---- flags
record Flags (f : ℕ) (a b c : Bool) : Type 0 where
  full : is_set f 0 ≡ a
  rc : is_set f 1 ≡ b
  lean : is_set f 2 ≡ c
  spare : ltb f 8 ≡ true

flags_told : (a b c : Bool) → Flags (bit a + 2 * bit b + 4 * bit c) a b c
flags_told false false false = record { full = refl; rc = refl; lean = refl; spare = refl }
flags_told false false true = record { full = refl; rc = refl; lean = refl; spare = refl }
flags_told false true false = record { full = refl; rc = refl; lean = refl; spare = refl }
flags_told false true true = record { full = refl; rc = refl; lean = refl; spare = refl }
flags_told true false false = record { full = refl; rc = refl; lean = refl; spare = refl }
flags_told true false true = record { full = refl; rc = refl; lean = refl; spare = refl }
flags_told true true false = record { full = refl; rc = refl; lean = refl; spare = refl }
flags_told true true true = record { full = refl; rc = refl; lean = refl; spare = refl }

flags_back : (f : ℕ) → f < 8 → bit (is_set f 0) + 2 * bit (is_set f 1) + 4 * bit (is_set f 2) ≡ f
flags_back zero h = refl
flags_back (suc zero) h = refl
flags_back (suc (suc zero)) h = refl
flags_back (suc (suc (suc zero))) h = refl
flags_back (suc (suc (suc (suc zero)))) h = refl
flags_back (suc (suc (suc (suc (suc zero))))) h = refl
flags_back (suc (suc (suc (suc (suc (suc zero)))))) h = refl
flags_back (suc (suc (suc (suc (suc (suc (suc zero))))))) h = refl
flags_back (suc (suc (suc (suc (suc (suc (suc (suc f)))))))) h = absurd (omega arith)

-- ---- from a record to its body and back
module _ (r : SuperOpts) (good : accepted r ≡ true) (down_fits : is_i32 r.scale_down ≡ true) (up_fits : is_i32 r.scale_up ≡ true) where
  width_at_lem : number_at (kind1_body r) 0 2 ≡ luma_w r
  unfolding kind1_body little_endian
  width_at_lem = value_back 2 (luma_w r) (omega (arith, (within r good).width))

  height_at_lem : number_at (kind1_body r) 2 2 ≡ luma_h r
  unfolding kind1_body little_endian
  height_at_lem = value_back 2 (luma_h r) (omega (arith, (within r good).height))

  pel_at : number_at (kind1_body r) 4 1 ≡ pel_of r
  unfolding kind1_body little_endian
  pel_at = value_back 1 (pel_of r) (omega (arith, (within r good).pel))

  gpu_at : number_at (kind1_body r) 5 1 ≡ to_nat r.gpu
  unfolding kind1_body little_endian
  gpu_at = value_back 1 (to_nat r.gpu) (omega (arith, (within r good).gpu))

  told : Flags (flags_of r) r.full r.rc r.lean
  told = flags_told r.full r.rc r.lean

  flags_at_lem : flags_at (kind1_body r) ≡ flags_of r
  unfolding kind1_body little_endian
  flags_at_lem = value_back 1 (flags_of r) (omega (arith, ltb-true (flags_of r) 8 told.spare))

  down_at : number_at (kind1_body r) 7 4 ≡ bits_of r.scale_down
  unfolding kind1_body little_endian
  down_at = value_back 4 (bits_of r.scale_down) (bits_small r.scale_down down_fits)

  up_at : number_at (kind1_body r) 11 4 ≡ bits_of r.scale_up
  unfolding kind1_body little_endian
  up_at = value_back 4 (bits_of r.scale_up) (bits_small r.scale_up up_fits)

  pub record_back : kind1_record (kind1_body r) ≡ r
  unfolding kind1_record
  record_back =
      let f = fine r good in
      let s = sound r f.none in
      rw (width_at_lem, height_at_lem, pel_at, gpu_at, flags_at_lem, down_at, up_at, told.full, told.rc, told.lean, of_bits_back r.scale_down down_fits, of_bits_back r.scale_up up_fits, pos_pel r.pel s.pel, pos_gpu r.gpu s.gpu, pos_side r.width s.width, pos_side r.height s.height, ← f.levels)

  pub body_good : kind1_good (kind1_body r) ≡ true
  body_good = rw (record_back, good, flags_at_lem, told.spare)

-- ---- from a body to its record and back
-- the parts of fifteen bytes
joined : (b : List ℕ) → length b ≡ 15 → take 2 (drop 0 b) ++ take 2 (drop 2 b) ++ take 1 (drop 4 b) ++ take 1 (drop 5 b) ++ take 1 (drop 6 b) ++ take 4 (drop 7 b) ++ take 4 (drop 11 b) ≡ b
joined b long = rw (← take-add 2 2 b, ← take-add 4 1 b, ← take-add 5 1 b, ← take-add 6 1 b, ← take-add 7 4 b, ← take-add 11 4 b) (take_all 15 b (omega (arith, long)))

module _ (b : List ℕ) (are : bytes b ≡ true) (long : length b ≡ 15) where
  part : (i k : ℕ) → i + k ≤ 15 → little_endian k (number_at b i k) ≡ take k (drop i b)
  part i k h = part_back b i k are (omega (arith, long))

  small : (i : ℕ) → i + 4 ≤ 15 → number_at b i 4 < 4294967296
  small i h = part_small b i 4 are (omega (arith, long))

  pub down_read : is_i32 (kind1_record b).scale_down ≡ true
  unfolding kind1_record
  down_read = of_bits_fit (number_at b 7 4) (small 7 (omega arith))

  pub up_read : is_i32 (kind1_record b).scale_up ≡ true
  unfolding kind1_record
  up_read = of_bits_fit (number_at b 11 4) (small 11 (omega arith))

  pub body_back : ltb (flags_at b) 8 ≡ true → kind1_body (kind1_record b) ≡ b
  unfolding kind1_body kind1_record
  body_back spare =
      rw (flags_back (flags_at b) (ltb-true (flags_at b) 8 spare), bits_back (number_at b 7 4) (small 7 (omega arith)), bits_back (number_at b 11 4) (small 11 (omega arith)), part 0 2 (omega arith), part 2 2 (omega arith), part 4 1 (omega arith), part 5 1 (omega arith), part 6 1 (omega arith), part 7 4 (omega arith), part 11 4 (omega arith))
      (joined b long)
