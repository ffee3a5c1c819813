-- A row has as many bytes as it is asked for. Assumes nothing.
use mathlib.Core.Path.{◌≡◌}
use mathlib.Core.List.{List}
use Prim.Native.Nat.{ℕ}
use lib.ListN.{length}
use Rattle.filters.specs.declared.halving.ReduceFilter.{ReduceFilter}
use Rattle.filters.specs.declared.half_pel.HalfPel.{HalfPel}
use Rattle.filters.specs.Row.{Six, means_of, sixes}
use Rattle.filters.specs.Halve.{horizontal_row}
use Rattle.filters.specs.Refine.{half_sample, half_horizontal, half_vertical}
use Rattle.filters.proofs.Tables.{tab_length}

pub means_length : (n : ℕ) (a b : List ℕ) → length (means_of n a b) ≡ n
unfolding means_of
means_length n a b = tab_length _ n

pub sixes_length : (k : Six) (n : ℕ) (m2 m1 c0 p1 p2 p3 : List ℕ) → length (sixes k n m2 m1 c0 p1 p2 p3) ≡ n
unfolding sixes
sixes_length k n m2 m1 c0 p1 p2 p3 = tab_length _ n

pub horizontal_length : (f : ReduceFilter) (w : ℕ) (v : List ℕ) → length (horizontal_row f w v) ≡ w
unfolding horizontal_row
horizontal_length f w v = tab_length _ w

pub half_horizontal_length : (k : HalfPel) (n : ℕ) (r : List ℕ) → length (half_horizontal k n r) ≡ n
unfolding half_horizontal
half_horizontal_length k n r = tab_length _ n

pub half_vertical_length : (k : HalfPel) (y h n : ℕ) (m2 m1 c0 p1 p2 p3 : List ℕ) → length (half_vertical k y h n m2 m1 c0 p1 p2 p3) ≡ n
unfolding half_vertical
half_vertical_length k y h n = sixes_length (half_sample k y h) n
