-- Level 1 from the source plane: its rows lie in frame and spill, and a row halved in its place. Assumes nothing.
use mathlib.Core.Path.{◌≡◌, ap}
use mathlib.Core.List.{List}
use Prim.Native.Nat.{ℕ, ◌+◌, ◌*◌, ◌≤◌, ◌<◌}
use native.Mathlib.Omega.{arith}
use lib.ListN.{length, take}
use lib.Seq.{length-take-le}
use Rattle.filters.specs.declared.halving.ReduceFilter.{ReduceFilter}
use Rattle.filters.specs.Halve.{headed}
use Rattle.filters.specs.Inner.{Apart, reduced_apart}
use Rattle.filters.proofs.Pairs.{reduced_apart_lem}
use Rattle.layouts.specs.declared.layout.Region.{Region}
use Rattle.layouts.specs.Storing.{put}
use Rattle.layouts.proofs.Loops.{row_in}
use Rattle.builder.specs.Canvas.{fetch}
use Rattle.builder.specs.Halving.{halve_run}
use Rattle.builder.specs.Room.{Spread}
use Rattle.builder.proofs.Runs.{fetch_length}

-- ---- rows
-- row y of h that are 2 * p apart
pub spread_row : (t y h p : ℕ) {len : ℕ} → t + h * (2 * p) ≤ len → y < h → t + y * (2 * p) + 2 * p ≤ len
spread_row t y h p fits lt = omega (arith, row_in y h (2 * p) lt)

-- and where it closes up to
pub closed_row : (t y h p : ℕ) {len : ℕ} → t + h * (2 * p) ≤ len → y < h → t + y * p + p ≤ len
closed_row t y h p fits lt = omega (arith, row_in y h p lt)

pub spread_at : {n sp len spill scratch p y : ℕ} {t : Region} → Spread n sp len spill scratch p t → y < t.height → t.offset + y * (2 * p) + 2 * p ≤ len + spill
spread_at {p = p} {y = y} {t = t} s lt = spread_row t.offset y t.height p s.beyond lt

-- and scratch that came back as X holds it when it is halved
pub half_line : (w : ℕ) (X : List ℕ) {n : ℕ} → length X ≡ n → 2 * w ≤ n → length (take w X) ≡ w
half_line w X same fits = length-take-le w X (omega arith)

-- ---- a row halved in its place, from its pairs taken apart
pub halved_run : (f : ReduceFilter) (w at : ℕ) (c : List ℕ) {s : List ℕ} → 1 ≤ w → Apart w w (headed (fetch c at (2 * w))) s → put c at (reduced_apart f w s) ≡ halve_run f w at c
unfolding halve_run
halved_run f w at c some apart = ap (put c at) (reduced_apart_lem f (fetch c at (2 * w)) some (omega (arith, fetch_length c at (2 * w))) apart)
