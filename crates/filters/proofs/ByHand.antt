-- Document 01, "Checked by hand": its entries on means, kernels and a halved row, as one computed table. Assumes nothing.
use mathlib.Core.Path.{◌≡◌, refl}
use mathlib.Core.List.{[], ◌∷◌}
use Prim.Native.Nat.{ℕ}
use Rattle.filters.specs.declared.halving.ReduceFilter.TheVariants.{Bilinear, Quadratic, Cubic}
use Rattle.filters.specs.declared.half_pel.HalfPel.TheVariants.{CatmullRom, Wiener}
use Rattle.filters.specs.Row.{Six, tab, mean_of}
use Rattle.filters.specs.Halve.{weigh, headed, horizontal_at, horizontal_row}
use Rattle.filters.specs.Refine.{half_pel}

-- "c0 = p1 = 255, rest 0"
abbrev middle : Six → ℕ
middle k = k 0 0 255 255 0 0

-- "m1 = p2 = 255, rest 0"
abbrev flanks : Six → ℕ
flanks k = k 0 255 0 0 255 0

pub record ByHand : Type 0 where
  pub mean : mean_of 0 255 ≡ 128
  pub bilinear : middle (weigh Bilinear) ≡ 191
  pub quadratic : middle (weigh Quadratic) ≡ 175
  pub cubic : middle (weigh Cubic) ≡ 159
  pub bicubic : middle (half_pel CatmullRom) ≡ 255
  pub wiener : middle (half_pel Wiener) ≡ 255
  pub bicubic_flanks : flanks (half_pel CatmullRom) ≡ 0
  pub wiener_flanks : flanks (half_pel Wiener) ≡ 0
  pub row : horizontal_row Cubic 4 (0 ∷ 200 ∷ 30 ∷ 40 ∷ 50 ∷ 60 ∷ 70 ∷ 80 ∷ []) ≡ (100 ∷ 66 ∷ 55 ∷ 75 ∷ [])

pub by_hand : ByHand
unfolding horizontal_row horizontal_at headed tab half_pel
by_hand =
    record {
      mean = refl;
      bilinear = refl;
      quadratic = refl;
      cubic = refl;
      bicubic = refl;
      wiener = refl;
      bicubic_flanks = refl;
      wiener_flanks = refl;
      row = refl;
    }
