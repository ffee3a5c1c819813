-- The fused cubic is the generic one with the rows' margins zeroed, in a frame of len bytes. Assumes nothing.
-- A row of the fused cubic is three stores: its vertical values, their halves, zeros. A later row's stores commute with an earlier row's later ones, since its vertical values are read off the source alone, which lies before the level: so one loop over rows is three.
use mathlib.Core.Path.{◌≡◌, refl, sym, ap, ◌∙◌}
use mathlib.Core.List.{List}
use mathlib.Core.Logic.{inl}
use Prim.Native.Nat.{ℕ, ◌+◌, ◌*◌, ◌-◌, ◌≤◌, ◌<◌}
use native.Mathlib.Omega.{arith}
use lib.ListN.{length, replicate, length-replicate}
use Rattle.filters.specs.declared.halving.ReduceFilter.TheVariants.{Cubic}
use Rattle.filters.specs.Halve.{horizontal_row}
use Rattle.filters.proofs.Lengths.{horizontal_length}
use Rattle.layouts.specs.declared.layout.Region.{Region}
use Rattle.layouts.specs.Storing.{put, steps}
use Rattle.layouts.specs.Margins.{clear_from}
use Rattle.layouts.proofs.Loops.{row_in}
use Rattle.builder.specs.Canvas.{fetch}
use Rattle.builder.specs.Halving.{whole_of, vertical_line, vertical_rows, halve_run, horizontal_rows, from_stored, fused_line, fused}
use Rattle.builder.specs.Room.{Source, Within}
use Rattle.builder.proofs.Runs.{fetch_before, put_length}
use Rattle.builder.proofs.Lines.{line_length, line_reads}
use Rattle.builder.proofs.Related.{same_bytes, rel_same, same_row, rel_line}
use Rattle.builder.proofs.Halves.{fused_run, row_within}
use Rattle.builder.proofs.Swaps.{fetch_after, stores_swap, steps_keep, steps_alike, steps_two}

module _ {len scratch base p : ℕ} {t : Region} (w : Within len scratch base p t) where
  abbrev n : ℕ
  n = 2 * t.width

  abbrev at : ℕ → ℕ
  at y = t.offset + y * p

  abbrev line : ℕ → List ℕ → List ℕ
  line y d = vertical_line Cubic n n t.height d base p y

  abbrev half : ℕ → List ℕ → List ℕ
  half y d = horizontal_row Cubic t.width (fetch d (at y) n)

  abbrev zeros : List ℕ
  zeros = replicate (p - n) 0

  -- the three stores of a row
  abbrev values : ℕ → List ℕ → List ℕ
  values y d = put d (at y) (line y d)

  abbrev halves : ℕ → List ℕ → List ℕ
  halves y d = put d (at y) (half y d)

  abbrev margin : ℕ → List ℕ → List ℕ
  margin y d = put d (at y + n) zeros

  abbrev Long : List ℕ → Type 0
  Long d = length d ≡ len

  line_long : (y : ℕ) (d : List ℕ) → length (line y d) ≡ n
  line_long y d = line_length Cubic n n t.height d base p y (omega arith)

  half_long : (y : ℕ) (d : List ℕ) → length (half y d) ≡ t.width
  half_long y d = horizontal_length Cubic t.width (fetch d (at y) n)

  pub zeros_long : length zeros ≡ p - n
  zeros_long = length-replicate (p - n) 0

  values_keeps : (y : ℕ) (d : List ℕ) → y < t.height → Long d → Long (values y d)
  values_keeps y d lt e = put_length d (at y) (line y d) (omega (arith, row_within w lt, w.fits, line_long y d)) ∙ e

  halves_keeps : (y : ℕ) (d : List ℕ) → y < t.height → Long d → Long (halves y d)
  halves_keeps y d lt e = put_length d (at y) (half y d) (omega (arith, row_within w lt, w.fits, half_long y d)) ∙ e

  pub margin_keeps : (y : ℕ) (d : List ℕ) → y < t.height → Long d → Long (margin y d)
  margin_keeps y d lt e = put_length d (at y + n) zeros (omega (arith, row_within w lt, w.fits, zeros_long)) ∙ e

  -- vertical values are read off the source, and so before any run that is stored in the level
  line_kept : (y a : ℕ) (d ys : List ℕ) → y < t.height → t.offset ≤ a → line y (put d a ys) ≡ line y d
  line_kept y a d ys lt past =
      same_row _ _ (line_long y (put d a ys) ∙ sym (line_long y d))
      (rel_line same_bytes (put d a ys) d (λ s k fits. rel_same (fetch_before d ys a s k (omega arith))) Cubic n n t.height base p y (line_reads (λ s k fits. fits) Cubic (omega arith) (inl refl) from lt))
    where
      from : Source t.offset base p n t.height
      from = record { rows = omega (arith, w.source, w.fits) }

  values_halves : (i j : ℕ) (d : List ℕ) → i < j → j < t.height → Long d → values j (halves i d) ≡ halves i (values j d)
  values_halves i j d lt in' e =
      stores_swap (at i) (at j) (half i) (line j) d (omega (arith, half_long i d, row_in i j p lt, w.fits)) (omega (arith, row_within w in'))
      (line_kept j (at i) d (half i d) in' (omega arith))
      (ap (horizontal_row Cubic t.width) (fetch_before d (line j d) (at j) (at i) n (omega (arith, row_in i j p lt, w.fits))))

  values_margin : (i j : ℕ) (d : List ℕ) → i < j → j < t.height → Long d → values j (margin i d) ≡ margin i (values j d)
  values_margin i j d lt in' e =
      stores_swap (at i + n) (at j) (λ c. zeros) (line j) d (omega (arith, zeros_long, row_in i j p lt, w.fits)) (omega (arith, row_within w in'))
      (line_kept j (at i + n) d zeros in' (omega arith)) refl

  halves_margin : (i j : ℕ) (d : List ℕ) → i < j → j < t.height → Long d → halves j (margin i d) ≡ margin i (halves j d)
  halves_margin i j d lt in' e =
      let past : at i + n + length zeros ≤ at j = omega (arith, zeros_long, row_in i j p lt, w.fits) in
      stores_swap (at i + n) (at j) (λ c. zeros) (half j) d past (omega (arith, row_within w in'))
      (ap (horizontal_row Cubic t.width) (fetch_after d zeros (at i + n) (at j) n past)) refl

  -- ---- the equation
  pub two_paths : whole_of Cubic (2 * t.width) ≡ 2 * t.width → (c : List ℕ) → length c ≡ len → fused base p t c ≡ clear_from (2 * t.width) t p (from_stored Cubic base p t c)
  unfolding fused from_stored vertical_rows horizontal_rows halve_run clear_from
  two_paths whole c e =
      let h = t.height in
      steps_alike Long (λ y d. put d (at y) (fused_line p t.width (line y d))) (λ y d. margin y (halves y (values y d))) h
      (λ y d l q. margin_keeps y _ l (halves_keeps y _ l (values_keeps y d l q)))
      (λ y d l q. sym (fused_run p t.width (at y) d (line y d) (line_long y d) w.fits (omega (arith, row_within w l))))
      c e
      ∙ steps_two Long values (λ y d. margin y (halves y d)) h values_keeps (λ y d l q. margin_keeps y _ l (halves_keeps y d l q))
      (λ i j d a b q. values_margin i j (halves i d) a b (halves_keeps i d (omega arith) q) ∙ ap (margin i) (values_halves i j d a b q))
      c e
      ∙ steps_two Long halves margin h halves_keeps margin_keeps halves_margin (steps values h c) (steps_keep Long values h c values_keeps e)
      ∙ rw whole refl
