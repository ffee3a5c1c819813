-- Stages that have room in a frame and its spill read and store there alone: they keep every notion that allows it. Assumes nothing.
-- First later levels and kernels, inside the frame; then level 1 from the source plane, pairs, and refining whole, that reach into the spill.
use mathlib.Core.Path.{◌≡◌, refl}
use mathlib.Core.Bool.{false}
use mathlib.Core.List.{List}
use mathlib.Core.Logic.{◌⊎◌, inl}
use Prim.Native.Nat.{ℕ, ◌+◌, ◌*◌, ◌≤◌, ◌<◌}
use native.Mathlib.Omega.{arith}
use lib.Dec.{eqb}
use borrow.Author.Tests.{eqb-true, eqb-false}
use Rattle.filters.specs.declared.halving.ReduceFilter.{ReduceFilter}
use Rattle.filters.specs.declared.halving.ReduceFilter.TheVariants.{Cubic}
use Rattle.filters.specs.declared.half_pel.HalfPel.{HalfPel}
use Rattle.filters.specs.declared.half_pel.Upscale.{Upscale}
use Rattle.filters.specs.declared.half_pel.Upscale.TheVariants.{Means, Kernel}
use Rattle.layouts.specs.declared.layout.Region.{Region}
use Rattle.layouts.proofs.Loops.{row_in, row_fits}
use Rattle.builder.specs.declared.refining.Interp.{Interp}
use Rattle.builder.specs.Halving.{from_stored, fused, from_source}
use Rattle.builder.specs.Refining.{mean_planes, chunked, plane_at, kernel_planes, half_planes, pairs, quarter, refine}
use Rattle.builder.specs.Room.{Within, Spread, PairPlane, OnePlane, Planes, Halves, Tight}
use Rattle.builder.proofs.Lines.{line_reads, whole_or}
use Rattle.builder.proofs.Halves.{row_within, source_within, halves_within}
use Rattle.builder.proofs.Refined.{plane_fits, pair_fits, first_row_fits, horizontal_fits, vertical_fits, halves_two, halves_four, pel_four, planes_at, planes_fewer, quarter_fits, table_row}
use Rattle.builder.proofs.Spreads.{spread_at, closed_row}
use Rattle.builder.proofs.Related.{Bytes, Kernels, Ups, Rel}
use Rattle.builder.proofs.Stages.{Respects, Keeps, Notion, OneNeed, PairNeed, UnderNeed, folds, stored_kept, fused_kept, source_kept, pair_kept, means_kept, kernel_kept, refine_kept}

-- whatever lies in len bytes may be read and stored
pub record Allows {E : ℕ → ℕ → Type 0} (N : Notion E) (len : ℕ) : Type 0 where
  pub sees : (at n : ℕ) → at + n ≤ len → N.Sees at n
  pub takes : (at n : ℕ) → at + n ≤ len → N.Takes at n

pub allows_less : {E : ℕ → ℕ → Type 0} {N : Notion E} {len long : ℕ} → len ≤ long → Allows N long → Allows N len
allows_less le A = record { sees = λ at n fits. A.sees at n (omega arith); takes = λ at n fits. A.takes at n (omega arith) }

-- ---- inside the frame
module _ {E : ℕ → ℕ → Type 0} (B : Bytes E) {N : Notion E} {len : ℕ} (A : Allows N len) where
  module _ {scratch base p : ℕ} {t : Region} (w : Within len scratch base p t) where
    pub stored_placed : (f : ReduceFilter) → Keeps N.R (from_stored f base p t)
    stored_placed f =
        let k = whole_or f (2 * t.width) in
        stored_kept B N f base p t (λ y lt. A.takes _ _ (halves_within w lt)) (λ y lt. A.sees _ _ (halves_within w lt)) (λ y lt. line_reads A.sees f k.0 k.1 (source_within w refl) lt)

    pub fused_placed : Keeps N.R (fused base p t)
    fused_placed = fused_kept B N base p t w.fits (λ y lt. A.takes _ _ (row_within w lt)) (λ y lt. line_reads A.sees Cubic (omega arith) (inl refl) (source_within w refl) lt)

  one_placed : {scratch rows t s : ℕ} {i : Interp} → OnePlane len scratch rows i t s → OneNeed N i rows t s
  one_placed {rows = rows} {t = t} {s = s} {i = i} o =
      record {
        target = λ y lt. A.takes _ _ (row_fits len t i.width i.pitch i.height y o.fits o.target lt);
        source = λ y lt. A.sees _ _ (row_fits len s i.width i.pitch rows y o.fits o.source lt);
      }

  pub kernel_placed : {scratch : ℕ} {i : Interp} (k : HalfPel) → Kernels E k → (a b d : ℕ) → Halves a b d → Planes (d + 1) len scratch i → Keeps N.R (kernel_planes k i a b d)
  kernel_placed {i = i} k K a b d h P =
      kernel_kept B N k K i a b d
      (one_placed (horizontal_fits P a (plane_at i a) 0 0 (omega (arith, h.across, h.below)) refl (omega arith) (omega arith)))
      (one_placed (vertical_fits P b (plane_at i b) (omega (arith, h.below)) (omega (arith, h.first, h.across, h.below)) refl))
      (one_placed (horizontal_fits P d (plane_at i d) b (plane_at i b) (omega arith) refl (omega (arith, h.below)) refl))

  -- planes of means, whose pairs have room
  means_placed : {scratch : ℕ} {i : Interp} (a b d : ℕ) → Halves a b d → Planes (d + 1) len scratch i → ((j x : ℕ) → j < d + 1 → x ≤ i.pitch + 1 → PairNeed N i (plane_at i j) 0 x) → Keeps N.R (mean_planes i a b d)
  means_placed {i = i} a b d h P mean =
      let under : (j x s : ℕ) → j < d + 1 → x ≤ i.pitch + 1 → s ≤ 1 → UnderNeed N i (plane_at i j) x s = λ j x s lt near few. let f = first_row_fits P j (plane_at i j) s lt refl few in record { pair = mean j x lt near; from = A.sees _ _ f.0; to = A.takes _ _ f.1 } in
      means_kept B N i a b d (mean a 1 (omega (arith, h.across, h.below)) (omega arith)) (under b i.pitch 0 (omega (arith, h.below)) (omega arith) (omega arith)) (under d (i.pitch + 1) 1 (omega arith) (omega arith) (omega arith))

  -- no row reaches past its plane
  pub tight_placed : {scratch : ℕ} {i : Interp} → Tight i → (a b d : ℕ) → Halves a b d → Planes (d + 1) len scratch i → Keeps N.R (mean_planes i a b d)
  tight_placed {i = i} T a b d h P =
      means_placed a b d h P
      (λ j x lt near.
      let row : (y : ℕ) → y < i.height → y * i.pitch + chunked i.width ≤ i.height * i.pitch = λ y l. omega (arith, row_in y i.height i.pitch l, T.rows) in
      let second = plane_fits P 1 (plane_at i 1) (omega (arith, h.below)) refl in
      record {
        target = λ y l. A.takes _ _ (omega (arith, row y l, plane_fits P j (plane_at i j) lt refl));
        left = λ y l. A.sees _ _ (omega (arith, row y l, second));
        right = λ y l. A.sees _ _ (omega (arith, row y l, second, T.near));
      })

-- ---- into the spill
module _ {E : ℕ → ℕ → Type 0} (B : Bytes E) {N : Notion E} (len spill : ℕ) (A : Allows N (len + spill)) where
  pub source_placed : {n sp scratch p : ℕ} {t : Region} → Spread n sp len spill scratch p t → (f : ReduceFilter) (src src' : List ℕ) → Rel E src src' → Respects N.R (from_source f src sp p t) (from_source f src' sp p t)
  source_placed {sp = sp} {p = p} {t = t} s f src src' same =
      source_kept B N f src src' sp p t same
      (λ y lt. A.takes _ _ (omega (arith, spread_at s lt, s.fits)))
      (λ y lt. A.sees _ _ (omega (arith, spread_at s lt, s.fits)))
      (λ y some lt. (A.sees _ _ (omega (arith, spread_at s lt)), A.takes _ _ (closed_row t.offset y t.height p s.beyond lt)))

  -- a pair's last row can end up to 15 bytes past its plane
  pair_placed : {scratch t l r : ℕ} {i : Interp} → PairPlane len spill scratch i t l r → PairNeed N i t l r
  pair_placed {i = i} P =
      let row : (y : ℕ) → y < i.height → y * i.pitch + i.pitch ≤ i.height * i.pitch = λ y lt. row_in y i.height i.pitch lt in
      record {
        target = λ y lt. A.takes _ _ (omega (arith, row y lt, P.fits, P.target, P.beyond));
        left = λ y lt. A.sees _ _ (omega (arith, row y lt, P.fits, P.left, P.beyond));
        right = λ y lt. A.sees _ _ (omega (arith, row y lt, P.fits, P.right, P.beyond));
      }

  module _ {scratch : ℕ} {i : Interp} (beyond : 16 ≤ spill) where
    half_placed : (u : Upscale) → Ups E u → (a b d : ℕ) → Halves a b d → Planes (d + 1) len scratch i → Keeps N.R (half_planes u i a b d)
    unfolding half_planes
    half_placed Means z a b d h P =
        means_placed B (allows_less (omega arith) A) a b d h P (λ j x lt near. pair_placed (pair_fits P j (plane_at i j) x spill lt (omega (arith, h.below)) refl near beyond))
    half_placed (Kernel k) K a b d h P = kernel_placed B (allows_less (omega arith) A) k K a b d h P

    pub refine_placed : (u : Upscale) → Ups E u → (pel : ℕ) → (pel ≡ 2) ⊎ (pel ≡ 4) → Planes (pel * pel) len scratch i → Keeps N.R (refine i pel u)
    unfolding quarter
    refine_placed u z pel known P =
        let four : eqb pel 2 ≡ false → Planes 16 len scratch i = λ e. planes_at (pel_four known (eqb-false pel 2 e)) P in
        refine_kept i pel u
        (λ e. half_placed u z 1 2 3 halves_two (planes_at (eqb-true pel 2 e) P))
        (λ e. half_placed u z 2 8 10 halves_four (planes_fewer (four e) (omega arith)))
        (λ e. folds (quarter i) pairs (λ k lt. pair_kept B N _ _ _ _ (pair_placed (quarter_fits spill _ _ _ (four e) (table_row k lt) beyond refl refl refl))))
