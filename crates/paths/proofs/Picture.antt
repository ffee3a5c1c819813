-- Order 2's sentences (`OnePicture` of specs/Paths.antt), of a level that both ways can make in a frame that building accepts. Assumes nothing.
-- First where rows and margins lie; then what zeroing margins and generic halving leave as it is; then the equation and the sentences, about the definitions; last about the two functions, whose contracts stand there beside `Post`, what the checker itself reads of a call's `ensures`.
use mathlib.Core.Path.{◌≡◌, refl, ap, ◌∙◌}
use mathlib.Core.List.{List}
use mathlib.Core.Logic.{◌⊎◌, inl, inr, ⊎_elim}
use Prim.Native.Nat.{ℕ, ◌+◌, ◌*◌, ◌-◌, ◌≤◌, ◌<◌}
use native.Mathlib.Nat.{mul-le-mul_right}
use native.Mathlib.Omega.{arith}
use lib.ListN.{length, get_or, replicate, get_or-replicate}
use contract.Lifetimes.{Lfts}
use Rattle.settings.proofs.Outcome.{Contract, both_ways, Promises}
use Rattle.filters.specs.declared.halving.ReduceFilter.{ReduceFilter}
use Rattle.filters.specs.declared.halving.ReduceFilter.TheVariants.{Cubic}
use Rattle.filters.proofs.Tests.{below_or}
use Rattle.layouts.specs.declared.layout.Layout.{Layout}
use Rattle.layouts.specs.declared.layout.Region.{Region}
use Rattle.layouts.specs.Storing.{put}
use Rattle.layouts.specs.Layout.{width_at, offset_at, region_at}
use Rattle.layouts.specs.Margins.{clear_from}
use Rattle.layouts.proofs.Loops.{row_in}
use Rattle.builder.specs.Halving.{whole_of, from_stored, fused}
use Rattle.builder.specs.Room.{Within}
use Rattle.builder.proofs.Runs.{put_at, put_before}
use Rattle.builder.proofs.Halves.{row_within}
use Rattle.builder.proofs.Related.{any_bytes}
use Rattle.builder.proofs.Placed.{stored_placed}
use Rattle.builder.proofs.halving.reduce_cubic.Reads as reduce_cubic_reads
use Rattle.builder.proofs.halving.reduce_within.Reads as reduce_within_reads
use Rattle.planes.proofs.Prepared.{cubic_whole, within_here}
use Rattle.planes.proofs.Whole.{ready}
use Rattle.planes.proofs.Enough.{length_kept}
use Rattle.builder.proofs.Swaps.{steps_keep}
use Rattle.demands.proofs.Kept.{Has, Off, KeepsByte, has_after, steps_hit, stored_off, clear_off}
use Rattle.paths.specs.Paths.{fused_halving, generic_halving, BothWays, ForLevel, MarginsZeroed, place_at, OnePicture}
use Rattle.paths.proofs.Equation.{zeros_long, margin_keeps, two_paths}

-- ---- rows p apart from o on
-- column j of row y, past the first n columns: in those of no row
pub off_front : (o p y z j n : ℕ) → n ≤ j → j < p → Off (o + y * p + j) (o + z * p) n
off_front o p y z j n from to = ⊎_elim (λ (lt : y < z). inl (omega (arith, row_in y z p lt))) (λ (le : z ≤ y). inr (omega (arith, mul-le-mul_right p le))) (below_or y z)

-- and among them: in no margin
off_margin : (o p y z j n : ℕ) → j < n → n ≤ p → Off (o + y * p + j) (o + z * p + n) (p - n)
off_margin o p y z j n in' fits = ⊎_elim (λ (lt : z < y). inr (omega (arith, row_in z y p lt))) (λ (le : y ≤ z). inl (omega (arith, mul-le-mul_right p le))) (below_or z y)

module _ {len scratch base p : ℕ} {t : Region} (w : Within len scratch base p t) where
  abbrev n : ℕ
  n = 2 * t.width

  abbrev zeros : List ℕ
  zeros = replicate (p - n) 0

  -- row y, column j
  abbrev place : ℕ → ℕ → ℕ
  place y j = t.offset + y * p + j

  -- ---- zeroing margins
  clear_long : (d : List ℕ) → length d ≡ len → length (clear_from n t p d) ≡ len
  unfolding clear_from
  clear_long d e = steps_keep (λ x. length x ≡ len) _ t.height d (margin_keeps w) e

  clear_zero : (d : List ℕ) (y j : ℕ) → y < t.height → n ≤ j → j < p → get_or (clear_from n t p d) (place y j) 0 ≡ 0
  unfolding clear_from
  clear_zero d y j lt from to =
      steps_hit (λ x. Unit) (λ x. get_or x (place y j) 0 ≡ 0) _ t.height y d lt tt (λ z x l u. tt)
      (λ x u.
      let e : place y j ≡ place y n + (j - n) = omega arith in
      ap (λ (k : ℕ). get_or (put x (place y n) zeros) k 0) e ∙ put_at x zeros (place y n) (j - n) (omega (arith, zeros_long w)) ∙ get_or-replicate (p - n) (j - n) 0 0 (omega arith))
      (λ z x l later e. put_before x zeros (place z n) (place y j) (omega (arith, row_in y z p later)) ∙ e)

  -- ---- generic halving
  pub stored_long : (f : ReduceFilter) (c : List ℕ) → length c ≡ len → length (from_stored f base p t c) ≡ len
  stored_long f c e = length_kept (λ N A. stored_placed any_bytes A w f) c e

  -- a byte that lies in no row of the level
  others_kept : {i v : ℕ} → (i < t.offset) ⊎ (t.offset + t.height * p ≤ i) → KeepsByte i v (from_stored Cubic base p t) × KeepsByte i v (clear_from n t p)
  others_kept {i} apart =
      let off : (z at k : ℕ) → z < t.height → t.offset + z * p ≤ at → at + k ≤ t.offset + z * p + p → Off i at k = λ z at k m from to. ⊎_elim (λ (lt : i < t.offset). inl (omega arith)) (λ (le : t.offset + t.height * p ≤ i). inr (omega (arith, row_in z t.height p m))) apart in
      (stored_off Cubic base p t (λ z m. off z _ n m (omega arith) (omega (arith, w.fits))), clear_off n p t (λ z m. off z _ (p - n) m (omega arith) (omega (arith, w.fits))))

-- ---- about the definitions
module _ (q : Layout) (l : ℕ) (c : List ℕ) (b : BothWays q (length c) l) where
  -- what the two functions require of frame and level is there
  pub both_met : Within (length c) b.scratch (offset_at q (l - 1)) q.pitch (region_at q l) × (whole_of Cubic (2 * width_at q l) ≡ 2 * width_at q l)
  both_met =
      (within_here q (ready q b.source b.src_pitch (length c) b.spill b.scratch b.accepts) l b.later b.there refl refl b.stored, cubic_whole (offset_at q (l - 1)) q.pitch (region_at q l) (length c) b.fits)

  pub one_equation : MarginsZeroed q l (fused_halving q l c) (generic_halving q l c)
  one_equation = two_paths both_met.0 both_met.1 c refl

  pub one_picture : OnePicture q l c (fused_halving q l c) (generic_halving q l c)
  one_picture =
      let w = both_met.0 in
      let g = generic_halving q l c in
      let long = stored_long w Cubic c refl in
      let cleared : (i : ℕ) → get_or (fused_halving q l c) i 0 ≡ get_or (clear_from (2 * width_at q l) (region_at q l) q.pitch g) i 0 = λ i. ap (λ (x : List ℕ). get_or x i 0) one_equation in
      record {
        fused_long = ap length one_equation ∙ clear_long w g long;
        generic_long = long;
        agree = λ y j lt in'.
            cleared (place_at q l y j)
            ∙ (has_after {c = g} (clear_off (2 * width_at q l) q.pitch (region_at q l) (λ z m. off_margin (offset_at q l) q.pitch y z j (2 * width_at q l) in' w.fits))
            (record { there = omega (arith, long, row_within w lt, w.fits); is = refl })).is;
        zeroed = λ y j lt from to. cleared (place_at q l y j) ∙ clear_zero w g y j lt from to;
        kept = λ y j lt from to. (has_after {c = c} (stored_off Cubic (offset_at q (l - 1)) q.pitch (region_at q l) (λ z m. off_front (offset_at q l) q.pitch y z j (2 * width_at q l) from to)) (record { there = omega (arith, row_within w lt); is = refl })).is;
        others = λ i lt apart.
            let k = others_kept w {i = i} {v = get_or c i 0} apart in
            let has : Has i (get_or c i 0) g = has_after k.0 (record { there = lt; is = refl }) in
            (cleared i ∙ (has_after k.1 has).is, has.is);
      }

-- ---- about the functions: frame, scratch, base, pitch and target; before them, of `reduce_within`, the filter
pub reduce_cubic_contract : (κs : Lfts 2) → Contract (reduce_cubic_reads.Post κs) (λ x u e. e.0.now ≡ fused x.1.1.0 x.1.1.1.0 x.1.1.1.1.0 x.0.now)
reduce_cubic_contract κs x u e = both_ways

pub reduce_within_contract : (κs : Lfts 2) → Contract (reduce_within_reads.Post κs) (λ x u e. e.1.0.now ≡ from_stored x.0 x.1.1.1.0 x.1.1.1.1.0 x.1.1.1.1.1.0 x.1.0.now)
reduce_within_contract κs x u e = both_ways

-- called for level l of q on one frame
module _ (κs κs' : Lfts 2) (q : Layout) (l : ℕ) where
  abbrev Called : ((c f g : List ℕ) → Type 0) → Type 0
  Called Says = Promises (reduce_cubic_reads.Post κs) (λ x u f. Promises (reduce_within_reads.Post κs') (λ y v g. BothWays q (length x.0.now) l → ForLevel q l x.1.1.0 x.1.1.1.0 x.1.1.1.1.0 → ForLevel q l y.1.1.1.0 y.1.1.1.1.0 y.1.1.1.1.1.0 → y.0 ≡ Cubic → y.1.0.now ≡ x.0.now → Says x.0.now f.0.now g.1.0.now))

  called : (Says : (c f g : List ℕ) → Type 0) → ((c : List ℕ) → BothWays q (length c) l → Says c (fused_halving q l c) (generic_halving q l c)) → Called Says
  called Says law x u f p y v g p' b here here' cubic same =
      let by_fused : f.0.now ≡ fused_halving q l x.0.now = (reduce_cubic_contract κs x u f).0 p ∙ rw (here.base_is, here.pitch_is, here.target_is) refl in
      let by_rows : g.1.0.now ≡ generic_halving q l x.0.now = (reduce_within_contract κs' y v g).0 p' ∙ rw (cubic, here'.base_is, here'.pitch_is, here'.target_is, same) refl in
      rw (by_fused, by_rows) (law x.0.now b)

  pub functions_equation : Called (λ c f g. MarginsZeroed q l f g)
  functions_equation = called (λ c f g. MarginsZeroed q l f g) (one_equation q l)

  pub functions_picture : Called (OnePicture q l)
  functions_picture = called (OnePicture q l) (one_picture q l)
