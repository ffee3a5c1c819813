-- A full build with the fused path on and off, where the margins of the levels that are fused are zeros before: the canvas is the same, and the margins are zeros still. Assumes nothing.
-- The reason: halving stores 2 * width bytes of a row, and nothing else of a full build reaches the margin of a level that is fused; so one that was zeros still is when its level is made and when a later one reads it, and zeroing it changes nothing.
-- First zeros stored over zeros; then where margins lie; then a level; last all of them, and the build.
use mathlib.Core.Path.{◌≡◌, refl, sym, ap, subst, ◌∙◌}
use mathlib.Core.Bool.{Bool, true, false, cond, ◌||◌}
use mathlib.Core.List.{List}
use mathlib.Core.Logic.{inl, inr, ⊎_elim}
use Prim.Native.Nat.{ℕ, ◌+◌, ◌*◌, ◌-◌, ◌≤◌, ◌<◌}
use native.Mathlib.Nat.{mul-le-mul_right, eq-or-lt_of_le}
use native.Mathlib.Omega.{arith}
use lib.Dec.{leb, eqb}
use lib.IntN.{ℤ}
use lib.ListN.{length, get_or, replicate, length-replicate, get_or-replicate}
use lib.Seq.{ext_get_or}
use borrow.Author.Tests.{eqb-false}
use Rattle.settings.specs.Numbers.{is_nat}
use Rattle.settings.proofs.Accepted.{is_nat_pos}
use Rattle.filters.specs.declared.halving.ReduceFilter.{ReduceFilter}
use Rattle.filters.specs.declared.halving.ReduceFilter.TheVariants.{Cubic}
use Rattle.std.specs.declared.option.Option.{Option}
use Rattle.std.specs.declared.option.Option.TheVariants.{Some, None}
use Rattle.filters.specs.Halve.{chosen}
use Rattle.filters.specs.Refine.{upscale}
use Rattle.filters.proofs.Tests.{below_or}
use Rattle.layouts.specs.declared.layout.Layout.{Layout}
use Rattle.layouts.specs.Storing.{put}
use Rattle.layouts.specs.Layout.{levels_of, width_at, height_at, stored_at, offset_at, region_at}
use Rattle.layouts.specs.Margins.{fused_at, clear_from}
use Rattle.layouts.specs.Room.{Ready}
use Rattle.layouts.proofs.Choices.{cond_yes}
use Rattle.layouts.proofs.Loops.{row_in}
use Rattle.layouts.proofs.Layouts.{allowed, offset_first, offset_mono, offset_apart, bytes_later, width_first}
use Rattle.layouts.proofs.Stored.{stored_some}
use Rattle.builder.specs.Halving.{from_stored, from_source}
use Rattle.builder.specs.Room.{Within}
use Rattle.builder.proofs.Runs.{put_length, put_before, put_at, put_past}
use Rattle.builder.proofs.Related.{any_bytes, any_ups, any_row}
use Rattle.builder.proofs.Placed.{allows_less}
use Rattle.planes.specs.Build.{copied, level_by, halved_by, refined, built_by}
use Rattle.planes.proofs.Prepared.{fused_four, fused_wide, fused_whole, within_here}
use Rattle.planes.proofs.Parts.{refined_kept}
use Rattle.planes.proofs.Whole.{copied_placed}
use Rattle.planes.proofs.Built.{refining_placed}
use Rattle.planes.proofs.Enough.{length_kept}
use Rattle.demands.proofs.Kept.{Has, Off, has_after, copied_past, stored_off, refined_past}
use Rattle.paths.specs.Paths.{fused_halving, generic_halving, place_at, ZeroMargins, FusedMarginsZero}
use Rattle.builder.proofs.Swaps.{steps_keep, steps_alike}
use Rattle.paths.proofs.Equation.{two_paths}
use Rattle.paths.proofs.Picture.{off_front, stored_long}

-- ---- zeros stored over zeros
put_same : (c ys : List ℕ) (at : ℕ) → at + length ys ≤ length c → ((i : ℕ) → i < length ys → get_or ys i 0 ≡ get_or c (at + i) 0) → put c at ys ≡ c
put_same c ys at fits same =
    ext_get_or 0 (put c at ys) c (put_length c at ys fits)
    (λ i h.
    ⊎_elim
    (λ (lt : i < at). put_before c ys at i lt)
    (λ (from : at ≤ i).
    let j = i - at in
    let is : i ≡ at + j = omega arith in
    ⊎_elim
    (λ (lt : j < length ys). ap (λ (k : ℕ). get_or (put c at ys) k 0) is ∙ put_at c ys at j lt ∙ same j lt ∙ ap (λ (k : ℕ). get_or c k 0) (sym is))
    (λ (le : length ys ≤ j). put_past c ys at i (omega arith))
    (below_or j (length ys)))
    (below_or i at))

-- margins of level l that are zeros, zeroed again
clear_same : (q : Layout) (l : ℕ) {len scratch base : ℕ} → Within len scratch base q.pitch (region_at q l) → (c : List ℕ) → length c ≡ len → ZeroMargins q l c → clear_from (2 * width_at q l) (region_at q l) q.pitch c ≡ c
unfolding clear_from
clear_same q l w c long zero' =
    let n = 2 * width_at q l in
    let p = q.pitch in
    let h = height_at q l in
    let zeros : List ℕ = replicate (p - n) 0 in
    let zeros_long : length zeros ≡ p - n = length-replicate (p - n) 0 in
    steps_alike (λ d. d ≡ c) (λ y d. put d (place_at q l y n) zeros) (λ y d. d) h (λ y d lt e. e)
    (λ y d lt e.
    ap (λ (x : List ℕ). put x (place_at q l y n) zeros) e
    ∙ put_same c zeros (place_at q l y n) (omega (arith, row_in y h p lt, w.target, w.fits))
    (λ i m. get_or-replicate (p - n) i 0 0 (omega arith) ∙ sym (ap (λ (k : ℕ). get_or c k 0) (let f : place_at q l y n + i ≡ place_at q l y (n + i) = omega arith in f) ∙ zero' y (n + i) lt (omega arith) (omega arith)))
    ∙ sym e)
    c refl
    ∙ steps_keep (λ d. d ≡ c) (λ y d. d) h c (λ y d lt e. e) refl

-- the filter that the fused cubic stands for
cubic_chosen : (z : ℤ) (f : ReduceFilter) → chosen z ≡ Some f → is_nat z 4 ≡ true → Cubic ≡ f
unfolding chosen
cubic_chosen z f e four = let is = ap chosen (is_nat_pos z 4 four) in let both : Some Cubic ≡ Some f = sym is ∙ e in cc

-- ---- a canvas of frame and spill whose fused levels have margins of zeros
pub record Clean (q : Layout) (len long : ℕ) (c : List ℕ) : Type 0 where
  pub same : length c ≡ long
  pub margins : FusedMarginsZero q len c

module _ (q : Layout) {m sp len spill scratch : ℕ} (r : Ready q m sp len spill scratch) (full : q.opts.full ≡ true) where
  abbrev Zeros : List ℕ → Type 0
  Zeros = Clean q len (len + spill)

  pub stored_yes : (l : ℕ) → (q.opts.full || leb 2 l) ≡ true
  stored_yes l = rw full

  within : (l : ℕ) → 1 ≤ l → l < levels_of q → Within (len + spill) scratch (offset_at q (l - 1)) q.pitch (region_at q l)
  within l some there =
      let w = within_here q r l some there refl refl (stored_yes l) in
      record { some = w.some; high = w.high; fits = w.fits; source = w.source; target = omega (arith, w.target); room = w.room }

  margin_in : (l y j : ℕ) → 1 ≤ l → l < levels_of q → y < height_at q l → j < q.pitch → place_at q l y j < len + spill
  margin_in l y j some there lt to = omega (arith, row_in y (height_at q l) q.pitch lt, (within l some there).target)

  -- the rows of level k are no margins of level l
  level_apart : (k l y j z : ℕ) → 1 ≤ k → k < levels_of q → 1 ≤ l → l < levels_of q → y < height_at q l → 2 * width_at q l ≤ j → j < q.pitch → z < height_at q k → Off (place_at q l y j) (offset_at q k + z * q.pitch) (2 * width_at q k)
  level_apart k l y j z sk tk sl tl ly from to lz =
      let p = q.pitch in
      let row-l = row_in y (height_at q l) p ly in
      let row-k = row_in z (height_at q k) p lz in
      ⊎_elim
      (λ (lt : l < k). inl (omega (arith, row-l, offset_apart q l k lt, bytes_later q l sl)))
      (λ (ge : k ≤ l).
      ⊎_elim
      (λ (e : k ≡ l).
      rw e (off_front (offset_at q l) p y z j (2 * width_at q l) from to))
      (λ (lt : k < l). inr (omega (arith, row-k, (within k sk tk).fits, offset_apart q k l lt, bytes_later q k sk)))
      (eq-or-lt_of_le ge))
      (below_or l k)

  -- a plane of level 0 lies before them
  first_before : (l : ℕ) → 1 ≤ l → height_at q 0 * q.pitch ≤ offset_at q l
  first_before l some =
      let h = height_at q 0 in
      let one : h ≤ stored_at q 0 * h = omega (arith, row_in 0 (stored_at q 0) h (stored_some q (allowed q r.layout) 0 (inl full))) in
      omega (arith, mul-le-mul_right q.pitch one, offset_apart q 0 l some, offset_first q)

  -- a stage that leaves the margins' bytes, and the length
  stays : (stage : List ℕ → List ℕ) (c : List ℕ) → Zeros c → length (stage c) ≡ len + spill → ((l y j : ℕ) → 1 ≤ l → l < levels_of q → fused_at q len l ≡ true → y < height_at q l → 2 * width_at q l ≤ j → j < q.pitch → Has (place_at q l y j) 0 c → Has (place_at q l y j) 0 (stage c)) → Zeros (stage c)
  stays stage c clean long keeps =
      record {
        same = long;
        margins = λ l sl tl fl y j lt from to. (keeps l y j sl tl fl lt from to (record { there = omega (arith, margin_in l y j sl tl lt to, clean.same); is = clean.margins l sl tl fl y j lt from to })).is;
      }

  -- ---- a level
  stored_zeros : (f : ReduceFilter) (k : ℕ) → 1 ≤ k → k < levels_of q → (c : List ℕ) → Zeros c → Zeros (from_stored f (offset_at q (k - 1)) q.pitch (region_at q k) c)
  stored_zeros f k sk tk c clean =
      stays (from_stored f (offset_at q (k - 1)) q.pitch (region_at q k)) c clean (stored_long (within k sk tk) f c clean.same)
      (λ l y j sl tl fl lt from to. has_after (stored_off f (offset_at q (k - 1)) q.pitch (region_at q k) (λ z lz. level_apart k l y j z sk tk sl tl lt from to lz)))

  fused_generic : (l : ℕ) → 1 ≤ l → l < levels_of q → fused_at q len l ≡ true → (c : List ℕ) → Zeros c → fused_halving q l c ≡ generic_halving q l c
  fused_generic l some there e c clean =
      let w = within l some there in
      let after = stored_zeros Cubic l some there c clean in
      two_paths w (fused_whole q len l e) c clean.same ∙ clear_same q l w (generic_halving q l c) after.same (after.margins l some there e)

  module _ (src : List ℕ) where
    level_same : (f : ReduceFilter) → (is_nat q.opts.scale_down 4 ≡ true → Cubic ≡ f) → (l : ℕ) → 1 ≤ l → l < levels_of q → (c : List ℕ) → Zeros c → level_by true q src sp len f l c ≡ level_by false q src sp len f l c
    unfolding level_by
    level_same f is l some there c clean = go (fused_at q len l) refl
      where
        go : (t : Bool) → fused_at q len l ≡ t → cond t (fused_halving q l c) (cond (q.opts.full || leb 2 l) (from_stored f (offset_at q (l - 1)) q.pitch (region_at q l) c) (from_source f src sp q.pitch (region_at q l) c)) ≡ cond (q.opts.full || leb 2 l) (from_stored f (offset_at q (l - 1)) q.pitch (region_at q l) c) (from_source f src sp q.pitch (region_at q l) c)
        go true e = fused_generic l some there e c clean ∙ ap (λ (g : ReduceFilter). from_stored g (offset_at q (l - 1)) q.pitch (region_at q l) c) (is (fused_four q len l e)) ∙ rw (stored_yes l)
        go false e = refl

    level_zeros : (f : ReduceFilter) (l : ℕ) → 1 ≤ l → l < levels_of q → (c : List ℕ) → Zeros c → Zeros (level_by false q src sp len f l c)
    unfolding level_by
    level_zeros f l some there c clean = rw (stored_yes l) (stored_zeros f l some there c clean)

    -- ---- all of them, and the build
    halved_same : (k : Option ReduceFilter) → chosen q.opts.scale_down ≡ k → (c : List ℕ) → Zeros c → halved_by true q src sp len k c ≡ halved_by false q src sp len k c
    unfolding halved_by
    halved_same (Some f) e c clean =
        steps_alike Zeros (λ i. level_by true q src sp len f (i + 1)) (λ i. level_by false q src sp len f (i + 1)) (levels_of q - 1)
        (λ i d lt h. level_zeros f (i + 1) (omega arith) (omega arith) d h)
        (λ i d lt h. level_same f (cubic_chosen q.opts.scale_down f e) (i + 1) (omega arith) (omega arith) d h)
        c clean
    halved_same None e c clean = refl

    first_zeros : 1 ≤ levels_of q → (c : List ℕ) → Zeros c → Zeros (cond q.opts.full (copied q src sp c) c)
    first_zeros some c clean =
        subst Zeros (sym (cond_yes q.opts.full (copied q src sp c) c full))
        (stays (copied q src sp) c clean (length_kept (λ N A. copied_placed any_bytes q src src r (allows_less (omega arith) A) any_row some full) c clean.same)
        (λ l y j sl tl fl lt from to. has_after (copied_past q src sp (width_first q (allowed q r.layout) full) (omega (arith, first_before l sl)))))

    pub built_same : (c : List ℕ) → Zeros c → built_by true q src sp len c ≡ built_by false q src sp len c
    unfolding built_by
    built_same c clean = go (eqb (levels_of q) 0) refl
      where
        go : (t : Bool) → eqb (levels_of q) 0 ≡ t → cond t c (refined q (halved_by true q src sp len (chosen q.opts.scale_down) (cond q.opts.full (copied q src sp c) c))) ≡ cond t c (refined q (halved_by false q src sp len (chosen q.opts.scale_down) (cond q.opts.full (copied q src sp c) c)))
        go true e = refl
        go false e =
            let some : 1 ≤ levels_of q = omega (arith, eqb-false (levels_of q) 0 e) in
            ap (refined q) (halved_same (chosen q.opts.scale_down) refl (cond q.opts.full (copied q src sp c) c) (first_zeros some c clean))

    -- and the margins are zeros still
    halved_zeros : (k : Option ReduceFilter) (c : List ℕ) → Zeros c → Zeros (halved_by false q src sp len k c)
    unfolding halved_by
    halved_zeros (Some f) c clean = steps_keep Zeros (λ i. level_by false q src sp len f (i + 1)) (levels_of q - 1) c (λ i d lt h. level_zeros f (i + 1) (omega arith) (omega arith) d h) clean
    halved_zeros None c clean = clean

    refined_zeros : 1 ≤ levels_of q → (c : List ℕ) → Zeros c → Zeros (refined q c)
    refined_zeros some c clean =
        stays (refined q) c clean (length_kept (λ N A. refined_kept q (refining_placed any_bytes q r A (λ z. any_ups (upscale q.opts.scale_up)) some)) c clean.same)
        (λ l y j sl tl fl lt from to. has_after (refined_past q r some full (omega (arith, fused_wide q len l fl, offset_mono q 1 l sl))))

    pub built_zeros : (c : List ℕ) → Zeros c → Zeros (built_by false q src sp len c)
    unfolding built_by
    built_zeros c clean = go (eqb (levels_of q) 0) refl
      where
        go : (t : Bool) → eqb (levels_of q) 0 ≡ t → Zeros (cond t c (refined q (halved_by false q src sp len (chosen q.opts.scale_down) (cond q.opts.full (copied q src sp c) c))))
        go true e = clean
        go false e =
            let some : 1 ≤ levels_of q = omega (arith, eqb-false (levels_of q) 0 e) in
            refined_zeros some _ (halved_zeros (chosen q.opts.scale_down) _ (first_zeros some c clean))
