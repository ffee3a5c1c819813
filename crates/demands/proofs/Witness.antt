-- A plane by which two settings of a filter that isn't told are known apart, at every size: luma, all 255, source pitch W, pitch W + 16, a frame of zeros.
-- Level 1's first byte is 255 where down is 0 (a mean of 255s), and stays 0 where down is 5. The last byte of row 0 of the horizontal plane is 128 where up is 0 (a mean with the margin), and 255 where up is 1 (a copy).
-- With pitch W + 16 no row of a pair leaves its own plane's bytes, so nothing later overwrites these. Assumes nothing.
use mathlib.Core.Path.{◌≡◌, refl, sym, ap, ◌∙◌, subst}
use mathlib.Core.List.{List, ◌++◌}
use mathlib.Core.Bool.{Bool, true, false, cond, ◌&&◌, ◌||◌}
use mathlib.Core.Logic.{◌⊎◌, inl, ⊎_elim}
use Prim.Native.Nat.{ℕ, suc, ◌+◌, ◌*◌, ◌-◌, ◌≤◌, ◌<◌}
use native.Mathlib.Nat.{mul_comm, mul_assoc, one-mul}
use native.Mathlib.Omega.{arith}
use lib.Dec.{ltb, eqb}
use lib.ListN.{length, get_or, replicate, length-append, length-replicate, get_or-replicate, get_or-append}
use lib.Seq.{get_or-take}
use borrow.Author.Tests.{eqb-true, ne_eqb, eqb-false}
use Rattle.settings.specs.declared.super_opts.SuperOpts.{SuperOpts}
use Rattle.settings.specs.Numbers.{total, is_nat, to_nat}
use Rattle.settings.specs.Sizes.{reduced}
use Rattle.settings.specs.Check.{accepted, pel_of, luma_w, luma_h, level_count}
use Rattle.settings.proofs.Tests.{and_left, and_right, or_none, clash}
use Rattle.settings.proofs.Accepted.{fine}
use Rattle.filters.specs.declared.halving.ReduceFilter.TheVariants.{Average}
use Rattle.filters.specs.declared.halving.ReduceFilter.{ReduceFilter}
use Rattle.std.specs.declared.option.Option.{Option}
use Rattle.std.specs.declared.option.Option.TheVariants.{Some, None}
use Rattle.filters.specs.declared.half_pel.HalfPel.{HalfPel}
use Rattle.filters.specs.declared.half_pel.Upscale.{Upscale}
use Rattle.filters.specs.declared.half_pel.Upscale.TheVariants.{Means, Kernel}
use Rattle.filters.specs.Row.{mean_of}
use Rattle.filters.specs.Halve.{chosen}
use Rattle.filters.specs.Refine.{upscale}
use Rattle.layouts.specs.declared.layout.Layout.{Layout}
use Rattle.layouts.specs.Layout.{levels_of, offset_at, width_at, height_at, region_at, written_end, spill_need}
use Rattle.layouts.specs.Margins.{fused_at}
use Rattle.layouts.proofs.Loops.{row_in}
use Rattle.layouts.proofs.Layouts.{offset_first, offset_mono}
use Rattle.layouts.proofs.Stored.{pel_some, pel_more, sides}
use Rattle.builder.specs.declared.refining.Interp.{Interp}
use Rattle.builder.specs.Refining.{pairs, plane_at, half_planes, refine}
use Rattle.builder.proofs.Refined.{pel_four}
use Rattle.builder.proofs.Stages.{refine_kept}
use Rattle.planes.specs.Build.{planes_of, copied, level_by, halved_by, built_by, frame_by, halve_level, halved, refines, refined, built}
use Rattle.planes.proofs.Parts.{halved_kept, refined_kept}
use Rattle.demands.specs.Demands.{Inputs, leaves}
use Rattle.demands.proofs.Kept.{Has, KeepsByte, has_after, Four, In, cases, steps_first, copied_grows, copied_has, copied_margin, copied_past, level_off, level_keeps, stored_first, source_first, plane_after, fold_keeps, half_keeps, half_means, half_kernel}

-- ---- an accepted record with a level is 4 by 4 at least
pub sizes : (r : SuperOpts) → accepted r ≡ true → 1 ≤ level_count r → (4 ≤ luma_w r) × (4 ≤ luma_h r)
unfolding reduced
sizes r e lv = sides (luma_w r) (luma_w r) (luma_h r) 0 (omega (arith, ap to_nat (fine r e).levels))

-- ---- the stages of a build
built_is : (Q : List ℕ → Type 0) (q : Layout) (src : List ℕ) (sp len : ℕ) (c : List ℕ) → 1 ≤ levels_of q → Q (refined q (halved q src sp len (chosen q.opts.scale_down) (cond q.opts.full (copied q src sp c) c))) → Q (built q src sp len c)
unfolding built_by
built_is Q q src sp len c some x = rw (ne_eqb (levels_of q) 0 (λ e. omega arith)) x

-- a byte past all planes of level 0
refine_keeps : {x v : ℕ} (i : Interp) (pel : ℕ) (u : Upscale) → (pel ≡ 2) ⊎ (pel ≡ 4) → i.width + 15 ≤ i.pitch → 0 < i.height → In i (pel * pel) x → KeepsByte x v (refine i pel u)
refine_keeps {x} i pel u both fits hh in' =
    let two : eqb pel 2 ≡ true → In i 4 x = λ e. subst (λ (k : ℕ). In i (k * k) x) (eqb-true pel 2 e) in' in
    let four : eqb pel 2 ≡ false → In i 16 x = λ e. subst (λ (k : ℕ). In i (k * k) x) (pel_four both (eqb-false pel 2 e)) in' in
    refine_kept i pel u
    (λ e. half_keeps i fits 4 (two e) hh u 1 2 3 (inl (omega arith)) (inl (omega arith)) (inl (omega arith)))
    (λ e. half_keeps i fits 16 (four e) hh u 2 8 10 (inl (omega arith)) (inl (omega arith)) (inl (omega arith)))
    (λ e. fold_keeps i fits 16 (four e) pairs refl)

-- pel 2 has its horizontal plane at 1, pel 4 at 2
abbrev pub Placed : ℕ → ℕ → Type 0
Placed pel a = ((pel ≡ 2) × (a ≡ 1)) ⊎ ((pel ≡ 4) × (a ≡ 2))

-- the last byte of row 0 of the horizontal plane
module _ (i : Interp) (fits : i.width + 15 ≤ i.pitch) (hh : 0 < i.height) (hw : 0 < i.width) (pel a x : ℕ) (at : Placed pel a) (in' : In i a x) (e : x ≡ plane_at i a + (i.width - 1)) (c : List ℕ) (long : x < length c) where
  by_pel : {v : ℕ} (u : Upscale) → ((a b d : ℕ) → a < b → a < d → In i a x → x ≡ plane_at i a + (i.width - 1) → Has x v (half_planes u i a b d c)) → Has x v (refine i pel u c)
  unfolding refine
  by_pel u made =
      ⊎_elim
      (λ (z : (pel ≡ 2) × (a ≡ 1)).
      let in1 : In i 1 x = subst (λ (k : ℕ). In i k x) z.1 in' in
      let e1 : x ≡ plane_at i 1 + (i.width - 1) = e ∙ ap (λ (k : ℕ). plane_at i k + (i.width - 1)) z.1 in
      rw z.0 (made 1 2 3 (omega arith) (omega arith) in1 e1))
      (λ (z : (pel ≡ 4) × (a ≡ 2)).
      let in2 : In i 2 x = subst (λ (k : ℕ). In i k x) z.1 in' in
      let e2 : x ≡ plane_at i 2 + (i.width - 1) = e ∙ ap (λ (k : ℕ). plane_at i k + (i.width - 1)) z.1 in
      rw z.0 (has_after (fold_keeps i fits 2 in2 pairs refl) (made 2 8 10 (omega arith) (omega arith) in2 e2)))
      at

  refine_means : {s t : ℕ} → get_or c (i.width - 1) 0 ≡ s → get_or c i.width 0 ≡ t → Has x (mean_of s t) (refine i pel Means c)
  refine_means es et = by_pel Means (λ a b d ab ad inn ee. half_means i fits hh hw a x ee c long b d ab ad inn es et)

  refine_kernel : {s : ℕ} (u : HalfPel) → get_or c (i.width - 1) 0 ≡ s → Has x s (refine i pel (Kernel u) c)
  refine_kernel u es = by_pel (Kernel u) (λ a b d ab ad inn ee. half_kernel i fits hh hw a x ee c long u b d ab ad inn es)

-- ---- the plane
abbrev pub luma : SuperOpts → Layout
luma x = record { opts = x; x_shift = 0; y_shift = 0; pitch = luma_w x + 16 }

abbrev pub flat : SuperOpts → ℕ → Inputs
flat x e =
    record {
      x_shift = 0;
      y_shift = 0;
      pitch = luma_w x + 16;
      src_pitch = luma_w x;
      plane = replicate (luma_w x * luma_h x) 255;
      frame = replicate e 0;
    }

zeros_at : (n m i : ℕ) → i < n → Has i 0 (replicate n 0 ++ replicate m 0)
zeros_at n m i lt =
    let len = length-replicate {A = ℕ} n 0 in
    record {
      there = omega (arith, length-append (replicate n 0) (replicate {A = ℕ} m 0));
      is = get_or-append (replicate n 0) (replicate m 0) 0 i (omega arith) ∙ get_or-replicate n i 0 0 lt;
    }

module _ (x : SuperOpts) (good : accepted x ≡ true) (lv : 1 ≤ level_count x) (end : ℕ) (ends : written_end (luma x) ≤ end) where
  abbrev q : Layout
  q = luma x

  abbrev W : ℕ
  W = luma_w x

  abbrev H : ℕ
  H = luma_h x

  abbrev P : ℕ
  P = W + 16

  abbrev S : List ℕ
  S = replicate (W * H) 255

  abbrev len : ℕ
  len = length (replicate {A = ℕ} end 0)

  abbrev canvas : List ℕ
  canvas = replicate end 0 ++ replicate (spill_need q) 0

  abbrev t1 : ℕ
  t1 = offset_at q 1

  hw : 4 ≤ W
  hw = (sizes x good lv).0

  hh : 4 ≤ H
  hh = (sizes x good lv).1

  pub w_is : width_at q 0 ≡ W
  unfolding reduced
  w_is = omega arith

  pub h_is : height_at q 0 ≡ H
  unfolding reduced
  h_is = omega arith

  w1_some : 2 ≤ width_at q 1
  unfolding reduced
  w1_some = omega (arith, hw)

  h1_some : 2 ≤ height_at q 1
  unfolding reduced
  h1_some = omega (arith, hh)

  frame_byte : (i v : ℕ) → i < end → Has i v (built q S W len canvas) → get_or (leaves x (flat x end)) i 0 ≡ v
  unfolding frame_by
  frame_byte i v lt has = get_or-take len _ i 0 (omega (arith, length-replicate {A = ℕ} end 0)) ∙ has.is

  canvas_long : (n : ℕ) → n ≤ end → n ≤ length canvas
  canvas_long n le = omega (arith, length-append (replicate {A = ℕ} end 0) (replicate (spill_need q) 0), length-replicate {A = ℕ} end 0)

  -- level 1 starts past level 0's planes
  level1_at : x.full ≡ true → t1 ≡ plane_at (planes_of q) (pel_of x * pel_of x)
  unfolding offset_at total
  level1_at e = rw e (omega (arith, mul_assoc (pel_of x * pel_of x) (height_at q 0) P))

  level1_in : x.full ≡ true → In (planes_of q) (pel_of x * pel_of x) t1
  level1_in e = record { from = omega (arith, level1_at e); to = omega (arith, level1_at e, row_in 0 (height_at q 0) P (omega (arith, h_is, hh))) }

  -- and past plane 0
  level1_past : x.full ≡ true → height_at q 0 * P ≤ t1
  level1_past e =
      let k = pel_of x * pel_of x in
      let one : 1 ≤ k = omega (arith, row_in 0 (pel_of x) (pel_of x) (pel_some q good), pel_some q good) in
      omega (arith, level1_at e, row_in 0 k (height_at q 0 * P) one)

  level1_end : t1 ≤ end
  level1_end = omega (arith, offset_mono q 1 (level_count x) lv, ends)

  -- level 2 starts past level 1's first row
  level2_at : t1 + P ≤ offset_at q 2
  unfolding offset_at total
  level2_at = omega (arith, row_in 0 (height_at q 1) P (omega (arith, h1_some)), ap (λ (k : ℕ). k * P) (one-mul (height_at q 1)))

  -- ---- what is copied
  source_at : (y j : ℕ) → y < H → j < W → get_or S (y * W + j) 0 ≡ 255
  source_at y j ly lj = get_or-replicate (W * H) (y * W + j) 255 0 (omega (arith, row_in y H W ly, mul_comm W H))

  copied_flat : (y j i : ℕ) (c : List ℕ) → y < H → j < W → i ≡ y * P + j → i < length c → Has i 255 (copied q S W c)
  copied_flat y j i c ly lj e in' = copied_has q S W (omega (arith, w_is)) y j i c (omega (arith, h_is)) (omega (arith, w_is)) e in' (source_at y j ly lj)

  source_four : Four 0 W S
  source_four =
      let at : (k y j : ℕ) → y < H → j < W → y * W + j ≡ k → get_or S k 0 ≡ 255 = λ k y j ly lj e. ap (λ (n : ℕ). get_or S n 0) (sym e) ∙ source_at y j ly lj in
      record {
        a = at 0 0 0 (omega (arith, hh)) (omega (arith, hw)) (omega arith);
        b = at (0 + 1) 0 1 (omega (arith, hh)) (omega (arith, hw)) (omega arith);
        c = at (0 + W) 1 0 (omega (arith, hh)) (omega (arith, hw)) (omega arith);
        d = at (0 + W + 1) 1 1 (omega (arith, hh)) (omega (arith, hw)) (omega arith);
      }

  copied_four : (c : List ℕ) → 2 * P ≤ length c → Four 0 P (copied q S W c)
  copied_four c long =
      record {
        a = (copied_flat 0 0 0 c (omega (arith, hh)) (omega (arith, hw)) (omega arith) (omega arith)).is;
        b = (copied_flat 0 1 (0 + 1) c (omega (arith, hh)) (omega (arith, hw)) (omega arith) (omega arith)).is;
        c = (copied_flat 1 0 (0 + P) c (omega (arith, hh)) (omega (arith, hw)) (omega arith) (omega arith)).is;
        d = (copied_flat 1 1 (0 + P + 1) c (omega (arith, hh)) (omega (arith, hw)) (omega arith) (omega arith)).is;
      }

  abbrev first : List ℕ
  first = cond x.full (copied q S W canvas) canvas

  -- ---- level 1's first byte
  refined_flat : {v : ℕ} → KeepsByte t1 v (refined q)
  refined_flat =
      refined_kept q
      (λ e.
      let full = and_right (ltb 1 (pel_of x) && ltb (to_nat x.gpu) 2) x.full e in
      let more = and_left (ltb 1 (pel_of x)) (ltb (to_nat x.gpu) 2) (and_left (ltb 1 (pel_of x) && ltb (to_nat x.gpu) 2) x.full e) in
      refine_keeps (planes_of q) (pel_of x) (upscale x.scale_up) (pel_more q good more) (omega (arith, w_is)) (omega (arith, h_is, hh)) (level1_in full))

  module _ (two : 2 ≤ level_count x) where
    past_end : t1 + P ≤ end
    past_end = omega (arith, level2_at, offset_mono q 2 (level_count x) two, ends)

    -- no filter
    left : Has t1 0 (halved q S W len None first)
    unfolding halved_by
    left =
        let has = zeros_at end (spill_need q) t1 (omega (arith, past_end)) in
        cases (Has t1 0) x.full (λ e. has_after (copied_past q S W (omega (arith, w_is)) (level1_past e)) has) (λ e. has)

    pub unwritten : chosen x.scale_down ≡ None → get_or (leaves x (flat x end)) t1 0 ≡ 0
    unwritten none =
        frame_byte t1 0 (omega (arith, past_end))
        (built_is (Has t1 0) q S W len canvas lv (has_after refined_flat (subst (λ (z : Option ReduceFilter). Has t1 0 (halved q S W len z first)) (sym none) left)))

    -- average
    four_first : x.full ≡ true → Four 0 P first
    four_first e =
        subst (λ (b : Bool). Four 0 P (cond b (copied q S W canvas) canvas)) (sym e)
        (copied_four canvas (canvas_long (2 * P) (omega (arith, level1_past e, level1_end, row_in 1 (height_at q 0) P (omega (arith, h_is, hh))))))

    long_first : t1 + 1 < length first
    long_first =
        let le = canvas_long (suc (t1 + 1)) (omega (arith, past_end)) in
        cases (λ d. suc (t1 + 1) ≤ length d) x.full (λ e. copied_grows q S W (omega (arith, w_is)) (suc (t1 + 1)) canvas le) (λ e. le)

    level_one : is_nat x.scale_down 4 ≡ false → Has t1 255 (halve_level q S W len Average 1 first)
    unfolding level_by fused_at
    level_one other =
        rw other
        (cases (Has t1 255) (x.full || false)
        (λ e. stored_first Average (offset_at q 0) P (region_at q 1) first (omega (arith, h1_some)) (omega (arith, w1_some)) (omega arith) long_first (subst (λ (b : ℕ). Four b P first) (sym (offset_first q)) (four_first (or_none x.full e))))
        (λ e. source_first Average S W P (region_at q 1) first (omega (arith, h1_some)) (omega (arith, w1_some)) (omega arith) long_first source_four))

    averaged : is_nat x.scale_down 4 ≡ false → Has t1 255 (halved q S W len (Some Average) first)
    unfolding halved_by
    averaged other =
        steps_first (Has t1 255) (λ i. halve_level q S W len Average (i + 1)) (level_count x - 1) first (omega arith) (level_one other)
        (λ y d m some has. has_after (level_keeps q S W len Average (y + 1) (omega (arith, level2_at, offset_mono q 2 (y + 1) (omega arith)))) has)

    pub written : chosen x.scale_down ≡ Some Average → is_nat x.scale_down 4 ≡ false → get_or (leaves x (flat x end)) t1 0 ≡ 255
    written average other =
        frame_byte t1 255 (omega (arith, past_end))
        (built_is (Has t1 255) q S W len canvas lv (has_after refined_flat (subst (λ (z : Option ReduceFilter). Has t1 255 (halved q S W len z first)) (sym average) (averaged other))))

  -- ---- the last byte of row 0 of the horizontal plane
  halved_keeps : {i v : ℕ} (ch : Option ReduceFilter) → i < t1 → KeepsByte i v (halved q S W len ch)
  halved_keeps ch lt = halved_kept q S S W len (λ f l some there. level_off q S W len f l (omega (arith, offset_mono q 1 l some))) ch

  module _ (on : refines q ≡ true) (a : ℕ) (at : Placed (pel_of x) a) where
    full : x.full ≡ true
    full = and_right (ltb 1 (pel_of x) && ltb (to_nat x.gpu) 2) x.full on

    abbrev pub last_at : ℕ
    last_at = plane_at (planes_of q) a + (width_at q 0 - 1)

    last_in : In (planes_of q) a last_at
    last_in = record { from = omega arith; to = omega (arith, w_is, hw, row_in 0 (height_at q 0) P (omega (arith, h_is, hh))) }

    squares : (1 ≤ a) × (a < pel_of x * pel_of x)
    squares =
        ⊎_elim
        (λ (z : (pel_of x ≡ 2) × (a ≡ 1)). let k : pel_of x * pel_of x ≡ 4 = ap (λ (y : ℕ). y * y) z.0 in (omega (arith, z.1), omega (arith, z.1)))
        (λ (z : (pel_of x ≡ 4) × (a ≡ 2)). let k : pel_of x * pel_of x ≡ 16 = ap (λ (y : ℕ). y * y) z.0 in (omega (arith, z.1), omega (arith, z.1)))
        at

    -- within level 0's planes, past plane 0
    last_low : height_at q 0 * P ≤ last_at
    last_low = omega (arith, row_in 0 a (height_at q 0 * P) squares.0)

    last_high : last_at < t1
    last_high = omega (arith, last_in.to, plane_after (planes_of q) a (pel_of x * pel_of x) squares.1, level1_at full)

    abbrev before : List ℕ
    before = halved q S W len (chosen x.scale_down) first

    through : {i v : ℕ} → i < t1 → Has i v (copied q S W canvas) → Has i v before
    through {i} {v} lt has = has_after (halved_keeps (chosen x.scale_down) lt) (subst (λ (b : Bool). Has i v (cond b (copied q S W canvas) canvas)) (sym full) has)

    zero_byte : (i : ℕ) → i < t1 → Has i 0 canvas
    zero_byte i lt = zeros_at end (spill_need q) i (omega (arith, level1_end))

    has_room : Has last_at 0 before
    has_room = through last_high (has_after (copied_past q S W (omega (arith, w_is)) last_low) (zero_byte last_at last_high))

    plane0 : W < t1
    plane0 = omega (arith, level1_past full, row_in 0 (height_at q 0) P (omega (arith, h_is, hh)))

    at_last : get_or before (width_at q 0 - 1) 0 ≡ 255
    at_last =
        let lt : W - 1 < t1 = omega (arith, plane0) in
        ap (λ (z : ℕ). get_or before (z - 1) 0) w_is ∙ (through lt (copied_flat 0 (W - 1) (W - 1) canvas (omega (arith, hh)) (omega (arith, hw)) (omega arith) (zero_byte (W - 1) lt).there)).is

    at_next : get_or before (width_at q 0) 0 ≡ 0
    at_next = ap (λ (z : ℕ). get_or before z 0) w_is ∙ (through plane0 (has_after (copied_margin q S W (omega (arith, w_is)) (omega (arith, w_is)) (omega arith)) (zero_byte W plane0))).is

    last_by : (v : ℕ) (u : Upscale) → upscale x.scale_up ≡ u → Has last_at v (refine (planes_of q) (pel_of x) u before) → get_or (leaves x (flat x end)) last_at 0 ≡ v
    unfolding refined
    last_by v u e has =
        frame_byte last_at v (omega (arith, last_high, level1_end))
        (built_is (Has last_at v) q S W len canvas lv
        (cases (Has last_at v) (refines q) (λ z. subst (λ (k : Upscale). Has last_at v (refine (planes_of q) (pel_of x) k before)) (sym e) has) (λ z. absurd (clash (refines q) on z))))

    pub last_means : upscale x.scale_up ≡ Means → get_or (leaves x (flat x end)) last_at 0 ≡ 128
    last_means u = last_by 128 Means u (refine_means (planes_of q) (omega (arith, w_is)) (omega (arith, h_is, hh)) (omega (arith, w_is, hw)) (pel_of x) a last_at at last_in refl before has_room.there at_last at_next)

    pub last_kernel : (k : HalfPel) → upscale x.scale_up ≡ Kernel k → get_or (leaves x (flat x end)) last_at 0 ≡ 255
    last_kernel k u = last_by 255 (Kernel k) u (refine_kernel (planes_of q) (omega (arith, w_is)) (omega (arith, h_is, hh)) (omega (arith, w_is, hw)) (pel_of x) a last_at at last_in refl before has_room.there k at_last)
