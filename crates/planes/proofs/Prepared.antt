-- A build that isn't refused: what its stages need of the slices is there; what the fused cubic was taken for; last a later level, in its way. Assumes nothing.
use mathlib.Core.Path.{◌≡◌, refl, sym, ap, subst, ◌∙◌}
use mathlib.Core.Bool.{Bool, true, false, ◌&&◌, ◌||◌}
use mathlib.Core.List.{List, ◌++◌}
use mathlib.Core.Logic.{◌⊎◌, inl, inr, ⊎_elim}
use Prim.Native.Nat.{ℕ, suc, ◌+◌, ◌*◌, ◌-◌, ◌%◌, ◌≤◌, ◌<◌}
use native.Mathlib.Nat.{mul-le-mul_right, mul_assoc, add-mul, one-mul}
use native.Mathlib.Numerals.{add-one}
use native.Mathlib.Omega.{arith}
use lib.Dec.{leb, eqb}
use lib.ListN.{length}
use borrow.Author.Tests.{leb-true, leb-false, eqb-true, ne_eqb}
use Rattle.settings.specs.Numbers.{is_nat}
use Rattle.settings.proofs.Tests.{and_left, and_right, or_cases, or_false_left, or_false_right}
use Rattle.filters.specs.declared.halving.ReduceFilter.{ReduceFilter}
use Rattle.filters.specs.declared.halving.ReduceFilter.TheVariants.{Cubic}
use Rattle.layouts.specs.declared.layout.Layout.{Layout}
use Rattle.layouts.specs.declared.layout.Region.{Region}
use Rattle.layouts.specs.Layout.{levels_of, width_at, height_at, offset_at, region_at}
use Rattle.layouts.specs.Margins.{cubic_fits, fused_at}
use Rattle.layouts.specs.Room.{Ready}
use Rattle.layouts.proofs.Choices.{cond_yes, cond_no}
use Rattle.layouts.proofs.Layouts.{allowed, offset_next, level_end, bytes_later, width_half, width_later, width_le, height_half}
use Rattle.layouts.proofs.Stored.{twice, width_some, height_some, twice_fits, source_rows, spread_fits}
use Rattle.builder.specs.Halving.{whole_of, from_stored, fused, from_source}
use Rattle.builder.specs.Room.{Within, Spread}
use Rattle.builder.proofs.Inside.{inside_stored, inside_fused}
use Rattle.planes.specs.Build.{level_by}

-- ---- what the levels need is there
module _ (q : Layout) {n sp len spill scratch : ℕ} (r : Ready q n sp len spill scratch) where
  -- a later level whose source is stored
  pub within_level : (l : ℕ) → suc l < levels_of q → (q.opts.full ≡ true) ⊎ (1 ≤ l) → Within len scratch (offset_at q l) q.pitch (region_at q (suc l))
  within_level l lt s =
      let a = allowed q r.layout in
      let p = q.pitch in
      let h = height_at q (suc l) in
      let next = ap (offset_at q) (sym (add-one l)) ∙ offset_next q l in
      record {
        some = omega (arith, width_some q a (suc l) lt);
        high = height_some q a (suc l) lt;
        fits = twice_fits q a l s;
        source = omega (arith, source_rows q a l s, next, twice h p, mul_assoc 2 h p);
        target = omega (arith, level_end q (suc l) lt, bytes_later q (suc l) (omega arith), r.end);
        room = omega (arith, r.room);
      }

  -- the source plane has its rows
  pub source_need_lem : 1 ≤ levels_of q → (height_at q 0 - 1) * sp + width_at q 0 ≤ n
  source_need_lem lv =
      let a = allowed q r.layout in
      let w = width_at q 0 in
      let h = height_at q 0 in
      let no-width = ne_eqb w 0 (λ e. omega (arith, width_some q a 0 (omega arith))) in
      let no-height = ne_eqb h 0 (λ e. omega (arith, height_some q a 0 (omega arith))) in
      let none : (eqb w 0 || eqb h 0) ≡ false = rw (no-width, no-height) in
      subst (λ (k : ℕ). k ≤ n) (cond_no (eqb w 0 || eqb h 0) 0 ((h - 1) * sp + w) none) r.source

  -- level 1 where level 0 isn't stored
  pub spread_level : q.opts.full ≡ false → 2 ≤ levels_of q → Spread n sp len spill scratch q.pitch (region_at q 1)
  spread_level none lv =
      let a = allowed q r.layout in
      let h = height_at q 1 in
      let h0 = height_at q 0 in
      let rows : (2 * h) * sp ≤ h0 * sp = mul-le-mul_right sp (height_half q a 0) in
      let last : (h0 - 1 + 1) * sp ≡ h0 * sp = ap (λ (k : ℕ). k * sp) (omega (arith, height_some q a 0 (omega arith))) in
      record {
        some = omega (arith, width_some q a 1 (omega arith));
        fits = width_later q a 0;
        narrow = omega (arith, width_half q a 0, width_le q a 0);
        source = record { rows = omega (arith, rows, last, add-mul (h0 - 1) 1 sp, one-mul sp, twice h sp, mul_assoc 2 h sp, source_need_lem (omega arith), width_half q a 0) };
        beyond = omega (arith, spread_fits q a len none lv r.end, r.spills);
        room = omega (arith, r.room);
      }

-- ---- what the fused cubic was taken for
module _ (base p : ℕ) (t : Region) (len : ℕ) (e : cubic_fits base p t len ≡ true) where
  -- what it says of a row
  row_says : (leb 8 t.width && leb 2 t.height && eqb (2 * t.width % 8) 0 && leb (2 * t.width) p) ≡ true
  unfolding cubic_fits
  row_says =
      let w = t.width in
      let h = t.height in
      let row = leb 8 w && leb 2 h && eqb (2 * w % 8) 0 && leb (2 * w) p in
      let source = leb (base + (2 * h - 1) * p + 2 * w) t.offset in
      let target = leb (t.offset + (h - 1) * p + 2 * w) len in
      and_left row source (and_left (row && source) target e)

  cubic_wide : 8 ≤ t.width
  cubic_wide =
      let n = 2 * t.width in
      let w = leb 8 t.width in
      let h = leb 2 t.height in
      leb-true 8 t.width (and_left w h (and_left (w && h) (eqb (n % 8) 0) (and_left (w && h && eqb (n % 8) 0) (leb n p) row_says)))

  -- it is of whole eights
  pub cubic_whole : whole_of Cubic (2 * t.width) ≡ 2 * t.width
  cubic_whole =
      let n = 2 * t.width in
      let large = leb 8 t.width && leb 2 t.height in
      let zero' = eqb-true (n % 8) 0 (and_right large (eqb (n % 8) 0) (and_left (large && eqb (n % 8) 0) (leb n p) row_says)) in
      omega arith

  -- and no longer than the pitch
  cubic_narrow : 2 * t.width ≤ p
  cubic_narrow = let n = 2 * t.width in leb-true n p (and_right (leb 8 t.width && leb 2 t.height && eqb (n % 8) 0) (leb n p) row_says)

module _ (q : Layout) (len l : ℕ) (e : fused_at q len l ≡ true) where
  abbrev four : Bool
  four = is_nat q.opts.scale_down 4

  abbrev stored : Bool
  stored = q.opts.full || leb 2 l

  abbrev fits : Bool
  fits = cubic_fits (offset_at q (l - 1)) q.pitch (region_at q l) len

  both : (four && stored && fits) ≡ true
  unfolding fused_at
  both = e

  pub fused_four : is_nat q.opts.scale_down 4 ≡ true
  fused_four = and_left four stored (and_left (four && stored) fits both)

  pub fused_stored : (q.opts.full || leb 2 l) ≡ true
  fused_stored = and_right four stored (and_left (four && stored) fits both)

  fused_cubic : fits ≡ true
  fused_cubic = and_right (four && stored) fits both

  pub fused_wide : 8 ≤ width_at q l
  fused_wide = cubic_wide (offset_at q (l - 1)) q.pitch (region_at q l) len fused_cubic

  pub fused_whole : whole_of Cubic (2 * width_at q l) ≡ 2 * width_at q l
  fused_whole = cubic_whole (offset_at q (l - 1)) q.pitch (region_at q l) len fused_cubic

  pub fused_fits : 2 * width_at q l ≤ q.pitch
  fused_fits = cubic_narrow (offset_at q (l - 1)) q.pitch (region_at q l) len fused_cubic

-- ---- a later level, in its way
stored_before : (q : Layout) (l : ℕ) → 1 ≤ l → (q.opts.full || leb 2 l) ≡ true → (q.opts.full ≡ true) ⊎ (1 ≤ l - 1)
stored_before q l some e =
    ⊎_elim (λ (f : q.opts.full ≡ true). inl f) (λ (two : leb 2 l ≡ true). let le = leb-true 2 l two in inr (omega arith)) (or_cases q.opts.full (leb 2 l) e)

module _ (q : Layout) {n sp len spill scratch : ℕ} (r : Ready q n sp len spill scratch) (l : ℕ) (some : 1 ≤ l) (there : l < levels_of q) {base : ℕ} {t : Region} (from : base ≡ offset_at q (l - 1)) (to : t ≡ region_at q l) where
  pub within_here : (q.opts.full || leb 2 l) ≡ true → Within len scratch base q.pitch t
  within_here e =
      let back : suc (l - 1) ≡ l = omega arith in
      let w = within_level q r (l - 1) (omega arith) (stored_before q l some e) in
      rw (from, to) (subst (λ (k : ℕ). Within len scratch (offset_at q (l - 1)) q.pitch (region_at q k)) back w)

  pub spread_here : (q.opts.full || leb 2 l) ≡ false → Spread n sp len spill scratch q.pitch t
  spread_here e =
      let none = or_false_left q.opts.full (leb 2 l) e in
      let few = leb-false 2 l (or_false_right q.opts.full (leb 2 l) e) in
      let one : l ≡ 1 = omega arith in
      rw (to, one) (spread_level q r none (omega arith))

  module _ (fuse : Bool) (src : List ℕ) (f : ReduceFilter) (F S : List ℕ) (long : length F ≡ len) where
    pub by_fused : {X : List ℕ} → (fuse && fused_at q (length F) l) ≡ true → X ≡ fused base q.pitch t F → X ++ S ≡ level_by fuse q src sp (length F) f l (F ++ S)
    unfolding level_by
    by_fused {X} e is =
        ap (λ (x : List ℕ). x ++ S) is
        ∙ (inside_fused (within_here (fused_stored q (length F) l (and_right fuse (fused_at q (length F) l) e)))).aside F S long
        ∙ rw (from, to) (sym (cond_yes (fuse && fused_at q (length F) l) (fused (offset_at q (l - 1)) q.pitch (region_at q l) (F ++ S)) _ e))

    pub by_stored : {X : List ℕ} → (fuse && fused_at q (length F) l) ≡ false → (q.opts.full || leb 2 l) ≡ true → X ≡ from_stored f base q.pitch t F → X ++ S ≡ level_by fuse q src sp (length F) f l (F ++ S)
    unfolding level_by
    by_stored {X} e g is =
        ap (λ (x : List ℕ). x ++ S) is
        ∙ (inside_stored (within_here g) f).aside F S long
        ∙ rw (from, to, e, g) refl

    pub by_source : {Y : List ℕ} → (fuse && fused_at q (length F) l) ≡ false → (q.opts.full || leb 2 l) ≡ false → Y ≡ from_source f src sp q.pitch t (F ++ S) → Y ≡ level_by fuse q src sp (length F) f l (F ++ S)
    unfolding level_by
    by_source {Y} e g is = is ∙ rw (to, e, g) refl
