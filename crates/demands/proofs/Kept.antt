-- One byte of the canvas through the stages of a build, and through zeroing margins: what each leaves of it, and what it makes of the first byte of a level and the last of a row.
-- First a run that is stored anywhere, and stages that leave the byte; then loops over rows; copying; a stored level, and margins zeroed; later levels; what refining leaves; the first byte of a level; last the planes of level 0. Assumes nothing.
use mathlib.Core.Path.{◌≡◌, refl, ap, ◌∙◌, subst}
use mathlib.Core.List.{List}
use mathlib.Core.Logic.{◌⊎◌, inl, inr, ⊎_elim}
use mathlib.Core.Bool.{Bool, true, false, cond, ◌||◌}
use Prim.Native.Nat.{ℕ, zero, suc, ◌+◌, ◌*◌, ◌-◌, ◌≤◌, ◌<◌}
use native.Mathlib.Nat.{zero-mul, mul_assoc, le_of_suc-le-suc, eq-or-lt_of_le}
use native.Mathlib.Omega.{arith}
use lib.Dec.{leb, ltb}
use lib.ListN.{length, get_or, length-replicate}
use borrow.Author.Tests.{ltb-true, le-leb}
use Rattle.settings.specs.Check.{pel_of}
use Rattle.settings.proofs.Tests.{or_cases}
use Rattle.filters.specs.declared.halving.ReduceFilter.{ReduceFilter}
use Rattle.filters.specs.declared.half_pel.HalfPel.{HalfPel}
use Rattle.filters.specs.declared.half_pel.Upscale.{Upscale}
use Rattle.filters.specs.declared.half_pel.Upscale.TheVariants.{Means, Kernel}
use Rattle.filters.specs.Row.{mean_of, means_of, around}
use Rattle.filters.specs.Halve.{horizontal_at, horizontal_row}
use Rattle.filters.specs.Refine.{upscale, half_horizontal, half_sample}
use Rattle.filters.proofs.Tables.{tab_at}
use Rattle.filters.proofs.Lengths.{means_length, horizontal_length, half_horizontal_length}
use Rattle.layouts.specs.declared.layout.Layout.{Layout}
use Rattle.layouts.specs.declared.layout.Region.{Region}
use Rattle.layouts.specs.Storing.{put, steps}
use Rattle.layouts.specs.Layout.{levels_of, width_at, height_at, offset_at, region_at}
use Rattle.layouts.specs.Margins.{clear_from}
use Rattle.layouts.specs.Room.{Ready}
use Rattle.layouts.proofs.Choices.{cond_yes}
use Rattle.layouts.proofs.Layouts.{offset_next}
use Rattle.layouts.proofs.Loops.{row_in}
use Rattle.builder.specs.declared.refining.Interp.{Interp}
use Rattle.builder.specs.declared.refining.Pair.{Pair}
use Rattle.builder.specs.Canvas.{fetch, copy_run}
use Rattle.builder.specs.Halving.{whole_of, vertical_line, vertical_rows, halve_run, horizontal_rows, from_stored, from_source}
use Rattle.builder.specs.Refining.{chunked, pair_run, pair_plane, horizontal_plane, plane_at, mean_planes, kernel_planes, half_planes, pair_of, quarter, fold_pairs}
use Rattle.builder.proofs.Runs.{fetch_length, fetch_at, put_grows, put_before, put_at, put_past}
use Rattle.builder.proofs.Lines.{reads_all}
use Rattle.builder.proofs.Refined.{cut, every, every_at}
use Rattle.builder.proofs.Related.{Any, any_bytes, any_kernel, any_ups, any_row}
use Rattle.builder.proofs.Stages.{Keeps, after, turns, folds, Notion, store, OneNeed, PairNeed, UnderNeed, stored_kept, fused_kept, close_kept, source_kept, pair_kept, under_kept, means_kept, across_kept, below_kept, kernel_kept}
use Rattle.builder.proofs.Placed.{refine_placed}
use Rattle.builder.proofs.Swaps.{steps_keep}
use Rattle.planes.specs.Build.{copied, halve_level, refined}
use Rattle.planes.proofs.Prepared.{fused_fits}
use Rattle.planes.proofs.Parts.{copied_kept, Level, level_kept, refined_kept}
use Rattle.planes.proofs.Whole.{refine_ready}

-- ---- a run that is stored
-- byte i is there, and is v
pub record Has (i v : ℕ) (c : List ℕ) : Type 0 where
  pub there : i < length c
  pub is : get_or c i 0 ≡ v

has_before : {i v : ℕ} {c : List ℕ} (at : ℕ) (ys : List ℕ) → i < at → Has i v c → Has i v (put c at ys)
has_before {i} {v} {c} at ys lt h =
    record { there = omega (arith, put_grows c at ys, h.there); is = put_before c ys at i lt ∙ h.is }

has_past : {i v : ℕ} {c : List ℕ} (at : ℕ) (ys : List ℕ) → at + length ys ≤ i → Has i v c → Has i v (put c at ys)
has_past {i} {v} {c} at ys le h =
    record { there = omega (arith, put_grows c at ys, h.there); is = put_past c ys at i le ∙ h.is }

has_in : {v : ℕ} (c : List ℕ) (at : ℕ) (ys : List ℕ) (i j : ℕ) → i ≡ at + j → i < length c → j < length ys → get_or ys j 0 ≡ v → Has i v (put c at ys)
has_in c at ys i j e in' lt is =
    record { there = omega (arith, put_grows c at ys); is = ap (λ (k : ℕ). get_or (put c at ys) k 0) e ∙ put_at c ys at j lt ∙ is }

-- n bytes at `at` lie elsewhere
abbrev pub Off : ℕ → ℕ → ℕ → Type 0
Off i at n = (i < at) ⊎ (at + n ≤ i)

-- the byte stays where all that is stored does
byte : ℕ → ℕ → Notion Any
byte i v =
    record {
      R = λ c d. Has i v c;
      Sees = λ at n. Unit;
      Takes = Off i;
      fewer = λ at m n le off. ⊎_elim (λ (lt : i < at). inl lt) (λ (past : at + n ≤ i). inr (omega arith)) off;
      reads = λ c d at n r z. any_row;
      stores = λ c d x y at n r off lx ly z. ⊎_elim (λ (lt : i < at). has_before at x lt r) (λ (past : at + n ≤ i). has_past at x (omega arith) r) off;
    }

-- stages that leave byte i as it is
abbrev pub KeepsByte : ℕ → ℕ → (List ℕ → List ℕ) → Type 0
KeepsByte i v = Keeps (λ c d. Has i v c)

pub has_after : {i v : ℕ} {stage : List ℕ → List ℕ} {c : List ℕ} → KeepsByte i v stage → Has i v c → Has i v (stage c)
has_after {c = c} keeps has = keeps.each c c has

-- ---- loops
-- step k makes Q where G holds, which all keep; the later ones keep it
pub steps_hit : (G Q : List ℕ → Type 0) (step : ℕ → List ℕ → List ℕ) (n k : ℕ) (c : List ℕ) → k < n → G c → ((y : ℕ) (d : List ℕ) → y < n → G d → G (step y d)) → ((d : List ℕ) → G d → Q (step k d)) → ((y : ℕ) (d : List ℕ) → y < n → k < y → Q d → Q (step y d)) → Q (steps step n c)
unfolding steps
steps_hit G Q step zero k c lt g keep makes keeps = absurd (omega arith)
steps_hit G Q step (suc n) k c lt g keep makes keeps =
    ⊎_elim
    (λ (e : k ≡ n). subst (λ (j : ℕ). Q (step j (steps step n c))) e (makes (steps step n c) (steps_keep G step n c (λ y d l. keep y d (omega arith)) g)))
    (λ (l : k < n). keeps n (steps step n c) (omega arith) l (steps_hit G Q step n k c l g (λ y d m. keep y d (omega arith)) makes (λ y d m. keeps y d (omega arith))))
    (eq-or-lt_of_le (le_of_suc-le-suc lt))

-- the first step makes Q, and the later ones keep it
pub steps_first : (Q : List ℕ → Type 0) (step : ℕ → List ℕ → List ℕ) (n : ℕ) (c : List ℕ) → 0 < n → Q (step 0 c) → ((y : ℕ) (d : List ℕ) → y < n → 0 < y → Q d → Q (step y d)) → Q (steps step n c)
unfolding steps
steps_first Q step zero c lt q keeps = absurd (omega arith)
steps_first Q step (suc zero) c lt q keeps = q
steps_first Q step (suc (suc n)) c lt q keeps = keeps (suc n) (steps step (suc n) c) (omega arith) (omega arith) (steps_first Q step (suc n) c (omega arith) q (λ y d m. keeps y d (omega arith)))

pub cases : (Q : List ℕ → Type 0) (t : Bool) {a b : List ℕ} → (t ≡ true → Q a) → (t ≡ false → Q b) → Q (cond t a b)
cases Q true p q = p refl
cases Q false p q = q refl

-- ---- copying: level 0's rows are the source's, and nothing else is written
module _ (q : Layout) (src : List ℕ) (sp : ℕ) (fits : width_at q 0 ≤ q.pitch) where
  abbrev w : ℕ
  w = width_at q 0

  abbrev h : ℕ
  h = height_at q 0

  abbrev p : ℕ
  p = q.pitch

  pub copied_grows : (n : ℕ) (c : List ℕ) → n ≤ length c → n ≤ length (copied q src sp c)
  unfolding copied
  copied_grows n c le = steps_keep (λ d. n ≤ length d) _ h c (λ y d m g. omega (arith, put_grows d (y * p) (fetch src (y * sp) w))) le

  pub copied_has : {v : ℕ} (y j i : ℕ) (c : List ℕ) → y < h → j < w → i ≡ y * p + j → i < length c → get_or src (y * sp + j) 0 ≡ v → Has i v (copied q src sp c)
  unfolding copied
  copied_has {v} y j i c ly lj e in' is =
      steps_hit (λ d. i < length d) (Has i v) _ h y c ly in'
      (λ z d m g. omega (arith, put_grows d (z * p) (fetch src (z * sp) w)))
      (λ d g. has_in d (y * p) (fetch src (y * sp) w) i j e g (omega (arith, fetch_length src (y * sp) w)) (fetch_at src (y * sp) w j lj ∙ is))
      (λ z d m lt x. has_before (z * p) (fetch src (z * sp) w) (omega (arith, row_in y z p lt)) x)

  -- a byte of the margin of row 0
  pub copied_margin : {i v : ℕ} → w ≤ i → i < p → KeepsByte i v (copied q src sp)
  unfolding byte
  copied_margin {i} {v} le lt = copied_kept any_bytes (byte i v) q src src sp any_row off
    where
      off : (y : ℕ) → y < h → Off i (y * p) w
      off zero m = inr (omega arith)
      off (suc y) m = inl (omega (arith, row_in 0 (suc y) p (omega arith)))

  -- a byte past plane 0
  pub copied_past : {i v : ℕ} → h * p ≤ i → KeepsByte i v (copied q src sp)
  unfolding byte
  copied_past {i} {v} le = copied_kept any_bytes (byte i v) q src src sp any_row (λ y m. inr (omega (arith, row_in y h p m)))

-- ---- a level from a stored one, and zeros to the pitch, leave what lies elsewhere
pub stored_off : {i v : ℕ} (f : ReduceFilter) (base p : ℕ) (t : Region) → ((y : ℕ) → y < t.height → Off i (t.offset + y * p) (2 * t.width)) → KeepsByte i v (from_stored f base p t)
unfolding byte
stored_off {i} {v} f base p t off = stored_kept any_bytes (byte i v) f base p t off (λ y m. tt) (λ y m. reads_all (λ at n. tt))

pub clear_off : {i v : ℕ} (column p : ℕ) (t : Region) → ((y : ℕ) → y < t.height → Off i (t.offset + y * p + column) (p - column)) → KeepsByte i v (clear_from column t p)
unfolding clear_from byte
clear_off {i} {v} column p t off =
    let long = length-replicate {A = ℕ} (p - column) 0 in
    turns _ _ t.height (λ y m. store (byte i v) (t.offset + y * p + column) (p - column) _ _ (off y m) (λ c. long) (λ c. long) (λ c d r. any_row))

-- ---- later levels: bytes before a level stay
pub level_off : {i v : ℕ} (q : Layout) (src : List ℕ) (sp len : ℕ) (f : ReduceFilter) (l : ℕ) → i < offset_at q l → Level (λ c d. Has i v c) q src src sp len f l
unfolding byte
level_off {i} {v} q src sp len f l lt =
    record {
      by_fused = λ e. fused_kept any_bytes (byte i v) (offset_at q (l - 1)) q.pitch (region_at q l) (fused_fits q len l e) (λ y m. inl (omega arith)) (λ y m. reads_all (λ at n. tt));
      by_stored = λ e. stored_off f (offset_at q (l - 1)) q.pitch (region_at q l) (λ y m. inl (omega arith));
      by_source = λ e. source_kept any_bytes (byte i v) f src src sp q.pitch (region_at q l) any_row (λ y m. inl (omega arith)) (λ y m. tt) (λ y some m. (tt, inl (omega arith)));
    }

pub level_keeps : {i v : ℕ} (q : Layout) (src : List ℕ) (sp len : ℕ) (f : ReduceFilter) (l : ℕ) → i < offset_at q l → KeepsByte i v (halve_level q src sp len f l)
level_keeps q src sp len f l lt = level_kept q src src sp len f l (level_off q src sp len f l lt)

-- ---- refining: bytes past level 0's planes, and past what a pair's last row may run over into, stay
pub refined_past : {i v : ℕ} (q : Layout) {n sp len spill scratch : ℕ} → Ready q n sp len spill scratch → 1 ≤ levels_of q → q.opts.full ≡ true → offset_at q 1 + 16 ≤ i → KeepsByte i v (refined q)
unfolding byte
refined_past {i} {v} q {len = len} {spill = spill} {scratch = scratch} r some full past =
    let pel = pel_of q.opts in
    let h = height_at q 0 in
    refined_kept q
    (λ e.
    let ready = refine_ready q pel _ _ refl refl refl e len spill scratch r.layout some r.end r.spills r.room in
    let planes = ready.1 in
    refine_placed any_bytes {N = byte i v} (offset_at q 1) 16 (record { sees = λ at n fits. tt; takes = λ at n fits. inr (omega arith) }) (omega arith) (upscale q.opts.scale_up) (any_ups (upscale q.opts.scale_up)) pel ready.0
    (record {
      wide = planes.wide;
      fits = planes.fits;
      most_pitch_lem = planes.most_pitch_lem;
      high = planes.high;
      most_height = planes.most_height;
      inside = subst (λ (k : ℕ). k ≤ offset_at q 1) (ap (λ (k : ℕ). k * h * q.pitch) (cond_yes q.opts.full (pel * pel) 0 full) ∙ mul_assoc (pel * pel) h q.pitch) (omega (arith, offset_next q 0));
      room = planes.room;
    }))

-- ---- the first byte of a level, from four bytes that are alike
first_line : {v : ℕ} (f : ReduceFilter) (whole n h : ℕ) (s : List ℕ) (base sp j : ℕ) → j < n → get_or s (base + j) 0 ≡ v → get_or s (base + sp + j) 0 ≡ v → get_or (vertical_line f whole n h s base sp 0) j 0 ≡ mean_of v v
unfolding vertical_line means_of
first_line {v} f whole n h s base sp j lt a b =
    let at = base + 0 * (2 * sp) in
    let z : at ≡ base = omega (arith, zero-mul (2 * sp)) in
    tab_at (λ i. mean_of (get_or (fetch s at n) i 0) (get_or (fetch s (at + sp) n) i 0)) n j lt
    ∙ ap (λ (x : ℕ). mean_of x (get_or (fetch s (at + sp) n) j 0)) (fetch_at s at n j lt ∙ ap (λ (k : ℕ). get_or s (k + j) 0) z ∙ a)
    ∙ ap (mean_of v) (fetch_at s (at + sp) n j lt ∙ ap (λ (k : ℕ). get_or s (k + sp + j) 0) z ∙ b)

first_length : (f : ReduceFilter) (whole n h : ℕ) (s : List ℕ) (base sp : ℕ) → length (vertical_line f whole n h s base sp 0) ≡ n
unfolding vertical_line
first_length f whole n h s base sp = means_length n _ _

horizontal_first : (f : ReduceFilter) (w : ℕ) (v : List ℕ) → 0 < w → get_or (horizontal_row f w v) 0 0 ≡ mean_of (get_or v 0 0) (get_or v 1 0)
unfolding horizontal_row horizontal_at
horizontal_first f w v lt = tab_at (horizontal_at f w v) w 0 lt

-- two bytes side by side
record Two (i : ℕ) (c : List ℕ) : Type 0 where
  pub one : Has i 255 c
  pub two : Has (i + 1) 255 c

-- two rows of two bytes
pub record Four (base sp : ℕ) (s : List ℕ) : Type 0 where
  pub a : get_or s base 0 ≡ 255
  pub b : get_or s (base + 1) 0 ≡ 255
  pub c : get_or s (base + sp) 0 ≡ 255
  pub d : get_or s (base + sp + 1) 0 ≡ 255

module _ (f : ReduceFilter) (t : Region) (step : ℕ) (some : 0 < t.height) (wide : 0 < t.width) (apart : 2 ≤ step) where
  vertical_first : (see : List ℕ → List ℕ) (base sp : ℕ) (c : List ℕ) → t.offset + 1 < length c → Four base sp (see c) → Two t.offset (vertical_rows f see base sp t step c)
  unfolding vertical_rows
  vertical_first see base sp c len four =
      let n = 2 * t.width in
      let o = t.offset in
      let line : List ℕ = vertical_line f (whole_of f n) n t.height (see c) base sp 0 in
      let long = first_length f (whole_of f n) n t.height (see c) base sp in
      let z : o + 0 * step ≡ o = omega (arith, zero-mul step) in
      steps_first (Two o) _ t.height c some
      (record {
        one = has_in c (o + 0 * step) line o 0 (omega arith) (omega arith) (omega (arith, long)) (first_line f (whole_of f n) n t.height (see c) base sp 0 (omega arith) (ap (λ (k : ℕ). get_or (see c) k 0) (omega arith) ∙ four.a) (ap (λ (k : ℕ). get_or (see c) k 0) (omega arith) ∙ four.c));
        two = has_in c (o + 0 * step) line (o + 1) 1 (omega arith) (omega arith) (omega (arith, long)) (first_line f (whole_of f n) n t.height (see c) base sp 1 (omega arith) four.b four.d);
      })
      (λ y d m pos x.
      record {
        one = has_before (o + y * step) _ (omega (arith, row_in 0 y step pos)) x.one;
        two = has_before (o + y * step) _ (omega (arith, row_in 0 y step pos)) x.two;
      })

  halved_first : (c : List ℕ) → Two t.offset c → Has t.offset 255 (horizontal_rows f t step c)
  unfolding horizontal_rows halve_run
  halved_first c x =
      let w = t.width in
      let o = t.offset in
      let z : o + 0 * step ≡ o = omega (arith, zero-mul step) in
      let row = fetch c (o + 0 * step) (2 * w) in
      let first : get_or row 0 0 ≡ 255 = fetch_at c (o + 0 * step) (2 * w) 0 (omega arith) ∙ ap (λ (k : ℕ). get_or c k 0) (omega arith) ∙ x.one.is in
      let second : get_or row 1 0 ≡ 255 = fetch_at c (o + 0 * step) (2 * w) 1 (omega arith) ∙ ap (λ (k : ℕ). get_or c (k + 1) 0) z ∙ x.two.is in
      steps_first (Has o 255) _ t.height c some
      (has_in c (o + 0 * step) (horizontal_row f w row) o 0 (omega arith) x.one.there (omega (arith, horizontal_length f w row))
      (horizontal_first f w row wide ∙ ap (λ (k : ℕ). mean_of k (get_or row 1 0)) first ∙ ap (mean_of 255) second))
      (λ y d m pos q. has_before (o + y * step) _ (omega (arith, row_in 0 y step pos)) q)

pub stored_first : (f : ReduceFilter) (base p : ℕ) (t : Region) (c : List ℕ) → 0 < t.height → 0 < t.width → 2 ≤ p → t.offset + 1 < length c → Four base p c → Has t.offset 255 (from_stored f base p t c)
unfolding from_stored
stored_first f base p t c hh hw hp len four = halved_first f t p hh hw hp _ (vertical_first f t p hh hw hp (λ d. d) base p c len four)

-- its first line stays while the others close up
pub source_first : (f : ReduceFilter) (src : List ℕ) (sp p : ℕ) (t : Region) (c : List ℕ) → 0 < t.height → 0 < t.width → 2 ≤ p → t.offset + 1 < length c → Four 0 sp src → Has t.offset 255 (from_source f src sp p t c)
unfolding from_source byte
source_first f src sp p t c hh hw hp len four =
    has_after (close_kept any_bytes (byte t.offset 255) t.offset p t.height (λ y some m. (tt, inl (omega (arith, row_in 0 y p some)))))
    (halved_first f t (2 * p) hh hw (omega arith) _ (vertical_first f t (2 * p) hh hw (omega arith) (λ d. src) 0 sp c len four))

-- ---- planes of level 0: each is written within its own bytes, where a pair's row is no wider than the pitch
module _ (i : Interp) where
  pub plane_after : (k m : ℕ) → k < m → plane_at i k + i.height * i.pitch ≤ plane_at i m
  plane_after k m lt = row_in k m (i.height * i.pitch) lt

  -- byte x lies in plane k
  pub record In (k x : ℕ) : Type 0 where
    pub from : plane_at i k ≤ x
    pub to : x < plane_at i k + i.height * i.pitch

-- where byte x lies in plane k, another plane m is elsewhere
module _ {x : ℕ} (i : Interp) (fits : i.width + 15 ≤ i.pitch) (k : ℕ) (in' : In i k x) where
  off_plane : (m at n : ℕ) → (m < k) ⊎ (k < m) → plane_at i m ≤ at → at + n ≤ plane_at i m + i.height * i.pitch → Off x at n
  off_plane m at n apart from to =
      ⊎_elim (λ (a : m < k). inr (omega (arith, plane_after i m k a, in'.from))) (λ (a : k < m). inl (omega (arith, plane_after i k m a, in'.to))) apart

  off_row : (m n y : ℕ) → (m < k) ⊎ (k < m) → n ≤ i.pitch → y < i.height → Off x (plane_at i m + y * i.pitch) n
  off_row m n y apart le lt = off_plane m (plane_at i m + y * i.pitch) n apart (omega arith) (omega (arith, row_in y i.height i.pitch lt))

  module _ (v : ℕ) where
    one_off : (m rows s : ℕ) → (m < k) ⊎ (k < m) → OneNeed (byte x v) i rows (plane_at i m) s
    unfolding byte
    one_off m rows s apart = record { target = λ y lt. off_row m i.width y apart (omega arith) lt; source = λ y lt. tt }

    pair_off : (m w h l r : ℕ) → (m < k) ⊎ (k < m) → w ≤ i.width → h ≤ i.height → PairNeed (byte x v) (record { pitch = i.pitch; width = w; height = h }) (plane_at i m) l r
    unfolding byte
    pair_off m w h l r apart narrow low = record { target = λ y lt. off_row m (chunked w) y apart (omega arith) (omega arith); left = λ y lt. tt; right = λ y lt. tt }

    under_off : (m r s : ℕ) → (m < k) ⊎ (k < m) → 0 < i.height → UnderNeed (byte x v) i (plane_at i m) r s
    unfolding byte
    under_off m r s apart hh =
        record {
          pair = pair_off m i.width i.height 0 r apart (omega arith) (omega arith);
          from = tt;
          to = off_plane m (plane_at i m) i.width apart (omega arith) (omega (arith, row_in 0 i.height i.pitch hh));
        }

  -- no pair of a table writes plane k
  pub fold_keeps : {v : ℕ} (qs : List Pair) → every (λ q. ltb q.target k || ltb k q.target) qs ≡ true → KeepsByte x v (fold_pairs (quarter i) qs)
  unfolding quarter byte
  fold_keeps {v} qs e =
      folds (quarter i) qs
      (λ j lt.
      let q = get_or qs j (pair_of 0 0 0 0 0) in
      let apart : (q.target < k) ⊎ (k < q.target) = ⊎_elim (λ (a : ltb q.target k ≡ true). inl (ltb-true q.target k a)) (λ (a : ltb k q.target ≡ true). inr (ltb-true k q.target a)) (or_cases (ltb q.target k) (ltb k q.target) (every_at _ qs e j lt)) in
      pair_kept any_bytes (byte x v) (cut i q) _ _ _ (pair_off v q.target (i.width - q.across) (i.height - q.below) _ _ apart (omega arith) (omega arith)))

  -- none of the three planes at half places is k
  pub half_keeps : {v : ℕ} → 0 < i.height → (u : Upscale) (a b d : ℕ) → (a < k) ⊎ (k < a) → (b < k) ⊎ (k < b) → (d < k) ⊎ (k < d) → KeepsByte x v (half_planes u i a b d)
  unfolding half_planes byte
  half_keeps {v} hh Means a b d pa pb pd = means_kept any_bytes (byte x v) i a b d (pair_off v a i.width i.height 0 1 pa (omega arith) (omega arith)) (under_off v b i.pitch 0 pb hh) (under_off v d (i.pitch + 1) 1 pd hh)
  half_keeps {v} hh (Kernel u) a b d pa pb pd = kernel_kept any_bytes (byte x v) u (any_kernel u) i a b d (one_off v a _ _ pa) (one_off v b _ _ pb) (one_off v d _ _ pd)

-- ---- the last byte of row 0 of the horizontal plane a, which is followed by the other two
module _ (i : Interp) (fits : i.width + 15 ≤ i.pitch) (hh : 0 < i.height) (hw : 0 < i.width) (a x : ℕ) (e : x ≡ plane_at i a + (i.width - 1)) (c : List ℕ) (long : x < length c) where
  means_last : {s t : ℕ} → get_or c (i.width - 1) 0 ≡ s → get_or c i.width 0 ≡ t → Has x (mean_of s t) (pair_plane i (plane_at i a) 0 1 c)
  unfolding pair_plane pair_run means_of
  means_last {s} {t} es et =
      let w = i.width in
      let p = i.pitch in
      let n = chunked w in
      let left = fetch c (0 + 0 * p) n in
      let right = fetch c (1 + 0 * p) n in
      steps_first (Has x (mean_of s t)) _ i.height c hh
      (has_in c (plane_at i a + 0 * p) (means_of n left right) x (w - 1) (omega arith) long (omega (arith, means_length n left right))
      (tab_at (λ j. mean_of (get_or left j 0) (get_or right j 0)) n (w - 1) (omega arith)
      ∙ ap (λ (z : ℕ). mean_of z (get_or right (w - 1) 0)) (fetch_at c (0 + 0 * p) n (w - 1) (omega arith) ∙ ap (λ (z : ℕ). get_or c z 0) (omega arith) ∙ es)
      ∙ ap (mean_of s) (fetch_at c (1 + 0 * p) n (w - 1) (omega arith) ∙ ap (λ (z : ℕ). get_or c z 0) (omega arith) ∙ et)))
      (λ j d m some q. has_before (plane_at i a + j * p) _ (omega (arith, row_in 0 j p some)) q)

  kernel_last : {s : ℕ} (u : HalfPel) → get_or c (i.width - 1) 0 ≡ s → Has x s (horizontal_plane u i (plane_at i a) 0 c)
  unfolding horizontal_plane half_horizontal
  kernel_last {s} u es =
      let w = i.width in
      let p = i.pitch in
      let row = fetch c (0 + 0 * p) w in
      let rule : ℕ → ℕ = λ j. around (half_sample u j w) row j in
      steps_first (Has x s) _ i.height c hh
      (has_in c (plane_at i a + 0 * p) (half_horizontal u w row) x (w - 1) (omega arith) long (omega (arith, half_horizontal_length u w row))
      (tab_at rule w (w - 1) (omega arith)
      ∙ cond_yes (leb w (w - 1 + 1)) (get_or row (w - 1) 0) _ (le-leb w (w - 1 + 1) (omega arith))
      ∙ fetch_at c (0 + 0 * p) w (w - 1) (omega arith)
      ∙ ap (λ (z : ℕ). get_or c z 0) (omega arith)
      ∙ es))
      (λ j d m some q. has_before (plane_at i a + j * p) _ (omega (arith, row_in 0 j p some)) q)

  pub half_means : {s t : ℕ} (b d : ℕ) → a < b → a < d → In i a x → get_or c (i.width - 1) 0 ≡ s → get_or c i.width 0 ≡ t → Has x (mean_of s t) (half_planes Means i a b d c)
  unfolding half_planes mean_planes byte
  half_means {s} {t} b d ab ad in' es et =
      let v = mean_of s t in
      let under : (m r j : ℕ) → a < m → KeepsByte x v (λ l. copy_run j (plane_at i m) i.width (pair_plane i (plane_at i m) 0 r l)) = λ m r j later. under_kept any_bytes (byte x v) i _ _ _ (under_off i fits a in' v m r j (inr later) hh) in
      has_after (after (under b i.pitch 0 ab) (under d (i.pitch + 1) 1 ad)) (means_last es et)

  pub half_kernel : {s : ℕ} (u : HalfPel) (b d : ℕ) → a < b → a < d → In i a x → get_or c (i.width - 1) 0 ≡ s → Has x s (half_planes (Kernel u) i a b d c)
  unfolding half_planes kernel_planes byte
  half_kernel {s} u b d ab ad in' es =
      let one : (m rows from : ℕ) → a < m → OneNeed (byte x s) i rows (plane_at i m) from = λ m rows from later. one_off i fits a in' s m rows from (inr later) in
      has_after (after (below_kept any_bytes (byte x s) u (any_kernel u) i _ _ (one b _ _ ab)) (across_kept any_bytes (byte x s) u (any_kernel u) i _ _ (one d _ _ ad))) (kernel_last u es)
