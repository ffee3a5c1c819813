-- One walk through the stages of a build: a relation of two canvases that stores of related rows keep is kept by every stage, so that no other law has to walk through them. Assumes nothing.
-- First what holds of any relation: stages one after the other, loops, choices, tables. Then a notion, that says which runs may be read and stored, and what each stage needs of it: a run that is stored, and rows; later levels; the planes of level 0.
use mathlib.Core.Path.{◌≡◌, refl, sym, ◌∙◌}
use mathlib.Core.Bool.{Bool, true, false, cond}
use mathlib.Core.List.{List, [], ◌∷◌}
use Prim.Native.Nat.{ℕ, zero, suc, ◌+◌, ◌*◌, ◌-◌, ◌≤◌, ◌<◌}
use native.Mathlib.Omega.{arith}
use lib.Dec.{eqb}
use lib.ListN.{length, get_or}
use Rattle.filters.specs.declared.halving.ReduceFilter.{ReduceFilter}
use Rattle.filters.specs.declared.halving.ReduceFilter.TheVariants.{Cubic}
use Rattle.filters.specs.declared.half_pel.HalfPel.{HalfPel}
use Rattle.filters.specs.declared.half_pel.Upscale.{Upscale}
use Rattle.filters.proofs.Lengths.{means_length, horizontal_length, half_horizontal_length, half_vertical_length}
use Rattle.layouts.specs.declared.layout.Region.{Region}
use Rattle.layouts.specs.Storing.{put, steps}
use Rattle.builder.specs.declared.refining.Interp.{Interp}
use Rattle.builder.specs.declared.refining.Pair.{Pair}
use Rattle.builder.specs.Canvas.{fetch, copy_run}
use Rattle.builder.specs.Halving.{whole_of, vertical_line, vertical_rows, halve_run, horizontal_rows, from_stored, fused_line, fused, close_up, from_source}
use Rattle.builder.specs.Refining.{chunked, pair_run, pair_plane, horizontal_plane, vertical_run, vertical_plane, plane_at, mean_planes, kernel_planes, half_planes, pair_of, pairs, quarter, fold_pairs, refine}
use Rattle.builder.proofs.Runs.{fetch_length}
use Rattle.builder.proofs.Lines.{LineReads, reads_all, line_length, whole_or}
use Rattle.builder.proofs.Halves.{fused_length}
use Rattle.builder.proofs.Related.{Bytes, Kernels, Rel, rel_fetch, rel_means, rel_horizontal, rel_line, rel_fused, rel_across, rel_below}

-- ---- stages that keep a relation of canvases: two of them, each on its canvas
pub record Respects (R : List ℕ → List ℕ → Type 0) (f g : List ℕ → List ℕ) : Type 0 where
  pub each : (c d : List ℕ) → R c d → R (f c) (g d)

-- one stage on both
abbrev pub Keeps : (List ℕ → List ℕ → Type 0) → (List ℕ → List ℕ) → Type 0
Keeps R f = Respects R f f

module _ {R : List ℕ → List ℕ → Type 0} where
  pub still : Keeps R (λ c. c)
  still = record { each = λ c d r. r }

  pub after : {f g f' g' : List ℕ → List ℕ} → Respects R f f' → Respects R g g' → Respects R (λ c. g (f c)) (λ c. g' (f' c))
  after {f} {g} {f'} {g'} a b = record { each = λ c d r. b.each (f c) (f' d) (a.each c d r) }

  pub turns : (step step' : ℕ → List ℕ → List ℕ) (n : ℕ) → ((y : ℕ) → y < n → Respects R (step y) (step' y)) → Respects R (steps step n) (steps step' n)
  unfolding steps
  turns step step' zero each = still
  turns step step' (suc n) each = after (turns step step' n (λ y lt. each y (omega arith))) (each n (omega arith))

  pub either : (t : Bool) {f g f' g' : List ℕ → List ℕ} → (t ≡ true → Respects R f f') → (t ≡ false → Respects R g g') → Respects R (λ c. cond t (f c) (g c)) (λ c. cond t (f' c) (g' c))
  either true a b = a refl
  either false a b = b refl

  pub folds : (step : Pair → List ℕ → List ℕ) (qs : List Pair) → ((k : ℕ) → k < length qs → Keeps R (step (get_or qs k (pair_of 0 0 0 0 0)))) → Keeps R (fold_pairs step qs)
  unfolding fold_pairs
  folds step [] each = still
  folds step (q ∷ qs) each = after (each 0 (omega arith)) (folds step qs (λ k lt. each (suc k) (omega arith)))

-- ---- a notion: a relation R of two canvases, and which runs may be read and stored: what is read is related byte by byte, and R is kept where what is stored is so too
pub record Notion (E : ℕ → ℕ → Type 0) : Type 1 where
  pub R : List ℕ → List ℕ → Type 0
  pub Sees : ℕ → ℕ → Type 0
  pub Takes : ℕ → ℕ → Type 0
  pub fewer : (at m n : ℕ) → m ≤ n → Takes at n → Takes at m
  pub reads : (c d : List ℕ) (at n : ℕ) → R c d → Sees at n → Rel E (fetch c at n) (fetch d at n)
  pub stores : (c d x y : List ℕ) (at n : ℕ) → R c d → Takes at n → length x ≡ n → length y ≡ n → Rel E x y → R (put c at x) (put d at y)

-- n bytes of each of h rows, `step` apart from `at` on
abbrev pub Rows : (ℕ → ℕ → Type 0) → ℕ → ℕ → ℕ → ℕ → Type 0
Rows Ok h at step n = (y : ℕ) → y < h → Ok (at + y * step) n

-- what the rows of level t read of their source
abbrev pub LevelReads : (ℕ → ℕ → Type 0) → ReduceFilter → ℕ → ℕ → ℕ → Region → Type 0
LevelReads Ok f whole base sp t = (y : ℕ) → y < t.height → LineReads Ok f whole (2 * t.width) t.height base sp y

-- lines that close up to t; line 0 stays where it is
abbrev pub CloseNeed : {E : ℕ → ℕ → Type 0} → Notion E → ℕ → ℕ → ℕ → Type 0
CloseNeed N t p h = (y : ℕ) → 1 ≤ y → y < h → N.Sees (t + y * (2 * p)) p × N.Takes (t + y * p) p

-- a plane at t from the rows of one at s; and a pair
pub record OneNeed {E : ℕ → ℕ → Type 0} (N : Notion E) (i : Interp) (rows t s : ℕ) : Type 0 where
  pub target : Rows N.Takes i.height t i.pitch i.width
  pub source : Rows N.Sees rows s i.pitch i.width

pub record PairNeed {E : ℕ → ℕ → Type 0} (N : Notion E) (i : Interp) (t l r : ℕ) : Type 0 where
  pub target : Rows N.Takes i.height t i.pitch (chunked i.width)
  pub left : Rows N.Sees i.height l i.pitch (chunked i.width)
  pub right : Rows N.Sees i.height r i.pitch (chunked i.width)

-- and its first row, copied from s
pub record UnderNeed {E : ℕ → ℕ → Type 0} (N : Notion E) (i : Interp) (t r s : ℕ) : Type 0 where
  pub pair : PairNeed N i t 0 r
  pub from : N.Sees s i.width
  pub to : N.Takes t i.width

module _ {E : ℕ → ℕ → Type 0} (N : Notion E) where
  -- ---- a run that is stored
  pub store : (at n : ℕ) (run run' : List ℕ → List ℕ) → N.Takes at n → ((c : List ℕ) → length (run c) ≡ n) → ((c : List ℕ) → length (run' c) ≡ n) → ((c d : List ℕ) → N.R c d → Rel E (run c) (run' d)) → Respects N.R (λ c. put c at (run c)) (λ c. put c at (run' c))
  store at n run run' takes long long' rel = record { each = λ c d r. N.stores c d (run c) (run' d) at n r takes (long c) (long' d) (rel c d r) }

  pub copy_kept : (s t n : ℕ) → N.Sees s n → N.Takes t n → Keeps N.R (copy_run s t n)
  unfolding copy_run
  copy_kept s t n sees takes = store t n _ _ takes (λ c. fetch_length c s n) (λ c. fetch_length c s n) (λ c d r. N.reads c d s n r sees)

  -- rows of such runs
  rows_kept : (h at step n : ℕ) (line line' : ℕ → List ℕ → List ℕ) → Rows N.Takes h at step n → ((y : ℕ) (c : List ℕ) → length (line y c) ≡ n) → ((y : ℕ) (c : List ℕ) → length (line' y c) ≡ n) → ((y : ℕ) → y < h → (c d : List ℕ) → N.R c d → Rel E (line y c) (line' y d)) → Respects N.R (steps (λ y c. put c (at + y * step) (line y c)) h) (steps (λ y c. put c (at + y * step) (line' y c)) h)
  rows_kept h at step n line line' takes long long' rel = turns _ _ h (λ y lt. store (at + y * step) n (line y) (line' y) (takes y lt) (long y) (long' y) (rel y lt))

module _ {E : ℕ → ℕ → Type 0} (B : Bytes E) (N : Notion E) where
  -- ---- later levels; what is seen is the canvas, or the source plane
  module _ (f : ReduceFilter) (t : Region) (step : ℕ) (takes : Rows N.Takes t.height t.offset step (2 * t.width)) where
    vertical_kept : {Ok : ℕ → ℕ → Type 0} (see see' : List ℕ → List ℕ) (base sp : ℕ) → ((c d : List ℕ) → N.R c d → (a k : ℕ) → Ok a k → Rel E (fetch (see c) a k) (fetch (see' d) a k)) → LevelReads Ok f (whole_of f (2 * t.width)) base sp t → Respects N.R (vertical_rows f see base sp t step) (vertical_rows f see' base sp t step)
    unfolding vertical_rows
    vertical_kept see see' base sp seen lines =
        let n = 2 * t.width in
        let h = t.height in
        let whole = whole_of f n in
        let long : (y : ℕ) (s : List ℕ) → length (vertical_line f whole n h s base sp y) ≡ n = λ y s. line_length f whole n h s base sp y (whole_or f n).0 in
        rows_kept N h t.offset step n _ _ takes (λ y c. long y (see c)) (λ y c. long y (see' c)) (λ y lt c d r. rel_line B (see c) (see' d) (seen c d r) f whole n h base sp y (lines y lt))

    horizontal_kept : Rows N.Sees t.height t.offset step (2 * t.width) → Keeps N.R (horizontal_rows f t step)
    unfolding horizontal_rows halve_run
    horizontal_kept sees =
        let w = t.width in
        let n = 2 * w in
        rows_kept N t.height t.offset step w _ _ (λ y lt. N.fewer (t.offset + y * step) w n (omega arith) (takes y lt)) (λ y c. horizontal_length f w _) (λ y c. horizontal_length f w _)
        (λ y lt c d r.
        let at = t.offset + y * step in
        rel_horizontal B f w (fetch c at n) (fetch d at n) (fetch_length c at n ∙ sym (fetch_length d at n)) (N.reads c d at n r (sees y lt)))

  pub stored_kept : (f : ReduceFilter) (base p : ℕ) (t : Region) → Rows N.Takes t.height t.offset p (2 * t.width) → Rows N.Sees t.height t.offset p (2 * t.width) → LevelReads N.Sees f (whole_of f (2 * t.width)) base p t → Keeps N.R (from_stored f base p t)
  unfolding from_stored
  stored_kept f base p t takes sees lines =
      after (vertical_kept f t p takes (λ d. d) (λ d. d) base p (λ c d r a k s. N.reads c d a k r s) lines) (horizontal_kept f t p takes sees)

  pub fused_kept : (base p : ℕ) (t : Region) → 2 * t.width ≤ p → Rows N.Takes t.height t.offset p p → LevelReads N.Sees Cubic (2 * t.width) base p t → Keeps N.R (fused base p t)
  unfolding fused
  fused_kept base p t fits takes lines =
      let w = t.width in
      let n = 2 * w in
      let h = t.height in
      let line : ℕ → List ℕ → List ℕ = λ y c. vertical_line Cubic n n h c base p y in
      let long : (y : ℕ) (c : List ℕ) → length (line y c) ≡ n = λ y c. line_length Cubic n n h c base p y (omega arith) in
      let all : (y : ℕ) (c : List ℕ) → length (fused_line p w (line y c)) ≡ p = λ y c. fused_length p w (line y c) fits (long y c) in
      rows_kept N h t.offset p p _ _ takes all all
      (λ y lt c d r. rel_fused B p w (line y c) (line y d) (long y c ∙ sym (long y d)) (rel_line B c d (λ a k s. N.reads c d a k r s) Cubic n n h base p y (lines y lt)))

  pub close_kept : (t p h : ℕ) → CloseNeed N t p h → Keeps N.R (close_up t p h)
  unfolding close_up
  close_kept t p h line = turns _ _ (h - 1) (λ i lt. let l = line (i + 1) (omega arith) (omega arith) in copy_kept N (t + (i + 1) * (2 * p)) (t + (i + 1) * p) p l.0 l.1)

  pub source_kept : (f : ReduceFilter) (src src' : List ℕ) (sp p : ℕ) (t : Region) → Rel E src src' → Rows N.Takes t.height t.offset (2 * p) (2 * t.width) → Rows N.Sees t.height t.offset (2 * p) (2 * t.width) → CloseNeed N t.offset p t.height → Respects N.R (from_source f src sp p t) (from_source f src' sp p t)
  unfolding from_source
  source_kept f src src' sp p t same takes sees line =
      after
      (after
      (vertical_kept f t (2 * p) takes {Ok = λ a k. Unit} (λ d. src) (λ d. src') 0 sp (λ c d r a k z. rel_fetch B src src' a k same) (λ y lt. reads_all (λ a k. tt)))
      (horizontal_kept f t (2 * p) takes sees))
      (close_kept t.offset p t.height line)

  -- ---- planes of level 0
  pub pair_run_kept : (t l r n : ℕ) → N.Sees l n → N.Sees r n → N.Takes t n → Keeps N.R (pair_run t l r n)
  unfolding pair_run
  pair_run_kept t l r n left right takes = store N t n _ _ takes (λ c. means_length n _ _) (λ c. means_length n _ _) (λ c d r'. rel_means B n _ _ _ _ (N.reads c d l n r' left) (N.reads c d r n r' right))

  pub pair_kept : (i : Interp) (t l r : ℕ) → PairNeed N i t l r → Keeps N.R (pair_plane i t l r)
  unfolding pair_plane
  pair_kept i t l r P = turns _ _ i.height (λ y lt. pair_run_kept (t + y * i.pitch) (l + y * i.pitch) (r + y * i.pitch) (chunked i.width) (P.left y lt) (P.right y lt) (P.target y lt))

  pub under_kept : (i : Interp) (t r s : ℕ) → UnderNeed N i t r s → Keeps N.R (λ c. copy_run s t i.width (pair_plane i t 0 r c))
  under_kept i t r s P = after (pair_kept i t 0 r P.pair) (copy_kept N s t i.width P.from P.to)

  pub means_kept : (i : Interp) (a b d : ℕ) → PairNeed N i (plane_at i a) 0 1 → UnderNeed N i (plane_at i b) i.pitch 0 → UnderNeed N i (plane_at i d) (i.pitch + 1) 1 → Keeps N.R (mean_planes i a b d)
  unfolding mean_planes
  means_kept i a b d P Q S = after (after (pair_kept i (plane_at i a) 0 1 P) (under_kept i (plane_at i b) i.pitch 0 Q)) (under_kept i (plane_at i d) (i.pitch + 1) 1 S)

  module _ (k : HalfPel) (K : Kernels E k) (i : Interp) where
    pub across_kept : (t s : ℕ) → OneNeed N i i.height t s → Keeps N.R (horizontal_plane k i t s)
    unfolding horizontal_plane
    across_kept t s P =
        let w = i.width in
        rows_kept N i.height t i.pitch w _ _ P.target (λ y c. half_horizontal_length k w _) (λ y c. half_horizontal_length k w _) (λ y lt c d r. rel_across B k K w _ _ (N.reads c d (s + y * i.pitch) w r (P.source y lt)))

    pub below_kept : (t s : ℕ) → OneNeed N i (i.height + 3) t s → Keeps N.R (vertical_plane k i t s)
    unfolding vertical_plane vertical_run
    below_kept t s P =
        let h = i.height in
        let w = i.width in
        rows_kept N h t i.pitch w _ _ P.target (λ y c. half_vertical_length k y h w _ _ _ _ _ _) (λ y c. half_vertical_length k y h w _ _ _ _ _ _)
        (λ y lt c d r.
        let row : (j : ℕ) → j < h + 3 → Rel E (fetch c (s + j * i.pitch) w) (fetch d (s + j * i.pitch) w) = λ j l. N.reads c d (s + j * i.pitch) w r (P.source j l) in
        rel_below B k K y h w _ _ _ _ _ _ _ _ _ _ _ _ (row (y - 2) (omega arith)) (row (y - 1) (omega arith)) (row y (omega arith)) (row (y + 1) (omega arith)) (row (y + 2) (omega arith)) (row (y + 3) (omega arith)))

    pub kernel_kept : (a b d : ℕ) → OneNeed N i i.height (plane_at i a) 0 → OneNeed N i (i.height + 3) (plane_at i b) 0 → OneNeed N i i.height (plane_at i d) (plane_at i b) → Keeps N.R (kernel_planes k i a b d)
    unfolding kernel_planes
    kernel_kept a b d P Q S = after (after (across_kept (plane_at i a) 0 P) (below_kept (plane_at i b) 0 Q)) (across_kept (plane_at i d) (plane_at i b) S)

pub refine_kept : {R : List ℕ → List ℕ → Type 0} (i : Interp) (pel : ℕ) (u : Upscale) → (eqb pel 2 ≡ true → Keeps R (half_planes u i 1 2 3)) → (eqb pel 2 ≡ false → Keeps R (half_planes u i 2 8 10)) → (eqb pel 2 ≡ false → Keeps R (fold_pairs (quarter i) pairs)) → Keeps R (refine i pel u)
unfolding refine
refine_kept i pel u two four quarters = either (eqb pel 2) two (λ e. after (four e) (quarters e))
