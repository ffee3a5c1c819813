-- A build keeps what each of its stages keeps, whatever relation of two canvases that is. Assumes nothing.
-- First level 0's rows; then a later level, in its way, and all of them; refining; last the build, from its parts.
use mathlib.Core.Path.{◌≡◌}
use mathlib.Core.Bool.{true, false, ◌||◌}
use mathlib.Core.List.{List}
use Prim.Native.Nat.{ℕ, ◌+◌, ◌*◌, ◌-◌, ◌≤◌, ◌<◌}
use native.Mathlib.Omega.{arith}
use lib.Dec.{leb, eqb}
use borrow.Author.Tests.{eqb-false}
use Rattle.settings.specs.Check.{pel_of}
use Rattle.filters.specs.declared.halving.ReduceFilter.{ReduceFilter}
use Rattle.std.specs.declared.option.Option.{Option}
use Rattle.std.specs.declared.option.Option.TheVariants.{Some, None}
use Rattle.filters.specs.Halve.{chosen}
use Rattle.filters.specs.Refine.{upscale}
use Rattle.layouts.specs.declared.layout.Layout.{Layout}
use Rattle.layouts.specs.Layout.{levels_of, width_at, height_at, offset_at, region_at}
use Rattle.layouts.specs.Margins.{fused_at}
use Rattle.builder.specs.Canvas.{fetch}
use Rattle.builder.specs.Halving.{from_stored, fused, from_source}
use Rattle.builder.specs.Refining.{refine}
use Rattle.builder.proofs.Runs.{fetch_length}
use Rattle.builder.proofs.Related.{Bytes, Rel, rel_fetch}
use Rattle.builder.proofs.Stages.{Respects, Keeps, still, after, turns, either, Notion, store}
use Rattle.planes.specs.Build.{planes_of, copied, level_by, halved_by, built_by, halve_level, halved, refines, refined, built}

pub copied_kept : {E : ℕ → ℕ → Type 0} (B : Bytes E) (N : Notion E) (q : Layout) (src src' : List ℕ) (sp : ℕ) → Rel E src src' → ((y : ℕ) → y < height_at q 0 → N.Takes (y * q.pitch) (width_at q 0)) → Respects N.R (copied q src sp) (copied q src' sp)
unfolding copied
copied_kept B N q src src' sp same takes =
    let w = width_at q 0 in
    turns _ _ (height_at q 0)
    (λ y lt. store N (y * q.pitch) w (λ c. fetch src (y * sp) w) (λ c. fetch src' (y * sp) w) (takes y lt) (λ c. fetch_length src (y * sp) w) (λ c. fetch_length src' (y * sp) w) (λ c d r. rel_fetch B src src' (y * sp) w same))

-- level l, of two source planes
pub record Level (R : List ℕ → List ℕ → Type 0) (q : Layout) (src src' : List ℕ) (sp len : ℕ) (f : ReduceFilter) (l : ℕ) : Type 0 where
  pub by_fused : fused_at q len l ≡ true → Keeps R (fused (offset_at q (l - 1)) q.pitch (region_at q l))
  pub by_stored : (q.opts.full || leb 2 l) ≡ true → Keeps R (from_stored f (offset_at q (l - 1)) q.pitch (region_at q l))
  pub by_source : (q.opts.full || leb 2 l) ≡ false → Respects R (from_source f src sp q.pitch (region_at q l)) (from_source f src' sp q.pitch (region_at q l))

-- the build of them
pub record Parts (R : List ℕ → List ℕ → Type 0) (q : Layout) (src src' : List ℕ) (sp len : ℕ) : Type 0 where
  pub first : 1 ≤ levels_of q → q.opts.full ≡ true → Respects R (copied q src sp) (copied q src' sp)
  pub later : (f : ReduceFilter) (l : ℕ) → 1 ≤ l → l < levels_of q → Level R q src src' sp len f l
  pub last : 1 ≤ levels_of q → refines q ≡ true → Keeps R (refine (planes_of q) (pel_of q.opts) (upscale q.opts.scale_up))

pub refined_kept : {R : List ℕ → List ℕ → Type 0} (q : Layout) → (refines q ≡ true → Keeps R (refine (planes_of q) (pel_of q.opts) (upscale q.opts.scale_up))) → Keeps R (refined q)
unfolding refined
refined_kept q refining = either (refines q) refining (λ e. still)

module _ {R : List ℕ → List ℕ → Type 0} (q : Layout) (src src' : List ℕ) (sp len : ℕ) where
  pub level_kept : (f : ReduceFilter) (l : ℕ) → Level R q src src' sp len f l → Respects R (halve_level q src sp len f l) (halve_level q src' sp len f l)
  unfolding level_by
  level_kept f l L = either (fused_at q len l) L.by_fused (λ e. either (q.opts.full || leb 2 l) L.by_stored L.by_source)

  pub halved_kept : ((f : ReduceFilter) (l : ℕ) → 1 ≤ l → l < levels_of q → Level R q src src' sp len f l) → (k : Option ReduceFilter) → Respects R (halved q src sp len k) (halved q src' sp len k)
  unfolding halved_by
  halved_kept later (Some f) = turns _ _ (levels_of q - 1) (λ i lt. level_kept f (i + 1) (later f (i + 1) (omega arith) (omega arith)))
  halved_kept later None = still

  pub built_kept : Parts R q src src' sp len → Respects R (built q src sp len) (built q src' sp len)
  unfolding built_by
  built_kept P =
      either (eqb (levels_of q) 0) (λ e. still)
      (λ e.
      let some : 1 ≤ levels_of q = omega (arith, eqb-false (levels_of q) 0 e) in
      after (after (either q.opts.full (P.first some) (λ z. still)) (halved_kept P.later (chosen q.opts.scale_down))) (refined_kept q (P.last some)))
