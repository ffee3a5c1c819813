-- The answer to a site that turned the fused path off: when whole builds with the path on and off leave one frame. Assumes nothing.
-- First a full record, in a frame in which the margins of the levels that are fused are zeros; pictures in turn in such a frame; a frame of zeros. Then another down, by which no level is fused. Last about the calls.
use mathlib.Core.Path.{◌≡◌, refl, sym, ap, ◌∙◌}
use mathlib.Core.Bool.{Bool, true, false, cond}
use mathlib.Core.List.{List, [], ◌∷◌, ◌++◌}
use mathlib.Core.Logic.{⊎_elim}
use Prim.Native.Nat.{ℕ, suc, ◌+◌, ◌-◌, ◌≤◌, ◌<◌}
use native.Mathlib.Omega.{arith}
use lib.Dec.{eqb}
use lib.ListN.{length, get_or, take, replicate, length-append, length-replicate, get_or-replicate, get_or-append, get_or-eq_default}
use lib.Seq.{get_or-take, length-take-le}
use contract.Lifetimes.{Lfts}
use Rattle.settings.specs.Numbers.{is_nat}
use Rattle.settings.specs.Answers.{tested}
use Rattle.settings.proofs.Outcome.{Contract, both_ways, Promises}
use Rattle.filters.specs.declared.halving.ReduceFilter.{ReduceFilter}
use Rattle.std.specs.declared.option.Option.{Option}
use Rattle.std.specs.declared.option.Option.TheVariants.{Some, None}
use Rattle.filters.specs.Halve.{chosen}
use Rattle.filters.proofs.Tests.{below_or}
use Rattle.layouts.specs.declared.layout.Layout.{Layout}
use Rattle.layouts.specs.Layout.{levels_of, height_at, spill_need, scratch_need}
use Rattle.layouts.specs.Refusals.{build_no}
use Rattle.layouts.specs.Margins.{fused_at}
use Rattle.layouts.specs.Room.{Ready}
use Rattle.layouts.proofs.Loops.{row_in}
use Rattle.stored.specs.Layout.{view_of}
use Rattle.planes.specs.Build.{copied, level_by, halved_by, refined, built_by, frame_by, LeavesBy}
use Rattle.planes.proofs.Prepared.{within_here}
use Rattle.planes.proofs.Whole.{ready}
use Rattle.planes.proofs.Calls.{build_plane_contract}
use Rattle.planes.proofs.build.build_plane.Reads as build_plane_reads
use Rattle.planes.proofs.build.build_plane_by.Reads as build_plane_by_reads
use Rattle.demands.proofs.Demand.{done_leaves}
use Rattle.paths.specs.Paths.{place_at, OneFrame, FusedMarginsZero, SameInput, Source, in_turn, AllAccepted}
use Rattle.builder.proofs.Swaps.{steps_alike}
use Rattle.paths.proofs.Builds.{Clean, stored_yes, built_same, built_zeros}

-- ---- a full record
module _ (q : Layout) (sp scratch : ℕ) (full : q.opts.full ≡ true) (src F : List ℕ) (e : build_no q (length src) sp (length F) (spill_need q) scratch ≡ 0) (margins : FusedMarginsZero q (length F) F) where
  abbrev canvas : List ℕ
  canvas = F ++ replicate (spill_need q) 0

  abbrev accepted : Ready q (length src) sp (length F) (spill_need q) scratch
  accepted = ready q (length src) sp (length F) (spill_need q) scratch e

  margin_there : (l y j : ℕ) → 1 ≤ l → l < levels_of q → y < height_at q l → j < q.pitch → place_at q l y j < length F
  margin_there l y j some there lt to = omega (arith, row_in y (height_at q l) q.pitch lt, (within_here q accepted l some there refl refl (stored_yes q accepted full l)).target)

  clean : Clean q (length F) (length F + spill_need q) canvas
  clean =
      record {
        same = length-append F (replicate (spill_need q) 0) ∙ omega (arith, length-replicate {A = ℕ} (spill_need q) 0);
        margins = λ l some there fl y j lt from to. get_or-append F (replicate (spill_need q) 0) 0 (place_at q l y j) (margin_there l y j some there lt to) ∙ margins l some there fl y j lt from to;
      }

  pub paths_alike : OneFrame q src sp F
  unfolding frame_by
  paths_alike = ap (take (length F)) (built_same q accepted full src canvas clean)

  -- what is left is such a frame again
  left_long : length (frame_by false q src sp F) ≡ length F
  unfolding frame_by
  left_long = length-take-le (length F) _ (omega (arith, (built_zeros q accepted full src canvas clean).same))

  margins_left : FusedMarginsZero q (length F) (frame_by false q src sp F)
  unfolding frame_by
  margins_left l some there fl y j lt from to = get_or-take (length F) _ (place_at q l y j) 0 (margin_there l y j some there lt to) ∙ (built_zeros q accepted full src canvas clean).margins l some there fl y j lt from to

-- pictures in turn, with the path on for any of them and off for others, leave what they leave with it off for all
turns_off : (path : ℕ → Bool) (q : Layout) → q.opts.full ≡ true → (sources : List Source) (F : List ℕ) → AllAccepted q (length F) sources → FusedMarginsZero q (length F) F → in_turn path q sources F ≡ in_turn (λ k. false) q sources F
unfolding in_turn
turns_off path q full [] F all margins = refl
turns_off path q full (s ∷ later) F all margins =
    let src = s.plane in
    let sp = s.src_pitch in
    let G = frame_by false q src sp F in
    let same : length G ≡ length F = left_long q sp (scratch_need q) full src F all.0 margins in
    ap (in_turn (λ k. path (suc k)) q later) (off (path 0) src sp all.0)
    ∙ turns_off (λ k. path (suc k)) q full later G (rw same all.1) (rw same (margins_left q sp (scratch_need q) full src F all.0 margins))
  where
    off : (b : Bool) (src : List ℕ) (sp : ℕ) → build_no q (length src) sp (length F) (spill_need q) (scratch_need q) ≡ 0 → frame_by b q src sp F ≡ frame_by false q src sp F
    off true src sp e = paths_alike q sp (scratch_need q) full src F e margins
    off false src sp e = refl

pub turns_alike : (path path' : ℕ → Bool) (q : Layout) → q.opts.full ≡ true → (sources : List Source) (F : List ℕ) → AllAccepted q (length F) sources → FusedMarginsZero q (length F) F → in_turn path q sources F ≡ in_turn path' q sources F
turns_alike path path' q full sources F all margins = turns_off path q full sources F all margins ∙ sym (turns_off path' q full sources F all margins)

-- a frame of zeros is such a frame
pub zero_margins : (q : Layout) (len : ℕ) → FusedMarginsZero q len (replicate len 0)
zero_margins q len l some there fl y j lt from to = zero_at (place_at q l y j)
  where
    zero_at : (i : ℕ) → get_or (replicate {A = ℕ} len 0) i 0 ≡ 0
    zero_at i = ⊎_elim (λ (lt : i < len). get_or-replicate len i 0 0 lt) (λ (le : len ≤ i). get_or-eq_default (replicate len 0) 0 (omega (arith, length-replicate {A = ℕ} len 0))) (below_or i len)

pub paths_zeros : (q : Layout) (sp scratch len : ℕ) (src : List ℕ) → q.opts.full ≡ true → build_no q (length src) sp len (spill_need q) scratch ≡ 0 → OneFrame q src sp (replicate len 0)
paths_zeros q sp scratch len src full e =
    let long : length (replicate {A = ℕ} len 0) ≡ len = length-replicate len 0 in
    paths_alike q sp scratch full src (replicate len 0) (rw long e) (rw long (zero_margins q len))

-- ---- another down: the fused path isn't taken, whatever the record and the frame
module _ (q : Layout) (src : List ℕ) (sp len : ℕ) (other : is_nat q.opts.scale_down 4 ≡ false) where
  level_other : (f : ReduceFilter) (l : ℕ) (c : List ℕ) → level_by true q src sp len f l c ≡ level_by false q src sp len f l c
  unfolding level_by fused_at
  level_other f l c = rw other refl

  halved_other : (k : Option ReduceFilter) (c : List ℕ) → halved_by true q src sp len k c ≡ halved_by false q src sp len k c
  unfolding halved_by
  halved_other (Some f) c = steps_alike (λ d. Unit) (λ i. level_by true q src sp len f (i + 1)) (λ i. level_by false q src sp len f (i + 1)) (levels_of q - 1) (λ i d lt u. tt) (λ i d lt u. level_other f (i + 1) d) c tt
  halved_other None c = refl

pub other_alike : (q : Layout) (src : List ℕ) (sp : ℕ) (F : List ℕ) → is_nat q.opts.scale_down 4 ≡ false → OneFrame q src sp F
unfolding frame_by built_by
other_alike q src sp F other =
    let c = F ++ replicate (spill_need q) 0 in
    let first = cond q.opts.full (copied q src sp c) c in
    ap (λ (x : List ℕ). take (length F) (cond (eqb (levels_of q) 0) c (refined q x))) (halved_other q src sp (length F) other (chosen q.opts.scale_down) first)

-- ---- about the calls: frame, spill, scratch, record, layout, source and source pitch; before them, of `build_plane_by`, whether the path is on
pub build_plane_by_contract : (κs : Lfts 5) → Contract (build_plane_by_reads.Post κs) (λ x t e. LeavesBy x.0 x.1.1.1.1.0 x.1.1.1.1.1.0.now x.1.1.1.1.1.1.0.now x.1.1.1.1.1.1.1.0 x.1.0.now x.1.1.0.now x.1.1.1.0.now (tested t) e.1.0.now e.1.1.0.now e.1.1.1.0.now)
build_plane_by_contract κs x t e = both_ways

-- the site's answer: what `build_plane` and, with the fused path off, `build_plane_by` leave by a full record in one frame, in which the margins of the levels that are fused are zeros
pub calls_alike : (κs κs' : Lfts 5) → Promises (build_plane_reads.Post κs) (λ x t e. Promises (build_plane_by_reads.Post κs') (λ y u d. y.0 ≡ false → SameInput (view_of x.1.1.1.0 x.1.1.1.1.0.now) (view_of y.1.1.1.1.0 y.1.1.1.1.1.0.now) x.1.1.1.1.1.0.now y.1.1.1.1.1.1.0.now x.1.1.1.1.1.1.0 y.1.1.1.1.1.1.1.0 x.0.now y.1.0.now → tested t ≡ 0 → tested u ≡ 0 → x.1.1.1.0.full ≡ true → FusedMarginsZero (view_of x.1.1.1.0 x.1.1.1.1.0.now) (length x.0.now) x.0.now → e.0.now ≡ d.1.0.now))
calls_alike κs κs' x t e p y u d p' off same fine fine' full margins =
    let q = view_of x.1.1.1.0 x.1.1.1.1.0.now in
    let src = x.1.1.1.1.1.0.now in
    let sp = x.1.1.1.1.1.1.0 in
    let F = x.0.now in
    let with-path = done_leaves true x.1.1.1.0 x.1.1.1.1.0.now src sp F x.1.0.now x.1.1.0.now ((build_plane_contract κs x t e).0 p) fine in
    let without = done_leaves y.0 y.1.1.1.1.0 y.1.1.1.1.1.0.now y.1.1.1.1.1.1.0.now y.1.1.1.1.1.1.1.0 y.1.0.now y.1.1.0.now y.1.1.1.0.now ((build_plane_by_contract κs' y u d).0 p') fine' in
    with-path.1 ∙ paths_alike q sp (scratch_need q) full src F with-path.0 margins ∙ sym (without.1 ∙ rw (off, same.one_layout, same.one_source, same.one_pitch, same.one_frame) refl)
