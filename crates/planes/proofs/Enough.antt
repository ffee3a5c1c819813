-- Document 01's spill need covers every store: a build keeps the length of frame and spill, so that all that it stores lies in them (law `put_reaches`). First a stage's length, then the build's, then that of the frame that it leaves. Assumes nothing.
use mathlib.Core.Path.{◌≡◌, refl, ◌∙◌}
use mathlib.Core.List.{List, ◌++◌}
use Prim.Native.Nat.{ℕ, ◌+◌, ◌≤◌}
use native.Mathlib.Omega.{arith}
use lib.ListN.{length, replicate, length-append, length-replicate}
use lib.Seq.{length-take-le}
use Rattle.filters.specs.Refine.{upscale}
use Rattle.layouts.specs.declared.layout.Layout.{Layout}
use Rattle.layouts.specs.Layout.{spill_need}
use Rattle.layouts.specs.Refusals.{build_no}
use Rattle.layouts.specs.Room.{Ready}
use Rattle.builder.proofs.Runs.{put_length}
use Rattle.builder.proofs.Related.{Any, any_bytes, any_ups, any_row}
use Rattle.builder.proofs.Stages.{Keeps, Notion}
use Rattle.builder.proofs.Placed.{Allows}
use Rattle.planes.specs.Build.{built, built_frame, frame_by}
use Rattle.planes.proofs.Whole.{ready, ready_lent}
use Rattle.planes.proofs.Built.{built_placed}

-- a canvas of `long` bytes stays one of as many where each store lies in it
lengths : ℕ → Notion Any
lengths long =
    record {
      R = λ c d. length c ≡ long;
      Sees = λ at n. Unit;
      Takes = λ at n. at + n ≤ long;
      fewer = λ at m n le fits. omega arith;
      reads = λ c d at n r z. any_row;
      stores = λ c d x y at n r fits lx ly z. put_length c at x (omega arith) ∙ r;
    }

-- a stage that stores in `long` bytes alone leaves as many
pub length_kept : {long : ℕ} {stage : List ℕ → List ℕ} → ((N : Notion Any) → Allows N long → Keeps N.R stage) → (c : List ℕ) → length c ≡ long → length (stage c) ≡ long
unfolding lengths
length_kept {long} keeps c e = (keeps (lengths long) (record { sees = λ at n fits. tt; takes = λ at n fits. fits })).each c c e

-- nothing is stored past frame and spill
keeps_built : (q : Layout) {n sp len spill scratch : ℕ} → Ready q n sp len spill scratch → (src c : List ℕ) → length c ≡ len + spill → length (built q src sp len c) ≡ len + spill
keeps_built q r src c e = length_kept (λ N A. built_placed any_bytes q src src r A any_row (λ z. any_ups (upscale q.opts.scale_up))) c e

-- ---- the law
pub spill_enough : (q : Layout) (sp scratch : ℕ) (src F S : List ℕ) → Ready q (length src) sp (length F) (length S) scratch → length (built q src sp (length F) (F ++ S)) ≡ length F + length S
spill_enough q sp scratch src F S r = keeps_built q r src (F ++ S) (length-append F S)

-- with a spill of the need, which holds zeros before
zeros_enough : (q : Layout) {n sp scratch : ℕ} (src F : List ℕ) → Ready q n sp (length F) (spill_need q) scratch → length (built q src sp (length F) (F ++ replicate (spill_need q) 0)) ≡ length F + spill_need q
zeros_enough q src F r =
    keeps_built q r src (F ++ replicate (spill_need q) 0) (length-append F (replicate (spill_need q) 0) ∙ omega (arith, length-replicate {A = ℕ} (spill_need q) 0))

pub need_enough : (q : Layout) (sp scratch : ℕ) (src F : List ℕ) → build_no q (length src) sp (length F) (spill_need q) scratch ≡ 0 → length (built q src sp (length F) (F ++ replicate (spill_need q) 0)) ≡ length F + spill_need q
need_enough q sp scratch src F e = zeros_enough q src F (ready q (length src) sp (length F) (spill_need q) scratch e)

-- the frame that is left is as long as it was
pub frame_long : (q : Layout) {n sp spill scratch : ℕ} (src F : List ℕ) → Ready q n sp (length F) spill scratch → length (built_frame q src sp F) ≡ length F
unfolding frame_by
frame_long q src F r = length-take-le (length F) _ (omega (arith, zeros_enough q src F (ready_lent r refl (omega arith) r.room)))
