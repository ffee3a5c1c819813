-- Demand 3 about the product's own calls. In the user's words:
--     "Reading any word names one build exactly if some accepted record packs to it and all that do leave equal bytes, given the same plane, source pitch, layout and starting frame; it then tells the width, height, pel, levels, gpu, full, rc and lean they all have, and their down and up where document 01 says these matter. It answers "not a code" exactly if none packs to it. It answers that the halving or the upscale filter isn't told exactly if two such records, alike but for that one setting, leave different bytes for some plane, source pitch and layout, the same for both, in a frame of zeros; if both hold, halving is named."
-- `Demand3` of specs/Demands.antt says it sentence by sentence, and `demand_3` below that it holds of every answer that meets the contract of `read_word`.
-- First the contracts of four calls, each beside `Post`, what the checker itself reads of the call's `ensures`, the fifth being `build_plane_contract` of `planes`; then from the definitions to these contracts; then `demand_3`; last `alike_words`, that words which prepare alike leave equal bytes. Assumes nothing.
use mathlib.Core.Path.{◌≡◌, refl, sym, ap, ◌∙◌, subst}
use mathlib.Core.List.{List}
use mathlib.Core.Bool.{Bool, true, false}
use mathlib.Core.Logic.{◌↔◌}
use Prim.Native.Nat.{ℕ}
use native.Mathlib.Omega.{arith}
use lib.Dec.{ltb}
use lib.ListN.{length, replicate, length-replicate}
use borrow.Author.Tests.{le-ltb}
use contract.Lifetimes.{Lfts}
use Rattle.settings.specs.declared.super_opts.SuperOpts.{SuperOpts}
use Rattle.settings.specs.Numbers.{refuse, ◌then◌}
use Rattle.settings.specs.Answers.{answer, checked, check_answer, packed, pack_answer, told, read_answer}
use Rattle.settings.specs.Reading.{Packs, alike}
use Rattle.settings.proofs.Outcome.{Contract, both_ways, Promises}
use Rattle.settings.proofs.Refusals.{then_first, then_rest}
use Rattle.settings.proofs.Known.{given, number_of, value_done}
use Rattle.settings.proofs.Told.{packs_exact}
use Rattle.settings.proofs.super_opts.SuperOpts.from_opt.Reads as from_opt_reads
use Rattle.settings.proofs.super_opts.SuperOpts.pack_data.Reads as pack_data_reads
use Rattle.settings.proofs.word.read_word.Reads as read_word_reads
use Rattle.settings.proofs.word.prepare_alike.Reads as prepare_alike_reads
use Rattle.layouts.specs.declared.layout.Layout.{Layout}
use Rattle.layouts.specs.Layout.{width_at, written_end, spill_need, scratch_need}
use Rattle.layouts.specs.Refusals.{bad_pitch, layout_no, source_need, lent_no, build_no}
use Rattle.stored.specs.Layout.{view_of, stored_of}
use Rattle.stored.proofs.Places.{view_stored}
use Rattle.stored.proofs.Exact.{made_passes}
use Rattle.lookups.proofs.Numbers.{build_stored, build_as_view}
use Rattle.planes.specs.Build.{frame_by, built_frame, plane_no, LeavesBy}
use Rattle.planes.proofs.Whole.{ready}
use Rattle.demands.specs.Demands.{Inputs, with_layout, SameBuild, Differ, with_down, with_up, HalvingDiffers, UpscaleDiffers, Demand3, PacksTo, CallLeaves, leaves, Leaves}
use Rattle.demands.proofs.Alike.{alike_build}
use Rattle.demands.proofs.Demanded.{then_none, refuse_none, reads_met}

-- ---- the calls' contracts
pub from_opt_contract : (κs : Lfts 0) → Contract (from_opt_reads.Post κs) (λ x c e. checked c ≡ check_answer x.0 x.1.0 x.1.1.0)
from_opt_contract κs x c e = both_ways

pub pack_data_contract : (κs : Lfts 0) → Contract (pack_data_reads.Post κs) (λ x c e. packed c ≡ pack_answer x.0)
pack_data_contract κs x c e = both_ways

pub read_word_contract : (κs : Lfts 0) → Contract (read_word_reads.Post κs) (λ x t e. told t ≡ read_answer x.0)
read_word_contract κs x t e = both_ways

pub prepare_alike_contract : (κs : Lfts 0) → Contract (prepare_alike_reads.Post κs) (λ x b e. b ≡ alike x.0 x.1.0)
prepare_alike_contract κs x b e = both_ways

-- ---- from the definitions to the calls
packs_to : (v : ℕ) (r : SuperOpts) → Packs v r ↔ PacksTo v r
packs_to v r = (λ p. let t = (packs_exact v r).0 p in (t.0, sym t.1), λ t. (packs_exact v r).1 (t.0, sym t.1))

-- as much spill and scratch as is needed is enough
lent_needs : (q : Layout) (n sp len spill scratch : ℕ) → lent_no q n sp len spill scratch ≡ 0 → lent_no q n sp len (spill_need q) (scratch_need q) ≡ 0
unfolding lent_no
lent_needs q n sp len spill scratch e =
    let before = refuse (ltb n (source_need q sp)) 10 then refuse (ltb len (written_end q)) 11 in
    let beyond = refuse (ltb spill (spill_need q)) 12 in
    let room = refuse (ltb scratch (scratch_need q)) 13 in
    let enough : (k : ℕ) → ltb k k ≡ false = λ k. le-ltb k k (omega arith) in
    then_none _ _ (then_none _ _ (then_first before beyond (then_first (before then beyond) room e)) (refuse_none _ 12 (enough (spill_need q)))) (refuse_none _ 13 (enough (scratch_need q)))

with_needs : (q : Layout) (n sp len spill scratch : ℕ) → build_no q n sp len spill scratch ≡ 0 → build_no q n sp len (spill_need q) (scratch_need q) ≡ 0
unfolding build_no
with_needs q n sp len spill scratch e =
    let before = layout_no q then refuse (bad_pitch sp (width_at q 0)) 9 in
    let lent = lent_no q n sp len spill scratch in
    then_none before (lent_no q n sp len (spill_need q) (scratch_need q)) (then_first before lent e) (lent_needs q n sp len spill scratch (then_rest before lent e))

-- what a build that was done leaves, with the fused path on or off
pub done_leaves : (fuse : Bool) (r : SuperOpts) (s : List ℕ) (src : List ℕ) (sp : ℕ) (F S X : List ℕ) {k : ℕ} {F' S' X' : List ℕ} → LeavesBy fuse r s src sp F S X k F' S' X' → k ≡ 0 → (build_no (view_of r s) (length src) sp (length F) (spill_need (view_of r s)) (scratch_need (view_of r s)) ≡ 0) × (F' ≡ frame_by fuse (view_of r s) src sp F)
done_leaves fuse r s src sp F S X leaves done =
    let q = view_of r s in
    let n = plane_no r s src sp F S X in
    let none : n ≡ 0 = sym (number_of leaves.0) ∙ done in
    let as-view = build_as_view r s (length src) sp (length F) (length S) (length X) (build_stored r s (length src) sp (length F) (length S) (length X) none) in
    (with_needs q (length src) sp (length F) (length S) (length X) (sym as-view ∙ none), value_done (frame_by fuse q src sp F) F leaves.0 none)

module _ (r : SuperOpts) (g : Inputs) (m : List ℕ) where
  abbrev q : Layout
  q = with_layout r g

  -- the layout that the call is made with has the view that settled it
  viewed : view_of r (stored_of q) ≡ q
  viewed = view_stored q

  leaves_by : CallLeaves r g m → Leaves r g m
  leaves_by f =
      let l = done_leaves true r (stored_of q) g.plane g.src_pitch g.frame f.spill f.scratch f.call refl in
      (ap (λ (x : Layout). build_no x (length g.plane) g.src_pitch (length g.frame) (spill_need x) (scratch_need x)) (sym viewed) ∙ l.0, l.1 ∙ ap (λ (x : Layout). built_frame x g.plane g.src_pitch g.frame) viewed)

  finished_by : Leaves r g m → CallLeaves r g m
  finished_by l =
      let spill = replicate {A = ℕ} (spill_need q) 0 in
      let scratch = replicate {A = ℕ} (scratch_need q) 0 in
      let n = plane_no r (stored_of q) g.plane g.src_pitch g.frame spill scratch in
      let layout = (ready q (length g.plane) g.src_pitch (length g.frame) (spill_need q) (scratch_need q) l.0).layout in
      let as-view = build_as_view r (stored_of q) (length g.plane) g.src_pitch (length g.frame) (length spill) (length scratch) (made_passes q layout) in
      let none : n ≡ 0 = as-view ∙ rw (viewed, length-replicate {A = ℕ} (spill_need q) 0, length-replicate {A = ℕ} (scratch_need q) 0) l.0 in
      record {
        spill = spill;
        scratch = scratch;
        spill' = replicate (length spill) 0;
        scratch' = replicate (length scratch) 0;
        call = (ap (answer 0) (l.1 ∙ ap (λ (x : Layout). built_frame x g.plane g.src_pitch g.frame) (sym viewed)) ∙ given n (built_frame (view_of r (stored_of q)) g.plane g.src_pitch g.frame) g.frame none, given n (replicate (length spill) 0) spill none, given n (replicate (length scratch) 0) scratch none);
      }

-- from one account of the records behind a word, and of what builds leave, to another
same_by : {L M : SuperOpts → Inputs → List ℕ → Type 0} → ((r : SuperOpts) (g : Inputs) (m : List ℕ) → L r g m → M r g m) → ((r : SuperOpts) (g : Inputs) (m : List ℕ) → M r g m → L r g m) → (r s : SuperOpts) → SameBuild M r s → SameBuild L r s
same_by to from r s h g m x y p = from s g m (h g m x y (to r g m p))

module _ {B C : SuperOpts → Type 0} {L M : SuperOpts → Inputs → List ℕ → Type 0} (b : (r : SuperOpts) → B r → C r) (l : (r : SuperOpts) (g : Inputs) (m : List ℕ) → L r g m → M r g m) where
  differ_by : (r s : SuperOpts) → Differ L r s → Differ M r s
  differ_by r s d =
      record {
        at = d.at;
        is_bytes = d.is_bytes;
        zeros = d.zeros;
        one = d.one;
        other = d.other;
        first = l r d.at d.one d.first;
        second = l s d.at d.other d.second;
        unequal = d.unequal;
      }

  halving_by : HalvingDiffers B L → HalvingDiffers C M
  halving_by t = let s = with_down t.0 t.1 in (t.0, t.1, b t.0 t.2, b s t.3, differ_by t.0 s t.4)

  upscale_by : UpscaleDiffers B L → UpscaleDiffers C M
  upscale_by t = let s = with_up t.0 t.1 in (t.0, t.1, b t.0 t.2, b s t.3, differ_by t.0 s t.4)

by_calls : (v : ℕ) → Demand3 (PacksTo v) CallLeaves (read_answer v)
by_calls v =
    let d = reads_met v in
    let to : (r : SuperOpts) → Packs v r → PacksTo v r = λ r. (packs_to v r).0 in
    let from : (r : SuperOpts) → PacksTo v r → Packs v r = λ r. (packs_to v r).1 in
    record {
      one = (
        λ e. let t = d.one.0 e in ((t.0.0, to t.0.0 t.0.1), λ r s p q. same_by leaves_by finished_by r s (t.1 r s (from r p) (from s q))),
        λ t. d.one.1 ((t.0.0, from t.0.0 t.0.1), λ r s p q. same_by finished_by leaves_by r s (t.1 r s (to r p) (to s q))),
      );
      described = λ e r p. d.described e r (from r p);
      none = (λ e r p. d.none.0 e r (from r p), λ h. d.none.1 (λ r p. h r (to r p)));
      halving = (λ e. halving_by to finished_by (d.halving.0 e), λ t. d.halving.1 (halving_by from leaves_by t));
      upscale = (
        λ e. let t = d.upscale.0 e in (upscale_by to finished_by t.0, λ h. t.1 (halving_by from leaves_by h)),
        λ t. d.upscale.1 (upscale_by from leaves_by t.0, λ h. t.1 (halving_by to finished_by h)),
      );
      only = d.only;
    }

-- ---- demand 3: x.0 is the word that is read, t the answer
pub demand_3 : (κs : Lfts 0) → Promises (read_word_reads.Post κs) (λ x t e. Demand3 (PacksTo x.0) CallLeaves (told t))
demand_3 κs x t e p = subst (Demand3 (PacksTo x.0) CallLeaves) (sym ((read_word_contract κs x t e).0 p)) (by_calls x.0)

-- ---- comparing: x.0 and x.1.0 are the words that are compared, b the answer
pub alike_words : (κs : Lfts 0) → Promises (prepare_alike_reads.Post κs) (λ x b e. b ≡ true → (r s : SuperOpts) → PacksTo x.0 r → PacksTo x.1.0 s → SameBuild CallLeaves r s)
alike_words κs x b e p is r s behind-r behind-s =
    same_by leaves_by finished_by r s (alike_build x.0 x.1.0 (sym ((prepare_alike_contract κs x b e).0 p) ∙ is) r s ((packs_to x.0 r).1 behind-r) ((packs_to x.1.0 s).1 behind-s))
