-- Three calls of `build_plane`, each for a plane in its part, in any order of the planes: where the one call isn't refused none of them is, and they leave what it leaves. First one call; then the three; last about `build_frame` itself, and that a refusal changes nothing. Assumes nothing.
use mathlib.Core.Path.{◌≡◌, refl, sym, ap, ◌∙◌}
use mathlib.Core.Bool.{false}
use mathlib.Core.List.{List, ◌++◌}
use Prim.Native.Nat.{ℕ, zero, suc, ◌≤◌}
use native.Mathlib.Omega.{arith}
use borrow.Author.Tests.{le-ltb}
use contract.Lifetimes.{Lfts}
use lib.ListN.{length, take, drop, replicate, length-replicate}
use Rattle.settings.specs.declared.super_opts.SuperOpts.{SuperOpts}
use Rattle.settings.specs.Answers.{answer, if_done, tested}
use Rattle.settings.proofs.Known.{given, number_of, value_done, value_refused}
use Rattle.settings.proofs.Outcome.{Contract, both_ways, Promises}
use Rattle.layouts.specs.declared.layout.Layout.{Layout}
use Rattle.layouts.specs.Layout.{width_at}
use Rattle.layouts.specs.Refusals.{bad_pitch, layout_no, lent_no, build_no}
use Rattle.layouts.specs.Room.{Ready}
use Rattle.stored.specs.Layout.{view_of, stored_of}
use Rattle.stored.specs.Refusals.{stored_no}
use Rattle.stored.proofs.Places.{view_stored}
use Rattle.stored.proofs.Exact.{made_passes}
use Rattle.lookups.specs.Refusals.{stored_build_no}
use Rattle.lookups.proofs.Numbers.{build_as_view}
use Rattle.planes.specs.Build.{built_frame, plane_no}
use Rattle.frames.specs.Parts.{plane_of, length_of, start_of}
use Rattle.frames.specs.Build.{three, build_frame_no, part_bytes, part_built, FrameLeaves, Lent, PlaneCall, ByCalls}
use Rattle.frames.proofs.Prepared.{Granted, granted}
use Rattle.frames.proofs.Laid.{start_mono}
use Rattle.frames.proofs.Joined.{Cut, cut, cut_long, changed, built_cut, part_long, all_left}
use Rattle.frames.proofs.build.build_frame.Reads as build_frame_reads

-- ---- one call
fine : (q : Layout) {n sp len spill scratch : ℕ} → bad_pitch sp (width_at q 0) ≡ false → Ready q n sp len spill scratch → build_no q n sp len spill scratch ≡ 0
unfolding build_no lent_no
fine q pitch r = rw (r.layout, pitch, le-ltb _ _ r.source, le-ltb _ _ r.end, le-ltb _ _ r.spills, le-ltb _ _ r.room) refl

-- by the layout that making gives, whose view is the plane's
plane_view : (r : SuperOpts) (k : ℕ) → view_of r (stored_of (plane_of r k)) ≡ plane_of r k
plane_view r zero = view_stored (plane_of r zero)
plane_view r (suc k) = view_stored (plane_of r (suc k))

plane_passes : (r : SuperOpts) (k : ℕ) → layout_no (plane_of r k) ≡ 0 → stored_no r (stored_of (plane_of r k)) ≡ 0
plane_passes r zero = made_passes (plane_of r zero)
plane_passes r (suc k) = made_passes (plane_of r (suc k))

fine_stored : (r : SuperOpts) (k n sp len spill scratch : ℕ) → layout_no (plane_of r k) ≡ 0 → stored_build_no r (stored_of (plane_of r k)) n sp len spill scratch ≡ build_no (plane_of r k) n sp len spill scratch
fine_stored r k n sp len spill scratch e = build_as_view r (stored_of (plane_of r k)) n sp len spill scratch (plane_passes r k e) ∙ ap (λ (q : Layout). build_no q n sp len spill scratch) (plane_view r k)

-- what there is between the calls: the frame in these parts, spill and scratch of as many bytes
record Reached (r : SuperOpts) (part : ℕ → List ℕ) (rest : List ℕ) (s x : ℕ) (l : Lent) : Type 0 where
  pub frame : Cut r l.frame part rest
  pub spill : length l.spill ≡ s
  pub scratch : length l.scratch ≡ x

record Went (r : SuperOpts) (part : ℕ → List ℕ) (rest : List ℕ) (s x n : ℕ) (l : Lent) : Type 0 where
  pub number : n ≡ 0
  pub frame : Cut r l.frame part rest
  pub spill : l.spill ≡ replicate s 0
  pub scratch : l.scratch ≡ replicate x 0

again : {r : SuperOpts} {part : ℕ → List ℕ} {rest : List ℕ} {s x n : ℕ} {l : Lent} → Went r part rest s x n l → Reached r part rest s x l
again {s = s} {x = x} w = record { frame = w.frame; spill = ap (λ (z : List ℕ). length z) w.spill ∙ length-replicate s 0; scratch = ap (λ (z : List ℕ). length z) w.scratch ∙ length-replicate x 0 }

module _ (r : SuperOpts) (src : ℕ → List ℕ) (sp : ℕ → ℕ) {len s x : ℕ} (g : Granted r (λ k. length (src k)) sp len s x) where
  goes : (k : ℕ) → k ≤ 2 → {n : ℕ} {part : ℕ → List ℕ} {rest : List ℕ} {b a : Lent} → Reached r part rest s x b → PlaneCall r src sp k n b a → Went r (changed k (built_frame (plane_of r k) (src k) (sp k)) part) rest s x n a
  goes k le {n} {part} {rest} {b} {a} at c =
      let q = plane_of r k in
      let P = part_bytes r k b.frame in
      let long : length P ≡ length_of r k = part_long r k b.frame (omega (arith, start_mono r (suc k) (omega (arith, le)), cut_long at.frame)) in
      let ready : Ready q (length (src k)) (sp k) (length P) (length b.spill) (length b.scratch) = rw (long, at.spill, at.scratch) (g.parts k le) in
      let none : plane_no r (stored_of q) (src k) (sp k) P b.spill b.scratch ≡ 0 = fine_stored r k _ _ _ _ _ ready.layout ∙ fine q (g.pitches k le) ready in
      let whole : a.frame ≡ part_built r k (src k) (sp k) b.frame = c.joined ∙ ap (λ (z : List ℕ). take (start_of r k) b.frame ++ (z ++ drop (start_of r (suc k)) b.frame)) (value_done (built_frame (view_of r (stored_of q)) (src k) (sp k) P) P c.leaves.0 none ∙ ap (λ (v : Layout). built_frame v (src k) (sp k) P) (plane_view r k)) in
      let made = built_cut g src at.frame k le in
      record {
        number = number_of c.leaves.0 ∙ none;
        frame = record { is = whole ∙ made.is; long = made.long };
        spill = value_done (replicate (length b.spill) 0) b.spill c.leaves.1 none ∙ ap (λ (z : ℕ). replicate z 0) at.spill;
        scratch = value_done (replicate (length b.scratch) 0) b.scratch c.leaves.2 none ∙ ap (λ (z : ℕ). replicate z 0) at.scratch;
      }

-- ---- the three
done_answer : {A : Type 0} {n m : ℕ} {a b : A} → n ≡ 0 → m ≡ 0 → a ≡ b → (none : A) → answer n a ≡ if_done m b none
done_answer {a = a} {b = b} e z is none = ap (λ (k : ℕ). answer k a) e ∙ ap (answer 0) is ∙ given _ b none z

module _ (r : SuperOpts) (src : ℕ → List ℕ) (sp : ℕ → ℕ) {a : Lent} where
  -- where the one call isn't refused
  pub any_order : {d : Lent} → build_frame_no r (λ t. length (src t)) sp (length a.frame) (length a.spill) (length a.scratch) ≡ 0 → (c : ByCalls r src sp a d) → (c.numbers 0 ≡ 0) × (c.numbers 1 ≡ 0) × FrameLeaves r src sp a.frame a.spill a.scratch (c.numbers 2) d.frame d.spill d.scratch
  any_order e c =
      let g = granted r (λ t. length (src t)) sp (length a.frame) (length a.spill) (length a.scratch) e in
      let one = goes r src sp g c.i c.order.first (record { frame = cut r a.frame g.end; spill = refl; scratch = refl }) c.first in
      let two = goes r src sp g c.j c.order.second (again one) c.second in
      let all = goes r src sp g c.k c.order.third (again two) c.third in
      let left = all_left r src sp a.frame c.order all.frame in
      (one.number, two.number, (done_answer all.number e left a.frame, done_answer all.number e all.spill a.spill, done_answer all.number e all.scratch a.scratch))

  module _ {n : ℕ} {F S X : List ℕ} (l : FrameLeaves r src sp a.frame a.spill a.scratch n F S X) where
    pub left_by_calls : n ≡ 0 → (d : Lent) → ByCalls r src sp a d → (F ≡ d.frame) × (S ≡ d.spill) × (X ≡ d.scratch)
    left_by_calls done d c =
        let none = sym (number_of l.0) ∙ done in
        let all = (any_order none c).2 in
        (same _ _ l.0 all.0 none, same _ _ l.1 all.1 none, same _ _ l.2 all.2 none)
      where
        same : {k m : ℕ} {x y : List ℕ} (v none : List ℕ) → answer n x ≡ if_done k v none → answer m y ≡ if_done k v none → k ≡ 0 → x ≡ y
        same v none p q e = value_done v none p e ∙ sym (value_done v none q e)

    -- "A refusal in any plane leaves all three untouched", and spill and scratch too
    pub left_as_it_was : (n ≡ 0 → ⊥) → (F ≡ a.frame) × (S ≡ a.spill) × (X ≡ a.scratch)
    left_as_it_was some = (kept _ l.0, kept _ l.1, kept _ l.2)
      where
        kept : {k : ℕ} {x none : List ℕ} (v : List ℕ) → answer n x ≡ if_done k v none → x ≡ none
        kept v p = value_refused v _ p (λ e. some (number_of p ∙ e))

-- ---- about the call: frame, spill, scratch, record, and source and source pitch of Y, U and V
pub build_frame_contract : (κs : Lfts 6) → Contract (build_frame_reads.Post κs) (λ x t e. FrameLeaves x.1.1.1.0 (three x.1.1.1.1.0.now x.1.1.1.1.1.1.0.now x.1.1.1.1.1.1.1.1.0.now) (three x.1.1.1.1.1.0 x.1.1.1.1.1.1.1.0 x.1.1.1.1.1.1.1.1.1.0) x.0.now x.1.0.now x.1.1.0.now (tested t) e.0.now e.1.0.now e.1.1.0.now)
build_frame_contract κs x t e = both_ways

pub frame_by_calls : (κs : Lfts 6) → Promises (build_frame_reads.Post κs) (λ x t e. tested t ≡ 0 → (d : Lent) → ByCalls x.1.1.1.0 (three x.1.1.1.1.0.now x.1.1.1.1.1.1.0.now x.1.1.1.1.1.1.1.1.0.now) (three x.1.1.1.1.1.0 x.1.1.1.1.1.1.1.0 x.1.1.1.1.1.1.1.1.1.0) (record { frame = x.0.now; spill = x.1.0.now; scratch = x.1.1.0.now }) d → (e.0.now ≡ d.frame) × (e.1.0.now ≡ d.spill) × (e.1.1.0.now ≡ d.scratch))
frame_by_calls κs x t e p = left_by_calls _ _ _ ((build_frame_contract κs x t e).0 p)

pub refused_kept : (κs : Lfts 6) → Promises (build_frame_reads.Post κs) (λ x t e. (tested t ≡ 0 → ⊥) → (e.0.now ≡ x.0.now) × (e.1.0.now ≡ x.1.0.now) × (e.1.1.0.now ≡ x.1.1.0.now))
refused_kept κs x t e p = left_as_it_was _ (three x.1.1.1.1.0.now x.1.1.1.1.1.1.0.now x.1.1.1.1.1.1.1.1.0.now) (three x.1.1.1.1.1.0 x.1.1.1.1.1.1.1.0 x.1.1.1.1.1.1.1.1.1.0) ((build_frame_contract κs x t e).0 p)
