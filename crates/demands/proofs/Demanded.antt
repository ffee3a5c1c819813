-- Demand 3 over the definitions, byte for byte (`Demand3` of specs/Demands.antt). First that the plane of proofs/Witness.antt is built, and that records with the word of an open filter differ on it; then from reading's tests to the demand; last `reads_met`. proofs/Demand.antt carries it to the calls. Assumes nothing.
use mathlib.Core.Path.{◌≡◌, refl, sym, ap, ◌∙◌}
use mathlib.Core.List.{List}
use mathlib.Core.Bool.{Bool, true, false, cond, not, ◌&&◌, ◌||◌}
use mathlib.Core.Logic.{◌↔◌, ◌⊎◌, inl, inr, ⊎_elim}
use Prim.Native.Nat.{ℕ, zero, suc, ◌+◌, ◌*◌, ◌-◌, ◌≤◌}
use native.Mathlib.Nat.{mul_comm}
use native.Mathlib.Omega.{arith}
use lib.Dec.{eqb, leb, ltb}
use lib.IntN.{ℤ, pos}
use lib.ListN.{length, get_or, replicate, length-replicate}
use borrow.Author.Tests.{le-ltb, leb-true, not-true}
use Rattle.settings.specs.declared.super_opts.SuperOpts.{SuperOpts}
use Rattle.settings.specs.Numbers.{is_nat, to_nat, refuse, ◌then◌}
use Rattle.settings.specs.Sizes.{reduced}
use Rattle.settings.specs.Check.{accepted, pel_of, luma_w, luma_h, level_count}
use Rattle.settings.specs.Reading.{candidate, is_code, read_no, down_matters, up_matters, Packs}
use Rattle.settings.specs.Answers.{read_answer}
use Rattle.settings.proofs.Tests.{and_left, and_right, clash, false_by, true_by}
use Rattle.settings.proofs.Accepted.{fine, within, record_none}
use Rattle.settings.proofs.Told.{filtered, filtered_packs, halving as halvingOpen, upscale as upscaleOpen, number_by, read_by, read_case, at_21, at_22, canon_four, packs_code, code_packs, none_exact, tells_exact, only_exact}
use Rattle.longhands.specs.LittleEndian.{bytes}
use Rattle.filters.specs.declared.halving.ReduceFilter.TheVariants.{Average}
use Rattle.std.specs.declared.option.Option.TheVariants.{Some, None}
use Rattle.filters.specs.declared.half_pel.HalfPel.TheVariants.{CatmullRom}
use Rattle.filters.specs.declared.half_pel.Upscale.TheVariants.{Means, Kernel}
use Rattle.filters.specs.Halve.{chosen}
use Rattle.filters.specs.Refine.{upscale}
use Rattle.layouts.specs.Layout.{width_at, height_at, offset_at, written_end, spill_need, scratch_need}
use Rattle.layouts.specs.Refusals.{least_pitch, layout_no, source_need, lent_no, build_no}
use Rattle.layouts.proofs.Layouts.{pitch_fine}
use Rattle.layouts.proofs.Loops.{row_in}
use Rattle.layouts.proofs.Stored.{pel_more}
use Rattle.builder.specs.Refining.{plane_at}
use Rattle.planes.specs.Build.{planes_of}
use Rattle.demands.specs.Demands.{SameBuild, Differ, with_down, with_up, HalvingDiffers, UpscaleDiffers, Demand3, Builds, leaves, Leaves}
use Rattle.demands.proofs.Same.{offset_same, down_same, up_same, one_there}
use Rattle.demands.proofs.Witness.{Placed, sizes, luma, flat, w_is, h_is, unwritten, written, last_means, last_kernel}

-- ---- the plane is built
pub then_none : (m n : ℕ) → m ≡ 0 → n ≡ 0 → (m then n) ≡ 0
then_none m n em en = ap (λ (k : ℕ). k then n) em ∙ en

pub refuse_none : (t : Bool) (k : ℕ) → t ≡ false → refuse t k ≡ 0
refuse_none t k e = ap (λ (b : Bool). refuse b k) e

either_le : (b : Bool) (m n k : ℕ) → m ≤ k → n ≤ k → cond b m n ≤ k
either_le true m n k p q = p
either_le false m n k p q = q

module _ (x : SuperOpts) (good : accepted x ≡ true) (lv : 1 ≤ level_count x) (end : ℕ) (ends : written_end (luma x) ≤ end) where
  width_one : width_at (luma x) 1 ≤ luma_w x
  unfolding reduced
  width_one = omega arith

  pub builds_flat : Builds x (flat x end)
  unfolding build_no layout_no lent_no
  builds_flat =
      let q = luma x in
      let W = luma_w x in
      let H = luma_h x in
      let w = width_at q 0 in
      let h = height_at q 0 in
      let s = sizes x good lv in
      let side = (within x good).width in
      let ew = w_is x good lv end ends in
      let eh = h_is x good lv end ends in
      let n = length (replicate {A = ℕ} (W * H) 255) in
      let least = either_le x.full w (width_at q 1) W (omega (arith, ew)) width_one in
      let source : source_need q W ≤ n =
      either_le (eqb w 0 || eqb h 0) 0 ((h - 1) * W + w) n (omega arith)
      (omega (arith, row_in (h - 1) H W (omega (arith, eh, s.1)), mul_comm W H, length-replicate {A = ℕ} (W * H) 255, ew)) in
      then_none _ _
      (then_none _ _
      (then_none _ _ (then_none _ _ (record_none x good) refl) (refuse_none _ 8 (pitch_fine (W + 16) (least_pitch q) (omega arith) (omega (arith, least)) (omega (arith, side)))))
      (refuse_none _ 9 (pitch_fine W w (omega (arith, s.0)) (omega (arith, ew)) (omega (arith, side)))))
      (then_none _ _
      (then_none _ _
      (then_none _ _ (refuse_none _ 10 (le-ltb n (source_need q W) source)) (refuse_none _ 11 (le-ltb (length (replicate {A = ℕ} end 0)) (written_end q) (omega (arith, length-replicate {A = ℕ} end 0, ends)))))
      (refuse_none _ 12 (le-ltb (spill_need q) (spill_need q) (omega arith))))
      (refuse_none _ 13 (le-ltb (scratch_need q) (scratch_need q) (omega arith))))

-- ---- two records that differ on it
bytes_rep : (n b : ℕ) → ltb b 256 ≡ true → bytes (replicate n b) ≡ true
bytes_rep zero b e = refl
bytes_rep (suc n) b e = rw (e, bytes_rep n b e)

zeros_bytes : (l : List ℕ) → l ≡ replicate (length l) 0 → bytes l ≡ true
zeros_bytes l e = ap bytes e ∙ bytes_rep (length l) 0 refl

different : (m n : List ℕ) (i j a b : ℕ) → i ≡ j → get_or m i 0 ≡ a → get_or n j 0 ≡ b → (a ≡ b → ⊥) → m ≡ n → ⊥
different m n i j a b ij ea eb ne e = ne (sym ea ∙ ap (λ (l : List ℕ). get_or l i 0) e ∙ ap (λ (k : ℕ). get_or n k 0) ij ∙ eb)

chosen_0 : chosen (pos 0) ≡ Some Average
unfolding chosen
chosen_0 = refl

chosen_5 : chosen (pos 5) ≡ None
unfolding chosen
chosen_5 = refl

upscale_0 : upscale (pos 0) ≡ Means
unfolding upscale
upscale_0 = refl

upscale_1 : upscale (pos 1) ≡ Kernel CatmullRom
unfolding upscale
upscale_1 = refl

placed_at : (pel : ℕ) → (pel ≡ 2) ⊎ (pel ≡ 4) → Placed pel (cond (eqb pel 2) 1 2)
placed_at pel e =
    ⊎_elim
    (λ (z : pel ≡ 2). inl (z, ap (λ (y : ℕ). cond (eqb y 2) 1 2) z))
    (λ (z : pel ≡ 4). inr (z, ap (λ (y : ℕ). cond (eqb y 2) 1 2) z))
    e

module _ (v : ℕ) (r : SuperOpts) (p : Packs v r) where
  abbrev end : ℕ
  end = written_end (luma r)

  at_level : (d u : ℤ) (l : ℕ) → offset_at (luma (filtered r d u)) l ≡ offset_at (luma r) l
  at_level d u l = offset_same r d u r.rc r.lean (flat r 0) l

  ends_at : (d u : ℤ) → written_end (luma (filtered r d u)) ≤ end
  ends_at d u = omega (arith, at_level d u (level_count r))

  differ_on : (s t : SuperOpts) → Builds s (flat r end) → Builds t (flat r end) → (leaves s (flat r end) ≡ leaves t (flat r end) → ⊥) → Differ Leaves s t
  differ_on s t bs bt ne =
      record {
        at = flat r end;
        is_bytes = bytes_rep (luma_w r * luma_h r) 255 refl;
        zeros = ap (λ (k : ℕ). replicate k 0) (sym (length-replicate {A = ℕ} end 0));
        one = leaves s (flat r end);
        other = leaves t (flat r end);
        first = (bs, refl);
        second = (bt, refl);
        unequal = ne;
      }

  -- down 0 and down 5
  halving_there : halvingOpen r ≡ true → HalvingDiffers (Packs v) Leaves
  halving_there e =
      let u = r.scale_up in
      let ok = (fine r p.good).up in
      let other = not-true (is_nat r.scale_down 4) (and_right (down_matters r) (not (is_nat r.scale_down 4)) e) in
      let two = leb-true 2 (level_count r) (and_left (down_matters r) (not (is_nat r.scale_down 4)) e) in
      let lv : 1 ≤ level_count r = omega arith in
      let p0 = filtered_packs v r (pos 0) u p refl p.up_fits (sym other) ok in
      let p5 = filtered_packs v r (pos 5) u p refl p.up_fits (sym other) ok in
      let Z = with_down r (pos 0) in
      let Y = with_down r (pos 5) in
      let eZ = ends_at (pos 0) u in
      let eY = ends_at (pos 5) u in (
        Z,
        pos 5,
        p0,
        p5,
        differ_on Z Y (builds_flat Z p0.good lv end eZ) (builds_flat Y p5.good lv end eY)
            (different (leaves Z (flat r end)) (leaves Y (flat r end)) (offset_at (luma Z) 1) (offset_at (luma Y) 1) 255 0 (at_level (pos 0) u 1 ∙ sym (at_level (pos 5) u 1))
            (written Z p0.good lv end eZ two chosen_0 refl) (unwritten Y p5.good lv end eY two chosen_5) (λ z. omega arith)),
      )

  -- up 0 and up 1
  upscale_there : upscaleOpen r ≡ true → UpscaleDiffers (Packs v) Leaves
  upscale_there e =
      let d = r.scale_down in
      let zero' = and_right (up_matters r) (is_nat r.gpu 0) e in
      let matters = and_left (up_matters r) (is_nat r.gpu 0) e in
      let gate = ltb 1 (pel_of r) && ltb (to_nat r.gpu) 2 in
      let on = and_left (gate && r.full) (leb 1 (level_count r)) matters in
      let lv = leb-true 1 (level_count r) (and_right (gate && r.full) (leb 1 (level_count r)) matters) in
      let more = and_left (ltb 1 (pel_of r)) (ltb (to_nat r.gpu) 2) (and_left gate r.full on) in
      let a : ℕ = cond (eqb (pel_of r) 2) 1 2 in
      let at = placed_at (pel_of r) (pel_more (luma r) p.good more) in
      let ok : (u : ℤ) → (is_nat r.gpu 0 || is_nat u 0) ≡ true = λ u. rw zero' in
      let p0 = filtered_packs v r d (pos 0) p p.down_fits refl refl (ok (pos 0)) in
      let p1 = filtered_packs v r d (pos 1) p p.down_fits refl refl (ok (pos 1)) in
      let Z = with_up r (pos 0) in
      let Y = with_up r (pos 1) in
      let eZ = ends_at d (pos 0) in
      let eY = ends_at d (pos 1) in
      let i = plane_at (planes_of (luma r)) a + (width_at (luma r) 0 - 1) in (
        Z,
        pos 1,
        p0,
        p1,
        differ_on Z Y (builds_flat Z p0.good lv end eZ) (builds_flat Y p1.good lv end eY)
            (different (leaves Z (flat r end)) (leaves Y (flat r end)) i i 128 255 refl (last_means Z p0.good lv end eZ on a at upscale_0) (last_kernel Y p1.good lv end eY on a at CatmullRom upscale_1) (λ z. omega arith)),
      )

-- ---- from reading's tests to the demand
open_halving : (v : ℕ) → HalvingDiffers (Packs v) Leaves → halvingOpen (candidate v) ≡ true
open_halving v t =
    let r = t.0 in
    let d = t.1 in
    let both = sym (canon_four v (with_down r d) t.3) ∙ canon_four v r t.2 in
    true_by (halvingOpen (candidate v)) (λ e. t.4.unequal (t.4.first.1 ∙ sym (down_same v r t.2 t.4.at d both e) ∙ sym t.4.second.1))

open_upscale : (v : ℕ) → UpscaleDiffers (Packs v) Leaves → upscaleOpen (candidate v) ≡ true
open_upscale v t =
    let r = t.0 in
    let u = t.1 in
    true_by (upscaleOpen (candidate v)) (λ e. t.4.unequal (t.4.first.1 ∙ sym (up_same v r t.2 t.4.at u (fine (with_up r u) t.3.good).up e) ∙ sym t.4.second.1))

number_is : (v : ℕ) (c a b : Bool) → is_code (candidate v) v ≡ c → halvingOpen (candidate v) ≡ a → upscaleOpen (candidate v) ≡ b → read_no v ≡ number_by c a b
number_is v c a b ec ea eb = read_by v ∙ cc

halving_open : (v : ℕ) → is_code (candidate v) v ≡ true → halvingOpen (candidate v) ≡ true → HalvingDiffers (Packs v) Leaves
halving_open v c a = halving_there v (candidate v) (code_packs v c) a

upscale_open : (v : ℕ) → is_code (candidate v) v ≡ true → upscaleOpen (candidate v) ≡ true → UpscaleDiffers (Packs v) Leaves
upscale_open v c b = upscale_there v (candidate v) (code_packs v c) b

halving_met : (v : ℕ) → (read_no v ≡ 21) ↔ HalvingDiffers (Packs v) Leaves
halving_met v = (
  λ e. let k = at_21 (read_case v) e in halving_open v k.0 k.1,
  λ t. number_is v true true (upscaleOpen (candidate v)) (packs_code v t.0 t.2) (open_halving v t) refl,
)

upscale_met : (v : ℕ) → (read_no v ≡ 22) ↔ (UpscaleDiffers (Packs v) Leaves × (HalvingDiffers (Packs v) Leaves → ⊥))
upscale_met v = (
  λ e. let k = at_22 (read_case v) e in (upscale_open v k.0 k.2, λ t. clash (halvingOpen (candidate v)) (open_halving v t) k.1),
  λ t.
      let code = packs_code v t.0.0 t.0.2 in
      number_is v true false true code (false_by (halvingOpen (candidate v)) (λ e. t.1 (halving_open v code e))) (open_upscale v t.0),
)

-- records that differ aren't one build
not_same : (r s : SuperOpts) → Differ Leaves r s → SameBuild Leaves r s → ⊥
not_same r s d same = d.unequal ((same d.at d.one d.is_bytes (zeros_bytes d.at.frame d.zeros) d.first).1 ∙ sym d.second.1)

one_back : (v : ℕ) → ((r : SuperOpts) × Packs v r) × ((r s : SuperOpts) → Packs v r → Packs v s → SameBuild Leaves r s) → read_no v ≡ 0
one_back v t =
    let code = packs_code v t.0.0 t.0.1 in
    number_is v true false false code
    (false_by (halvingOpen (candidate v)) (λ e. let o = halving_open v code e in not_same o.0 (with_down o.0 o.1) o.4 (t.1 o.0 (with_down o.0 o.1) o.2 o.3)))
    (false_by (upscaleOpen (candidate v)) (λ e. let o = upscale_open v code e in not_same o.0 (with_up o.0 o.1) o.4 (t.1 o.0 (with_up o.0 o.1) o.2 o.3)))

-- ---- demand 3
pub reads_met : (v : ℕ) → Demand3 (Packs v) Leaves (read_answer v)
reads_met v =
    record {
      one = (one_there v, one_back v);
      described = λ e r p. rw e (tells_exact v e r p);
      none = none_exact v;
      halving = halving_met v;
      upscale = upscale_met v;
      only = only_exact v;
    }
