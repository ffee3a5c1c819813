-- Settings that don't matter leave no trace: records alike but for them build alike, so that a word that reading takes for one build names one; and the records behind a word have one stored layout for each pair of shifts and pitch. Assumes nothing.
use mathlib.Core.Path.{◌≡◌, refl, sym, ap, ◌∙◌}
use mathlib.Core.Logic.{⊎_elim}
use mathlib.Core.Bool.{Bool, true, false, cond, not, ◌&&◌, ◌||◌}
use mathlib.Core.List.{List, ◌++◌}
use Prim.Native.Nat.{ℕ, zero, suc, ◌+◌, ◌-◌, ◌/◌, ◌≤◌}
use native.Mathlib.Omega.{arith}
use lib.Dec.{eqb, leb}
use lib.IntN.{ℤ, pos}
use lib.ListN.{length, take, replicate}
use borrow.Author.Tests.{leb-false, not-false}
use Rattle.settings.specs.declared.super_opts.SuperOpts.{SuperOpts}
use Rattle.settings.specs.Numbers.{is_nat, is_i32, total}
use Rattle.settings.specs.Check.{accepted, pel_of, level_count}
use Rattle.settings.specs.Reading.{candidate, read_no, down_matters, up_matters, Packs}
use Rattle.settings.proofs.Tests.{and_off, or_yes, or_right}
use Rattle.settings.proofs.Accepted.{fine, is_nat_pos}
use Rattle.settings.proofs.Words.{Agree, same_word}
use Rattle.settings.proofs.Told.{filtered_packs, four_or_not, canon_accepted, canon_four, packs_canon, code_packs, read_case, at_0, halving as halvingOpen, upscale as upscaleOpen}
use Rattle.filters.specs.declared.halving.ReduceFilter.{ReduceFilter}
use Rattle.std.specs.declared.option.Option.{Option}
use Rattle.std.specs.declared.option.Option.TheVariants.{Some, None}
use Rattle.filters.specs.Halve.{chosen}
use Rattle.filters.specs.Refine.{upscale}
use Rattle.filters.proofs.Tables.{tab_ext}
use Rattle.layouts.specs.declared.layout.Layout.{Layout}
use Rattle.layouts.specs.Storing.{steps}
use Rattle.layouts.specs.Layout.{levels_of, stored_at, offset_at, spill_need, scratch_need}
use Rattle.layouts.specs.Margins.{fused_at}
use Rattle.layouts.specs.Refusals.{layout_no, lent_no, build_no}
use Rattle.stored.specs.Layout.{number_at, most_numbers, stored_of}
use Rattle.builder.specs.Refining.{refine}
use Rattle.builder.proofs.Stages.{turns}
use Rattle.planes.specs.Build.{planes_of, copied, level_by, halved_by, built_by, frame_by, halve_level, halved, refines, refined, built}
use Rattle.demands.specs.Demands.{Inputs, with_layout, SameBuild, with_down, with_up, Builds, leaves, Leaves}

steps_none : (step : ℕ → List ℕ → List ℕ) (n : ℕ) (c : List ℕ) → n ≡ 0 → steps step n c ≡ c
unfolding steps
steps_none step n c e = rw e

halved_none : (q : Layout) (src : List ℕ) (sp len : ℕ) (ch : Option ReduceFilter) (c : List ℕ) → levels_of q ≤ 1 → halved q src sp len ch c ≡ c
unfolding halved_by
halved_none q src sp len (Some f) c le = steps_none (λ i. halve_level q src sp len f (i + 1)) (levels_of q - 1) c (omega arith)
halved_none q src sp len None c le = refl

-- down, with one level at most
pub built_down : (r : SuperOpts) (d : ℤ) (g : Inputs) (len : ℕ) (c : List ℕ) → level_count r ≤ 1 → built (with_layout (with_down r d) g) g.plane g.src_pitch len c ≡ built (with_layout r g) g.plane g.src_pitch len c
unfolding built_by copied refined
built_down r d g len c le =
    let first = cond r.full (copied (with_layout r g) g.plane g.src_pitch c) c in
    rw (halved_none (with_layout (with_down r d) g) g.plane g.src_pitch len (chosen d) first le, halved_none (with_layout r g) g.plane g.src_pitch len (chosen r.scale_down) first le)

pick_go : (n : ℕ) (t : Bool) (c a b l : List ℕ) → (t && leb 1 n) ≡ false → cond (eqb n 0) c (cond t a l) ≡ cond (eqb n 0) c (cond t b l)
pick_go zero t c a b l e = refl
pick_go (suc n) true c a b l e = absurd (omega (arith, leb-false 1 (suc n) e))
pick_go (suc n) false c a b l e = refl

-- ---- where levels lie doesn't depend on the filters, rc and lean
abbrev pub changed : SuperOpts → ℤ → ℤ → Bool → Bool → SuperOpts
changed r d u rc lean =
    record {
      pel = r.pel;
      gpu = r.gpu;
      scale_down = d;
      scale_up = u;
      full = r.full;
      rc = rc;
      lean = lean;
      levels = r.levels;
      width = r.width;
      height = r.height;
    }

module _ (r : SuperOpts) (d u : ℤ) (rc lean : Bool) (g : Inputs) where
  abbrev other : Layout
  other = with_layout (changed r d u rc lean) g

  stored_same : (l : ℕ) → stored_at other l ≡ stored_at (with_layout r g) l
  stored_same zero = refl
  stored_same (suc l) = refl

  pub offset_same : (l : ℕ) → offset_at other l ≡ offset_at (with_layout r g) l
  unfolding offset_at total
  offset_same zero = refl
  offset_same (suc l) = rw (offset_same l, stored_same l)

steps_same : (f g : ℕ → List ℕ → List ℕ) (n : ℕ) (c : List ℕ) → ((i : ℕ) (d : List ℕ) → f i d ≡ g i d) → steps f n c ≡ steps g n c
steps_same f g n c same = (turns {R = λ d e. d ≡ e} f g n (λ i lt. record { each = λ d e is. same i d ∙ ap (g i) is })).each c c refl

-- nor does halving on up, rc and lean
module _ (r : SuperOpts) (u : ℤ) (rc lean : Bool) (g : Inputs) (len : ℕ) where
  abbrev still : SuperOpts
  still = changed r r.scale_down u rc lean

  level_same : (f : ReduceFilter) (l : ℕ) (c : List ℕ) → halve_level (with_layout still g) g.plane g.src_pitch len f l c ≡ halve_level (with_layout r g) g.plane g.src_pitch len f l c
  unfolding level_by fused_at
  level_same f l c = let at = offset_same r r.scale_down u rc lean g in rw (at l, at (l - 1))

  halved_same : (ch : Option ReduceFilter) (c : List ℕ) → halved (with_layout still g) g.plane g.src_pitch len ch c ≡ halved (with_layout r g) g.plane g.src_pitch len ch c
  unfolding halved_by
  halved_same (Some f) c =
      steps_same (λ i. halve_level (with_layout still g) g.plane g.src_pitch len f (i + 1)) (λ i. halve_level (with_layout r g) g.plane g.src_pitch len f (i + 1)) (level_count r - 1) c
      (λ i e. level_same f (i + 1) e)
  halved_same None c = refl

-- up, where it doesn't matter
pub built_up : (r : SuperOpts) (u : ℤ) (g : Inputs) (len : ℕ) (c : List ℕ) → up_matters r ≡ false → built (with_layout (with_up r u) g) g.plane g.src_pitch len c ≡ built (with_layout r g) g.plane g.src_pitch len c
unfolding built_by copied refined
built_up r u g len c e =
    let first = cond r.full (copied (with_layout r g) g.plane g.src_pitch c) c in
    let later = halved (with_layout r g) g.plane g.src_pitch len (chosen r.scale_down) first in
    let made : ℤ → List ℕ = λ x. refine (planes_of (with_layout r g)) (pel_of r) (upscale x) later in
    rw (halved_same r u r.rc r.lean g len (chosen r.scale_down) first)
    (pick_go (level_count r) (refines (with_layout r g)) c (made u) (made r.scale_up) later e)

-- rc and lean
pub leaves_marks : (r : SuperOpts) (rc lean : Bool) (g : Inputs) → leaves (changed r r.scale_down r.scale_up rc lean) g ≡ leaves r g
unfolding frame_by built_by copied refined
leaves_marks r rc lean g =
    let len = length g.frame in
    let c = g.frame ++ replicate (spill_need (with_layout r g)) 0 in
    let first = cond r.full (copied (with_layout r g) g.plane g.src_pitch c) c in
    rw (halved_same r r.scale_up rc lean g len (chosen r.scale_down) first)

-- ---- what a word leaves open of a record that packs to it
pub told_down : (v : ℕ) (r : SuperOpts) → Packs v r → halvingOpen (candidate v) ≡ halvingOpen r
told_down v r p = ap (λ (q : SuperOpts). down_matters q && not (is_nat (candidate v).scale_down 4)) (packs_canon v r p) ∙ ap (λ (t : Bool). down_matters r && not t) (canon_four v r p)

pub told_up : (v : ℕ) (r : SuperOpts) → Packs v r → upscaleOpen (candidate v) ≡ upscaleOpen r
told_up v r p = ap upscaleOpen (packs_canon v r p)

-- ---- where the word doesn't leave a filter open, records alike but for it leave the same
module _ (v : ℕ) (r : SuperOpts) (p : Packs v r) (g : Inputs) where
  pub down_same : (d : ℤ) → is_nat d 4 ≡ is_nat r.scale_down 4 → halvingOpen (candidate v) ≡ false → leaves (with_down r d) g ≡ leaves r g
  unfolding frame_by
  down_same d both e =
      ⊎_elim
      (λ (m : down_matters r ≡ false). ap (take (length g.frame)) (built_down r d g (length g.frame) _ (omega (arith, leb-false 2 (level_count r) m))))
      (λ (m : not (is_nat r.scale_down 4) ≡ false).
      let four = not-false (is_nat r.scale_down 4) m in
      ap (λ (z : ℤ). leaves (with_down r z) g) (is_nat_pos d 4 (both ∙ four) ∙ sym (is_nat_pos r.scale_down 4 four)))
      (and_off (down_matters r) (not (is_nat r.scale_down 4)) (sym (told_down v r p) ∙ e))

  pub up_same : (u : ℤ) → (is_nat r.gpu 0 || is_nat u 0) ≡ true → upscaleOpen (candidate v) ≡ false → leaves (with_up r u) g ≡ leaves r g
  unfolding frame_by
  up_same u ok e =
      ⊎_elim
      (λ (m : up_matters r ≡ false). ap (take (length g.frame)) (built_up r u g (length g.frame) _ m))
      (λ (m : is_nat r.gpu 0 ≡ false).
      ap (λ (z : ℤ). leaves (with_up r z) g)
      (is_nat_pos u 0 (or_right (is_nat r.gpu 0) (is_nat u 0) m ok) ∙ sym (is_nat_pos r.scale_up 0 (or_right (is_nat r.gpu 0) (is_nat r.scale_up 0) m (fine r p.good).up))))
      (and_off (up_matters r) (is_nat r.gpu 0) (sym (told_up v r p) ∙ e))

-- ---- the record that a word spells leaves what each record behind it leaves, where no filter is open
abbrev four_or : SuperOpts → ℤ
four_or r = cond (is_nat r.scale_down 4) (pos 4) (pos 0)

pub leaves_canon : (v : ℕ) → read_no v ≡ 0 → (r : SuperOpts) → Packs v r → (g : Inputs) → leaves (candidate v) g ≡ leaves r g
leaves_canon v e r p g =
    let known = at_0 (read_case v) e in
    let same = four_or_not (is_nat r.scale_down 4) in
    let ok = (fine r p.good).up in
    let q = filtered_packs v r (four_or r) r.scale_up p (four_fits (is_nat r.scale_down 4)) p.up_fits same ok in
    ap (λ (x : SuperOpts). leaves x g) (packs_canon v r p)
    ∙ up_same v (with_down r (four_or r)) q g (pos 0) (or_yes (is_nat r.gpu 0)) known.2
    ∙ down_same v r p g (four_or r) same known.1
  where
    four_fits : (t : Bool) → is_i32 (cond t (pos 4) (pos 0)) ≡ true
    four_fits true = refl
    four_fits false = refl

-- ---- what packs to one word builds, or none does: an accepted record's number doesn't depend on its filters, rc and lean
abbrev pub build_number : SuperOpts → Inputs → ℕ
build_number r g = let q = with_layout r g in build_no q (length g.plane) g.src_pitch (length g.frame) (spill_need q) (scratch_need q)

pub number_same : (r : SuperOpts) (d u : ℤ) (rc lean : Bool) (g : Inputs) → accepted r ≡ true → accepted (changed r d u rc lean) ≡ true → build_number (changed r d u rc lean) g ≡ build_number r g
unfolding build_no layout_no lent_no
number_same r d u rc lean g good good' = rw (good, good', offset_same r d u rc lean g (level_count r))

pub builds_canon : (v : ℕ) (r : SuperOpts) → Packs v r → (g : Inputs) → build_number (candidate v) g ≡ build_number r g
builds_canon v r p g = ap (λ (x : SuperOpts). build_number x g) (packs_canon v r p) ∙ number_same r (four_or r) (pos 0) r.rc r.lean g p.good (canon_accepted r p.good)

builds_both : (v : ℕ) (r s : SuperOpts) → Packs v r → Packs v s → (g : Inputs) → Builds r g → Builds s g
builds_both v r s p q g e = sym (builds_canon v s q g) ∙ builds_canon v r p g ∙ e

-- ---- a word that names one build
pub same_build : (v : ℕ) → read_no v ≡ 0 → (r s : SuperOpts) → Packs v r → Packs v s → SameBuild Leaves r s
same_build v e r s p q g m bs bf h = (builds_both v r s p q g h.0, h.1 ∙ sym (leaves_canon v e r p g) ∙ leaves_canon v e s q g)

-- "names one build exactly if ..", one way
pub one_there : (v : ℕ) → read_no v ≡ 0 → ((r : SuperOpts) × Packs v r) × ((r s : SuperOpts) → Packs v r → Packs v s → SameBuild Leaves r s)
one_there v e = ((candidate v, code_packs v (at_0 (read_case v) e).0), same_build v e)

-- ---- "given the same .. layout": where shifts and pitch are the same, so are the layouts that are handed in
module _ (r : SuperOpts) (d u : ℤ) (rc lean : Bool) (g : Inputs) where
  place_same : (k : ℕ) → number_at (with_layout (changed r d u rc lean) g) k ≡ number_at (with_layout r g) k
  place_same zero = refl
  place_same (suc zero) = refl
  place_same (suc (suc zero)) = refl
  place_same (suc (suc (suc zero))) = refl
  place_same (suc (suc (suc (suc k)))) = rw (offset_same r d u rc lean g (k / 3))

  pub layout_same : stored_of (with_layout (changed r d u rc lean) g) ≡ stored_of (with_layout r g)
  unfolding stored_of
  layout_same = tab_ext (number_at (with_layout (changed r d u rc lean) g)) (number_at (with_layout r g)) most_numbers (λ k lt. place_same k)

agreed : (r s : SuperOpts) → Agree r s → changed r s.scale_down s.scale_up s.rc s.lean ≡ s
agreed r s a = rw (a.pel, a.gpu, a.full, a.levels, a.width, a.height) refl

pub one_layout : (v : ℕ) (r s : SuperOpts) → Packs v r → Packs v s → (g : Inputs) → stored_of (with_layout r g) ≡ stored_of (with_layout s g)
one_layout v r s p q g =
    let a = same_word r s p.good q.good (p.word ∙ sym q.word) in
    sym (layout_same r s.scale_down s.scale_up s.rc s.lean g) ∙ ap (λ (t : SuperOpts). stored_of (with_layout t g)) (agreed r s a)
