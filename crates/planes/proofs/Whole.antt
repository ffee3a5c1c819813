-- A build, whole: what the refusals leave; level 0's rows and planes lie in the frame; the stages one after the other; and what is left. Assumes nothing.
use Rattle.std.specs.Prelude.{Result, ⊤}
use mathlib.Core.Path.{◌≡◌, refl, sym, ap, subst, ◌∙◌}
use mathlib.Core.Bool.{Bool, true, false, cond, ◌&&◌}
use mathlib.Core.List.{List, ◌++◌}
use mathlib.Core.Logic.{◌⊎◌, inl}
use Prim.Native.Nat.{ℕ, ◌+◌, ◌*◌, ◌-◌, ◌≤◌, ◌<◌}
use native.Mathlib.Nat.{mul_assoc, mul-le-mul_right}
use native.Mathlib.Omega.{arith}
use lib.Dec.{ltb, eqb}
use lib.ListN.{length, take, replicate}
use lib.Seq.{take_at}
use borrow.Author.Tests.{ltb-false, ne_eqb}
use Rattle.settings.specs.declared.refusal.Refusal.{Refusal}
use Rattle.settings.specs.declared.super_opts.SuperOpts.{SuperOpts}
use Rattle.settings.specs.Numbers.{refuse, ◌then◌, to_nat}
use Rattle.settings.specs.Check.{pel_of}
use Rattle.settings.specs.Answers.{Answer, answer, tested}
use Rattle.settings.proofs.Tests.{and_left, and_right}
use Rattle.settings.proofs.Refusals.{then_first, then_rest, refuse_not}
use Rattle.settings.proofs.Known.{given}
use Rattle.settings.proofs.Outcome.{determined}
use Rattle.filters.specs.declared.half_pel.Upscale.{Upscale}
use Rattle.filters.specs.Halve.{chosen}
use Rattle.filters.specs.Refine.{upscale}
use Rattle.layouts.specs.declared.layout.Layout.{Layout}
use Rattle.layouts.specs.Layout.{levels_of, width_at, height_at, stored_at, written_end, spill_need, scratch_need}
use Rattle.layouts.specs.Refusals.{bad_pitch, source_need, layout_no, lent_no, build_no}
use Rattle.layouts.specs.Room.{Ready}
use Rattle.stored.specs.Layout.{view_of}
use Rattle.lookups.specs.Refusals.{stored_build_no}
use Rattle.lookups.proofs.Numbers.{build_stored, build_as_view}
use Rattle.layouts.proofs.Choices.{cond_yes, cond_no}
use Rattle.layouts.proofs.Loops.{row_in}
use Rattle.layouts.proofs.Known.{left_known}
use Rattle.layouts.proofs.Layouts.{pitch_within, Allowed, allowed, height_le, offset_first, level_end, width_first}
use Rattle.layouts.proofs.Stored.{pel_more, width_some, height_some, stored_some, spill_full}
use Rattle.builder.specs.Refining.{refine}
use Rattle.builder.specs.Room.{Planes}
use Rattle.builder.proofs.Related.{Bytes, Rel, same_bytes, rel_same}
use Rattle.builder.proofs.Stages.{Respects, still, either, Notion}
use Rattle.builder.proofs.Placed.{Allows}
use Rattle.builder.proofs.Inside.{Inside, beside_allows, inside_by}
use Rattle.planes.specs.Build.{planes_of, copied, halved_by, refines, refined, built_by, frame_by, lent_after}
use Rattle.planes.proofs.Prepared.{source_need_lem}
use Rattle.planes.proofs.Parts.{copied_kept}

-- ---- what the refusals leave
record Fits (q : Layout) (n sp len spill scratch : ℕ) : Type 0 where
  pub source : source_need q sp ≤ n
  pub end : written_end q ≤ len
  pub spills : spill_need q ≤ spill
  pub room : scratch_need q ≤ scratch

lent_fits : (q : Layout) (n sp len spill scratch : ℕ) → lent_no q n sp len spill scratch ≡ 0 → Fits q n sp len spill scratch
unfolding lent_no
lent_fits q n sp len spill scratch e =
    let t10 = ltb n (source_need q sp) in
    let t11 = ltb len (written_end q) in
    let t12 = ltb spill (spill_need q) in
    let t13 = ltb scratch (scratch_need q) in
    let r11 = refuse t10 10 then refuse t11 11 in
    let r12 = r11 then refuse t12 12 in
    let e12 = then_first r12 (refuse t13 13) e in
    let e11 = then_first r11 (refuse t12 12) e12 in
    record {
      source = ltb-false n (source_need q sp) (refuse_not t10 9 (then_first (refuse t10 10) (refuse t11 11) e11));
      end = ltb-false len (written_end q) (refuse_not t11 10 (then_rest (refuse t10 10) (refuse t11 11) e11));
      spills = ltb-false spill (spill_need q) (refuse_not t12 11 (then_rest r11 (refuse t12 12) e12));
      room = ltb-false scratch (scratch_need q) (refuse_not t13 12 (then_rest r12 (refuse t13 13) e));
    }

pub ready : (q : Layout) (n sp len spill scratch : ℕ) → build_no q n sp len spill scratch ≡ 0 → Ready q n sp len spill scratch
unfolding build_no
ready q n sp len spill scratch e =
    let w = width_at q 0 in
    let t9 = bad_pitch sp w in
    let lent = lent_no q n sp len spill scratch in
    let first = then_first (layout_no q then refuse t9 9) lent e in
    let s9 = refuse_not t9 8 (then_rest (layout_no q) (refuse t9 9) first) in
    let f = lent_fits q n sp len spill scratch (then_rest (layout_no q then refuse t9 9) lent e) in
    record {
      layout = then_first (layout_no q) (refuse t9 9) first;
      pitch = (pitch_within sp w s9).1;
      source = f.source;
      end = f.end;
      spills = f.spills;
      room = f.room;
    }

-- of a build by a stored layout
pub ready_stored : (r : SuperOpts) (s : List ℕ) (n sp len spill scratch : ℕ) → stored_build_no r s n sp len spill scratch ≡ 0 → Ready (view_of r s) n sp len spill scratch
ready_stored r s n sp len spill scratch e =
    ready (view_of r s) n sp len spill scratch (sym (build_as_view r s n sp len spill scratch (build_stored r s n sp len spill scratch e)) ∙ e)

-- other slices of the same or enough bytes
pub ready_lent : {q : Layout} {n sp len spill scratch len' spill' scratch' : ℕ} → Ready q n sp len spill scratch → len' ≡ len → spill_need q ≤ spill' → scratch_need q ≤ scratch' → Ready q n sp len' spill' scratch'
ready_lent r e s x =
    record { layout = r.layout; pitch = r.pitch; source = r.source; end = omega (arith, r.end); spills = s; room = x }

-- ---- level 0 in the frame
module _ (q : Layout) (a : Allowed q) (len : ℕ) (some : 1 ≤ levels_of q) (end : written_end q ≤ len) (full : q.opts.full ≡ true) where
  stored_inside : stored_at q 0 * height_at q 0 * q.pitch ≤ len
  stored_inside = omega (arith, level_end q 0 (omega arith), offset_first q)

  plane_inside : height_at q 0 * q.pitch ≤ len
  plane_inside =
      let h = height_at q 0 in
      let one : h ≤ stored_at q 0 * h = omega (arith, row_in 0 (stored_at q 0) h (stored_some q a 0 (inl full))) in
      omega (arith, mul-le-mul_right q.pitch one, stored_inside)

  pub target_row : (y : ℕ) → y < height_at q 0 → y * q.pitch + width_at q 0 ≤ len
  target_row y lt = omega (arith, row_in y (height_at q 0) q.pitch lt, width_first q a full, plane_inside)

  pub planes_ready : (scratch : ℕ) → scratch_need q ≤ scratch → Planes (pel_of q.opts * pel_of q.opts) len scratch (planes_of q)
  planes_ready scratch room =
      let k = pel_of q.opts * pel_of q.opts in
      let h = height_at q 0 in
      record {
        wide = width_some q a 0 (omega arith);
        fits = width_first q a full;
        most_pitch_lem = a.most;
        high = height_some q a 0 (omega arith);
        most_height = height_le q a 0;
        inside = subst (λ (m : ℕ). m ≤ len) (ap (λ (m : ℕ). m * h * q.pitch) (cond_yes q.opts.full k 0 full) ∙ mul_assoc k h q.pitch) stored_inside;
        room = room;
      }

-- the source plane's
pub source_row : (q : Layout) {n sp len spill scratch : ℕ} → Ready q n sp len spill scratch → 1 ≤ levels_of q → (y : ℕ) → y < height_at q 0 → y * sp + width_at q 0 ≤ n
source_row q {n} {sp} r some y lt =
    let le : y ≤ height_at q 0 - 1 = omega arith in
    omega (arith, mul-le-mul_right sp le, source_need_lem q r some)

-- ---- what is refined: level 0's planes, by numbers that a build read off the record
record Refines (q : Layout) : Type 0 where
  pub pel : (pel_of q.opts ≡ 2) ⊎ (pel_of q.opts ≡ 4)
  pub full : q.opts.full ≡ true

refining : (q : Layout) → Allowed q → refines q ≡ true → Refines q
refining q a e =
    let n = pel_of q.opts in
    let pel = ltb 1 n in
    let gpu = ltb (to_nat q.opts.gpu) 2 in
    record {
      pel = pel_more q a.good (and_left pel gpu (and_left (pel && gpu) q.opts.full e));
      full = and_right (pel && gpu) q.opts.full e;
    }

module _ (q : Layout) (pel w h : ℕ) (is-pel : pel ≡ pel_of q.opts) (is-w : w ≡ width_at q 0) (is-h : h ≡ height_at q 0) (yes : refines q ≡ true) where
  pub refine_ready : (len spill scratch : ℕ) → layout_no q ≡ 0 → 1 ≤ levels_of q → written_end q ≤ len → spill_need q ≤ spill → scratch_need q ≤ scratch → ((pel ≡ 2) ⊎ (pel ≡ 4)) × Planes (pel * pel) len scratch (record { pitch = q.pitch; width = w; height = h }) × (16 ≤ spill)
  refine_ready len spill scratch l some end spills room =
      let a = allowed q l in
      let r = refining q a yes in
      rw (is-pel, is-w, is-h) (r.pel, planes_ready q a len some end r.full scratch room, omega (arith, spill_full q a r.full, spills))

  pub refined_yes : (u : Upscale) (c : List ℕ) → u ≡ upscale q.opts.scale_up → refine (record { pitch = q.pitch; width = w; height = h }) pel u c ≡ refined q c
  unfolding refined
  refined_yes u c e = rw (is-pel, is-w, is-h, e) (sym (cond_yes (refines q) (refine (planes_of q) (pel_of q.opts) (upscale q.opts.scale_up) c) c yes))

pub refined_no : (q : Layout) (c : List ℕ) → refines q ≡ false → c ≡ refined q c
unfolding refined
refined_no q c e = sym (cond_no (refines q) _ c e)

-- ---- the stages
pub copied_placed : {E : ℕ → ℕ → Type 0} (B : Bytes E) {N : Notion E} (q : Layout) (src src' : List ℕ) {n sp len spill scratch : ℕ} → Ready q n sp len spill scratch → Allows N len → Rel E src src' → 1 ≤ levels_of q → q.opts.full ≡ true → Respects N.R (copied q src sp) (copied q src' sp)
copied_placed B {N} q src src' {sp = sp} {len = len} r A same some full = copied_kept B N q src src' sp same (λ y lt. A.takes _ _ (target_row q (allowed q r.layout) len some r.end full y lt))

first_inside : (q : Layout) (src : List ℕ) {n sp len spill scratch : ℕ} → Ready q n sp len spill scratch → 1 ≤ levels_of q → Inside len (λ c. cond q.opts.full (copied q src sp c) c)
first_inside q src {len = len} r some = inside_by (λ S. either q.opts.full (copied_placed same_bytes q src src r (beside_allows len S) (rel_same refl) some) (λ none. still))

pub no_level : (fuse : Bool) (q : Layout) (src c : List ℕ) (sp len : ℕ) → levels_of q ≡ 0 → c ≡ built_by fuse q src sp len c
unfolding built_by
no_level fuse q src c sp len e = rw e

-- F becomes F1 by level 0; F1 and S become c2 by the later levels, and c2 becomes c3 by refining
pub all_stages : (fuse : Bool) (q : Layout) {n sp spill scratch : ℕ} (src F S F1 c2 c3 : List ℕ) → Ready q n sp (length F) spill scratch → 1 ≤ levels_of q → length F1 ≡ length F → F1 ≡ cond q.opts.full (copied q src sp F) F → c2 ≡ halved_by fuse q src sp (length F1) (chosen q.opts.scale_down) (F1 ++ S) → c3 ≡ refined q c2 → c3 ≡ built_by fuse q src sp (length F) (F ++ S)
unfolding built_by
all_stages fuse q {n} {sp} src F S F1 c2 c3 r some kept e1 e2 e3 =
    let f = chosen q.opts.scale_down in
    let whole = ap (λ (x : List ℕ). x ++ S) e1 ∙ (first_inside q src r some).aside F S refl in
    e3
    ∙ ap (refined q) (e2 ∙ ap (λ (k : ℕ). halved_by fuse q src sp k f (F1 ++ S)) kept ∙ ap (halved_by fuse q src sp (length F) f) whole)
    ∙ sym (cond_no (eqb (levels_of q) 0) (F ++ S) _ (ne_eqb (levels_of q) 0 (λ z. omega (arith, z, some))))

-- ---- what is left
pub frame_left_lem : (fuse : Bool) (q : Layout) (src F G T Z : List ℕ) (sp : ℕ) → length G ≡ length F → Z ≡ replicate (spill_need q) 0 → G ++ T ≡ built_by fuse q src sp (length F) (F ++ Z) → G ≡ frame_by fuse q src sp F
unfolding frame_by
frame_left_lem fuse q src F G T Z sp kept zeros e =
    sym (take_at G T (length F) kept)
    ∙ ap (take (length F)) (e ∙ ap (λ (x : List ℕ). built_by fuse q src sp (length F) (F ++ x)) zeros)

-- what was lent as l was of k bytes still, and was zeroed
pub lent_zeroed : (n k : ℕ) (l z : List ℕ) → z ≡ replicate k 0 → k ≡ length l → n ≡ 0 → answer 0 z ≡ lent_after n l
lent_zeroed n k l z e kept none = ap (answer 0) (e ∙ ap (λ (m : ℕ). replicate m 0) kept) ∙ given n (replicate (length l) 0) l none

-- one outcome: the number, and what frame, spill and scratch are left as
pub one_left : {r s : Result ⊤ Refusal} {F S X G T Y : List ℕ} {f t x : Answer (List ℕ)} → (answer (tested r) F ≡ f) × (answer (tested r) S ≡ t) × (answer (tested r) X ≡ x) → (answer (tested s) G ≡ f) × (answer (tested s) T ≡ t) × (answer (tested s) Y ≡ x) → ◌≡◌ {A = Result ⊤ Refusal × List ℕ × List ℕ × List ℕ} (r, F, S, X) (s, G, T, Y)
one_left {r} {s} {F} {S} {X} {G} {T} {Y} p q =
    let frame = determined left_known {a = (r, F)} {b = (s, G)} p.0 q.0 in
    let spill = determined left_known {a = (r, S)} {b = (s, T)} p.1 q.1 in
    let scratch = determined left_known {a = (r, X)} {b = (s, Y)} p.2 q.2 in
    rw (ap (λ (a : Result ⊤ Refusal × List ℕ). a.0) frame, bytes frame, bytes spill, bytes scratch)
  where
    bytes : {a b : Result ⊤ Refusal × List ℕ} → a ≡ b → a.1 ≡ b.1
    bytes = ap (λ (a : Result ⊤ Refusal × List ℕ). a.1)
