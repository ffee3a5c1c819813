-- A part built leaves the others as they are; so all three, in any order, leave one frame. First a part; then a frame in its parts; then one of them built; last all three. Assumes nothing.
use mathlib.Core.Path.{◌≡◌, refl, sym, ap, subst, ◌∙◌}
use mathlib.Core.Bool.{Bool, true, false, cond}
use mathlib.Core.List.{List, [], ◌++◌, append_assoc}
use Prim.Native.Nat.{ℕ, zero, suc, ◌+◌, ◌-◌, ◌≤◌}
use native.Mathlib.Nat.{add-sub_cancel_left}
use native.Mathlib.Omega.{arith}
use lib.Dec.{eqb}
use borrow.Author.Tests.{eqb-true, eqb-false}
use lib.ListN.{length, take, drop, length-append, take-append-drop, length-drop}
use lib.Seq.{take_at, drop_at, drop-drop, length-take-le}
use Rattle.settings.specs.declared.super_opts.SuperOpts.{SuperOpts}
use Rattle.settings.proofs.Heights.{total_suc}
use Rattle.layouts.specs.declared.layout.Layout.{Layout}
use Rattle.planes.specs.Build.{built_frame}
use Rattle.planes.proofs.Enough.{frame_long}
use Rattle.frames.specs.Parts.{plane_of, length_of, start_of, joined_end}
use Rattle.frames.specs.Build.{part_bytes, part_built, frame_left, Once}
use Rattle.frames.proofs.Laid.{start_first, start_next, start_mono}
use Rattle.frames.proofs.Prepared.{Granted, part_ready}

after_next : (r : SuperOpts) (k : ℕ) (f : List ℕ) → drop (length_of r k) (drop (start_of r k) f) ≡ drop (start_of r (suc k)) f
after_next r k f = drop-drop (length_of r k) (start_of r k) f ∙ ap (λ (n : ℕ). drop n f) (sym (total_suc (length_of r) k))

pub part_long : (r : SuperOpts) (k : ℕ) (f : List ℕ) → start_of r (suc k) ≤ length f → length (part_bytes r k f) ≡ length_of r k
part_long r k f le = length-take-le (length_of r k) (drop (start_of r k) f) (omega (arith, length-drop (start_of r k) f, total_suc (length_of r) k, le))

-- a part between P and S
module _ (r : SuperOpts) (k : ℕ) (P M S : List ℕ) (start : length P ≡ start_of r k) (long : length M ≡ length_of r k) where
  part_is : part_bytes r k (P ++ (M ++ S)) ≡ M
  part_is = ap (take (length_of r k)) (drop_at P (M ++ S) (start_of r k) start) ∙ take_at M S (length_of r k) long

  after_is : drop (start_of r (suc k)) (P ++ (M ++ S)) ≡ S
  after_is =
      sym (after_next r k (P ++ (M ++ S)))
      ∙ ap (drop (length_of r k)) (drop_at P (M ++ S) (start_of r k) start)
      ∙ drop_at M S (length_of r k) long

  built_is : (s : List ℕ) (p : ℕ) → part_built r k s p (P ++ (M ++ S)) ≡ P ++ (built_frame (plane_of r k) s p M ++ S)
  built_is s p = rw (take_at P (M ++ S) (start_of r k) start, part_is, after_is) refl

-- a part from a on, of n bytes, that is lent on and put back
module _ (r : SuperOpts) (k a n : ℕ) (start : a ≡ start_of r k) (long : n ≡ length_of r k) (f : List ℕ) where
  pub part_back : (s : List ℕ) (p : ℕ) {q : Layout} {own : List ℕ} → q ≡ plane_of r k → own ≡ built_frame q s p (take (a + n - a) (drop a f)) → take a f ++ (own ++ drop (a + n - a) (drop a f)) ≡ part_built r k s p f
  part_back s p is e =
      rw (e, is, add-sub_cancel_left a n, start, long)
      (ap (λ (x : List ℕ). take (start_of r k) f ++ (built_frame (plane_of r k) s p (part_bytes r k f) ++ x)) (after_next r k f))

-- ---- a frame in its parts, and the rest
pub record Cut (r : SuperOpts) (f : List ℕ) (part : ℕ → List ℕ) (rest : List ℕ) : Type 0 where
  pub is : f ≡ part 0 ++ (part 1 ++ (part 2 ++ rest))
  pub long : (k : ℕ) → k ≤ 2 → length (part k) ≡ length_of r k

next_part : (r : SuperOpts) (k : ℕ) (f : List ℕ) → drop (start_of r k) f ≡ part_bytes r k f ++ drop (start_of r (suc k)) f
next_part r k f =
    sym (take-append-drop (length_of r k) (drop (start_of r k) f))
    ∙ ap (λ (x : List ℕ). part_bytes r k f ++ x) (after_next r k f)

pub cut : (r : SuperOpts) (f : List ℕ) → joined_end r ≤ length f → Cut r f (λ k. part_bytes r k f) (drop (joined_end r) f)
cut r f le =
    record {
      is = ap (λ (n : ℕ). drop n f) (sym (start_first r)) ∙ next_part r 0 f ∙ ap (λ (x : List ℕ). part_bytes r 0 f ++ x) (next_part r 1 f ∙ ap (λ (x : List ℕ). part_bytes r 1 f ++ x) (next_part r 2 f));
      long = λ k small. part_long r k f (omega (arith, start_mono r (suc k) (omega (arith, small)), le));
    }

pub cut_long : {r : SuperOpts} {f rest : List ℕ} {part : ℕ → List ℕ} → Cut r f part rest → joined_end r ≤ length f
cut_long {r} {f} {rest} {part} c =
    let whole = ap (λ (x : List ℕ). length x) c.is in
    let y = length-append (part 0) (part 1 ++ (part 2 ++ rest)) in
    let u = length-append (part 1) (part 2 ++ rest) in
    let v = length-append (part 2) rest in
    omega (arith, whole, y, u, v, c.long 0 (omega arith), c.long 1 (omega arith), c.long 2 (omega arith), start_first r, start_next r 0, start_next r 1, start_next r 2)

-- ---- one of them built
abbrev pub changed : ℕ → (List ℕ → List ℕ) → (ℕ → List ℕ) → ℕ → List ℕ
changed k g part j = cond (eqb j k) (g (part j)) (part j)

changed_long : (k j : ℕ) (g : List ℕ → List ℕ) (part : ℕ → List ℕ) → length (g (part k)) ≡ length (part k) → length (changed k g part j) ≡ length (part j)
changed_long k j g part e = by_test (eqb j k) refl
  where
    by_test : (t : Bool) → eqb j k ≡ t → length (changed k g part j) ≡ length (part j)
    by_test true is = rw is (subst (λ (m : ℕ). length (g (part m)) ≡ length (part m)) (sym (eqb-true j k is)) e)
    by_test false is = rw is refl

module _ (r : SuperOpts) {f rest : List ℕ} {part : ℕ → List ℕ} (c : Cut r f part rest) where
  frame_by_lem : (k : ℕ) → k ≤ 2 → (s : List ℕ) (p : ℕ) → part_built r k s p f ≡ changed k (built_frame (plane_of r k) s p) part 0 ++ (changed k (built_frame (plane_of r k) s p) part 1 ++ (changed k (built_frame (plane_of r k) s p) part 2 ++ rest))
  frame_by_lem zero le s p =
      ap (part_built r 0 s p) c.is ∙ built_is r 0 [] (part 0) (part 1 ++ (part 2 ++ rest)) (sym (start_first r)) (c.long 0 (omega arith)) s p
  frame_by_lem (suc zero) le s p =
      ap (part_built r 1 s p) c.is ∙ built_is r 1 (part 0) (part 1) (part 2 ++ rest) (omega (arith, c.long 0 (omega arith), start_first r, start_next r 0)) (c.long 1 (omega arith)) s p
  frame_by_lem (suc (suc zero)) le s p =
      let two = length-append (part 0) (part 1) in
      ap (part_built r 2 s p) (c.is ∙ sym (append_assoc (part 0) (part 1) (part 2 ++ rest)))
      ∙ built_is r 2 (part 0 ++ part 1) (part 2) rest (omega (arith, two, c.long 0 (omega arith), c.long 1 (omega arith), start_first r, start_next r 0, start_next r 1)) (c.long 2 (omega arith)) s p
      ∙ append_assoc (part 0) (part 1) _
  frame_by_lem (suc (suc (suc k))) le s p = absurd (omega (arith, le))

-- where the call isn't refused, as many bytes of the part are left
pub built_cut : {r : SuperOpts} {n sp : ℕ → ℕ} {len spill scratch : ℕ} → Granted r n sp len spill scratch → (src : ℕ → List ℕ) {f rest : List ℕ} {part : ℕ → List ℕ} → Cut r f part rest → (k : ℕ) → k ≤ 2 → Cut r (part_built r k (src k) (sp k) f) (changed k (built_frame (plane_of r k) (src k) (sp k)) part) rest
built_cut {r} {sp = sp} g src {part = part} c k le =
    let build = built_frame (plane_of r k) (src k) (sp k) in
    let kept = frame_long (plane_of r k) (src k) (part k) (part_ready (g.parts k le) refl (c.long k le)) in
    record {
      is = frame_by_lem r c k le (src k) (sp k);
      long = λ j small. changed_long k j build part kept ∙ c.long j small;
    }

-- ---- all three
module _ {i j k : ℕ} (o : Once i j k) (g : ℕ → List ℕ → List ℕ) (part : ℕ → List ℕ) where
  abbrev pub thrice : ℕ → List ℕ
  thrice = changed k (g k) (changed j (g j) (changed i (g i) part))

  -- each part is changed once, by its own
  each_once : (m : ℕ) → m ≤ 2 → thrice m ≡ g m (part m)
  each_once m le = by_tests (eqb m i) (eqb m j) (eqb m k) refl refl refl
    where
      by_tests : (a b c : Bool) → eqb m i ≡ a → eqb m j ≡ b → eqb m k ≡ c → thrice m ≡ g m (part m)
      by_tests true true c ei ej ek = absurd (o.apart.0 (sym (eqb-true m i ei) ∙ eqb-true m j ej))
      by_tests true false true ei ej ek = absurd (o.apart.1 (sym (eqb-true m i ei) ∙ eqb-true m k ek))
      by_tests false true true ei ej ek = absurd (o.apart.2 (sym (eqb-true m j ej) ∙ eqb-true m k ek))
      by_tests true false false ei ej ek = rw (ek, ej, ei) (ap (λ (z : ℕ). g z (part m)) (sym (eqb-true m i ei)))
      by_tests false true false ei ej ek = rw (ek, ej, ei) (ap (λ (z : ℕ). g z (part m)) (sym (eqb-true m j ej)))
      by_tests false false true ei ej ek = rw (ek, ej, ei) (ap (λ (z : ℕ). g z (part m)) (sym (eqb-true m k ek)))
      by_tests false false false ei ej ek = absurd (omega (arith, le, o.first, o.second, o.third, o.apart, eqb-false m i ei, eqb-false m j ej, eqb-false m k ek))

pub all_left : (r : SuperOpts) (src : ℕ → List ℕ) (sp : ℕ → ℕ) (F : List ℕ) {i j k : ℕ} (o : Once i j k) {f : List ℕ} → Cut r f (thrice o (λ m. built_frame (plane_of r m) (src m) (sp m)) (λ m. part_bytes r m F)) (drop (joined_end r) F) → f ≡ frame_left r src sp F
unfolding frame_left
all_left r src sp F o c =
    let each = each_once o (λ m. built_frame (plane_of r m) (src m) (sp m)) (λ m. part_bytes r m F) in
    c.is ∙ rw (each 0 (omega arith), each 1 (omega arith), each 2 (omega arith)) refl

-- Y, then U, then V
pub in_turn_lem : (r : SuperOpts) (n sp : ℕ → ℕ) (src : ℕ → List ℕ) (F : List ℕ) {G H I : List ℕ} {spill scratch : ℕ} → Granted r n sp (length F) spill scratch → G ≡ part_built r 0 (src 0) (sp 0) F → H ≡ part_built r 1 (src 1) (sp 1) G → I ≡ part_built r 2 (src 2) (sp 2) H → I ≡ frame_left r src sp F
in_turn_lem r n sp src F g eG eH eI =
    let y = built_cut g src (cut r F g.end) 0 (omega arith) in
    let u = built_cut g src y 1 (omega arith) in
    let yuv : Once 0 1 2 = record { first = omega arith; second = omega arith; third = omega arith; apart = (λ e. omega (arith, e), λ e. omega (arith, e), λ e. omega (arith, e)) } in
    eI ∙ ap (part_built r 2 (src 2) (sp 2)) (eH ∙ ap (part_built r 1 (src 1) (sp 1)) eG) ∙ all_left r src sp F yuv (built_cut g src u 2 (omega arith))
