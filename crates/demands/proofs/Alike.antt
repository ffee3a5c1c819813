-- Words that prepare alike leave equal bytes: a record behind one and a record behind the other build alike, given the same plane, source pitch, layout and starting frame. First that the records which two such words spell differ in rc and lean alone. Assumes nothing.
use mathlib.Core.Path.{◌≡◌, sym, ap, ◌∙◌}
use mathlib.Core.Bool.{true, ◌&&◌}
use Prim.Native.Nat.{ℕ, ◌%◌, ◌^◌}
use native.Mathlib.Omega.{arith}
use lib.Dec.{eqb}
use borrow.Author.Tests.{eqb-true}
use Rattle.settings.specs.declared.super_opts.SuperOpts.{SuperOpts}
use Rattle.settings.specs.Check.{accepted}
use Rattle.settings.specs.Word.{bits}
use Rattle.settings.specs.Reading.{candidate, read_no, Packs, agree, alike}
use Rattle.settings.proofs.Tests.{and_left, and_right}
use Rattle.settings.proofs.Told.{read_case, at_0, code_packs}
use Rattle.stored.specs.Layout.{stored_of}
use Rattle.demands.specs.Demands.{Inputs, with_layout, SameBuild, leaves, Leaves}
use Rattle.demands.proofs.Same.{changed, leaves_marks, build_number, number_same, leaves_canon, builds_canon, layout_same, one_layout}

-- a field below bit 47 is one of the bits below it
height_low : (v : ℕ) → bits (v % 2 ^ 47) 0 16 ≡ bits v 0 16
height_low v = omega arith

width_low : (v : ℕ) → bits (v % 2 ^ 47) 16 16 ≡ bits v 16 16
width_low v = omega arith

pel_low : (v : ℕ) → bits (v % 2 ^ 47) 32 8 ≡ bits v 32 8
pel_low v = omega arith

levels_low : (v : ℕ) → bits (v % 2 ^ 47) 40 6 ≡ bits v 40 6
levels_low v = omega arith

down_low : (v : ℕ) → bits (v % 2 ^ 47) 46 1 ≡ bits v 46 1
down_low v = omega arith

-- and "not full" one of those from bit 57 on
full_high : (v : ℕ) → bits v 57 7 % 2 ≡ bits v 57 1
full_high v = omega arith

-- the record that b spells is the one that a spells, with its own rc and lean
module _ (a b : ℕ) (same : agree a b ≡ true) where
  abbrev marked : SuperOpts
  marked = let r = candidate a in changed r r.scale_down r.scale_up (candidate b).rc (candidate b).lean

  spelled_alike : candidate b ≡ marked
  unfolding candidate
  spelled_alike =
      let first = eqb (a % 2 ^ 47) (b % 2 ^ 47) in
      let second = eqb (bits a 48 8) (bits b 48 8) in
      let third = eqb (bits a 57 7) (bits b 57 7) in
      let low : a % 2 ^ 47 ≡ b % 2 ^ 47 = eqb-true (a % 2 ^ 47) (b % 2 ^ 47) (and_left first second (and_left (first && second) third same)) in
      let gpu : bits b 48 8 ≡ bits a 48 8 = sym (eqb-true (bits a 48 8) (bits b 48 8) (and_right first second (and_left (first && second) third same))) in
      let high : bits a 57 7 ≡ bits b 57 7 = eqb-true (bits a 57 7) (bits b 57 7) (and_right (first && second) third same) in
      let from : (f : ℕ → ℕ) → ((v : ℕ) → f (v % 2 ^ 47) ≡ f v) → f b ≡ f a = λ f cut. sym (cut b) ∙ ap f (sym low) ∙ cut a in
      let height = from (λ v. bits v 0 16) height_low in
      let width = from (λ v. bits v 16 16) width_low in
      let pel = from (λ v. bits v 32 8) pel_low in
      let levels = from (λ v. bits v 40 6) levels_low in
      let down = from (λ v. bits v 46 1) down_low in
      let full = sym (full_high b) ∙ ap (λ (n : ℕ). n % 2) (sym high) ∙ full_high a in
      rw (height, width, pel, levels, down, gpu, full)

-- both words name a build, and agree
paired : (a b : ℕ) → alike a b ≡ true → (read_no a ≡ 0) × (read_no b ≡ 0) × (agree a b ≡ true)
unfolding alike
paired a b e =
    let one = eqb (read_no a) 0 in
    let two = eqb (read_no b) 0 in
    let both = and_left (one && two) (agree a b) e in
    (eqb-true (read_no a) 0 (and_left one two both), eqb-true (read_no b) 0 (and_right one two both), and_right (one && two) (agree a b) e)

-- the record that such a word spells packs to it
names_packs : (v : ℕ) → read_no v ≡ 0 → Packs v (candidate v)
names_packs v e = code_packs v (at_0 (read_case v) e).0

pub alike_build : (a b : ℕ) → alike a b ≡ true → (r s : SuperOpts) → Packs a r → Packs b s → SameBuild Leaves r s
alike_build a b e r s p q g m is-src is-frame h =
    let t = paired a b e in
    let as-marked = spelled_alike a b t.2 in
    let x = candidate a in
    let y = candidate b in (
      sym (builds_canon b s q g)
          ∙ ap (λ (z : SuperOpts). build_number z g) as-marked
          ∙ number_same x x.scale_down x.scale_up y.rc y.lean g (names_packs a t.0).good (sym (ap accepted as-marked) ∙ (names_packs b t.1).good)
          ∙ builds_canon a r p g
          ∙ h.0,
      h.1
          ∙ sym (leaves_canon a t.0 r p g)
          ∙ sym (leaves_marks x y.rc y.lean g)
          ∙ ap (λ (z : SuperOpts). leaves z g) (sym as-marked)
          ∙ leaves_canon b t.1 s q g,
    )

-- and for one pair of shifts and pitch they have one stored layout
pub alike_layout : (a b : ℕ) → alike a b ≡ true → (r s : SuperOpts) → Packs a r → Packs b s → (g : Inputs) → stored_of (with_layout r g) ≡ stored_of (with_layout s g)
alike_layout a b e r s p q g =
    let t = paired a b e in
    let x = candidate a in
    let y = candidate b in
    one_layout a r x p (names_packs a t.0) g
    ∙ sym (layout_same x x.scale_down x.scale_up y.rc y.lean g)
    ∙ ap (λ (z : SuperOpts). stored_of (with_layout z g)) (sym (spelled_alike a b t.2))
    ∙ one_layout b y s (names_packs b t.1) q g
