-- The word of an accepted record: each field is read back by division and remainder, so records with one word agree in all that it holds. Assumes nothing.
use mathlib.Core.Path.{◌≡◌, refl, sym, ap, ◌∙◌}
use mathlib.Core.Bool.{Bool, true, false, not}
use Prim.Native.Nat.{ℕ, ◌^◌, ◌<◌}
use native.Mathlib.Omega.{arith}
use lib.Dec.{eqb, ltb}
use lib.IntN.{pos}
use borrow.Author.Tests.{eqb-false, le-ltb, not-false}
use Rattle.settings.specs.declared.refusal.Refusal.{Refusal}
use Rattle.settings.specs.declared.super_opts.SuperOpts.{SuperOpts}
use Rattle.settings.specs.Limits.{most_packed}
use Rattle.settings.specs.Numbers.{is_nat, to_nat, bit, refuse}
use Rattle.settings.specs.Check.{accepted, record_no, pel_of, luma_w, luma_h, level_count}
use Rattle.settings.specs.Word.{word_of, pack_no, bits}
use Rattle.settings.specs.Answers.{Answer, answer, number, pack_answer}
use Rattle.settings.proofs.Tests.{not_known}
use Rattle.settings.proofs.Refusals.{then_first, refuse_not}
use Rattle.settings.proofs.Known.{number_some, given}
use Rattle.settings.proofs.Accepted.{fine, sound, within, pos_pel, pos_gpu, pos_side, pos_levels}

-- ---- a record's fields are small
pub bit_small : (t : Bool) → bit t < 2
bit_small true = omega arith
bit_small false = omega arith

pub bit_back : (t : Bool) → eqb (bit t) 1 ≡ t
bit_back true = refl
bit_back false = refl

pub record Small (r : SuperOpts) : Type 0 where
  pub height : luma_h r < 2 ^ 16
  pub width : luma_w r < 2 ^ 16
  pub pel : pel_of r < 2 ^ 8
  pub levels : level_count r < 2 ^ 6
  pub gpu : to_nat r.gpu < 2 ^ 8
  pub other : bit (not (is_nat r.scale_down 4)) < 2
  pub lean : bit r.lean < 2
  pub rc : bit r.rc < 2
  pub part : bit (not r.full) < 2

pub small : (r : SuperOpts) → accepted r ≡ true → Small r
small r e =
    let w = within r e in
    record {
      height = omega arith;
      width = omega arith;
      pel = omega arith;
      levels = omega arith;
      gpu = omega arith;
      other = bit_small (not (is_nat r.scale_down 4));
      lean = bit_small r.lean;
      rc = bit_small r.rc;
      part = bit_small (not r.full);
    }

-- ---- packing refuses nothing else
pub pack_none : (r : SuperOpts) → accepted r ≡ true → pack_no r ≡ 0
pack_none r e = rw (e, le-ltb most_packed (level_count r) (omega (arith, (within r e).levels)))

pub pack_accepted : (r : SuperOpts) → pack_no r ≡ 0 → accepted r ≡ true
pack_accepted r e = not-false (accepted r) (refuse_not (not (accepted r)) 5 (then_first (record_no r) (refuse (ltb most_packed (level_count r)) 14) e))

-- what a call of `pack_data` that gave a word says of the record, and one that gave a refusal
pub packed_word_lem : (r : SuperOpts) (w : ℕ) → answer 0 w ≡ pack_answer r → (accepted r ≡ true) × (w ≡ word_of r)
packed_word_lem r w e =
    let none : pack_no r ≡ 0 = sym (ap (λ (a : Answer ℕ). a.no) e) in
    (pack_accepted r none, ap (λ (a : Answer ℕ). a.value) (e ∙ sym (given (pack_no r) (word_of r) 0 none)))

pub packed_not : (r : SuperOpts) (f : Refusal) → answer (number f) 0 ≡ pack_answer r → accepted r ≡ false
packed_not r f e = go (accepted r) refl
  where
    go : (t : Bool) → accepted r ≡ t → t ≡ false
    go true a = absurd (eqb-false (number f) 0 (number_some f) (ap (λ (x : Answer ℕ). x.no) e ∙ pack_none r a))
    go false a = refl

-- ---- the fields of its word
module _ (r : SuperOpts) (s : Small r) where
  pub word_height : bits (word_of r) 0 16 ≡ luma_h r
  unfolding word_of
  word_height = omega arith

  pub word_width : bits (word_of r) 16 16 ≡ luma_w r
  unfolding word_of
  word_width = omega arith

  pub word_pel : bits (word_of r) 32 8 ≡ pel_of r
  unfolding word_of
  word_pel = omega arith

  pub word_levels : bits (word_of r) 40 6 ≡ level_count r
  unfolding word_of
  word_levels = omega arith

  pub word_other : bits (word_of r) 46 1 ≡ bit (not (is_nat r.scale_down 4))
  unfolding word_of
  word_other = omega arith

  pub word_lean : bits (word_of r) 47 1 ≡ bit r.lean
  unfolding word_of
  word_lean = omega arith

  pub word_gpu : bits (word_of r) 48 8 ≡ to_nat r.gpu
  unfolding word_of
  word_gpu = omega arith

  pub word_rc : bits (word_of r) 56 1 ≡ bit r.rc
  unfolding word_of
  word_rc = omega arith

  pub word_part : bits (word_of r) 57 1 ≡ bit (not r.full)
  unfolding word_of
  word_part = omega arith

-- ---- two accepted records with one word
bit_known : (a b : Bool) → bit a ≡ bit b → a ≡ b
bit_known a b e = sym (bit_back a) ∙ ap (λ (n : ℕ). eqb n 1) e ∙ bit_back b

-- they agree in all that the word holds
pub record Agree (r q : SuperOpts) : Type 0 where
  pub width : r.width ≡ q.width
  pub height : r.height ≡ q.height
  pub pel : r.pel ≡ q.pel
  pub levels : r.levels ≡ q.levels
  pub gpu : r.gpu ≡ q.gpu
  pub full : r.full ≡ q.full
  pub rc : r.rc ≡ q.rc
  pub lean : r.lean ≡ q.lean
  pub down_is_4 : is_nat r.scale_down 4 ≡ is_nat q.scale_down 4

pub same_word : (r q : SuperOpts) → accepted r ≡ true → accepted q ≡ true → word_of r ≡ word_of q → Agree r q
same_word r q a b e =
    let s = small r a in
    let t = small q b in
    let f = fine r a in
    let g = fine q b in
    let o = sound r f.none in
    let p = sound q g.none in
    record {
      width = sym (pos_side r.width o.width) ∙ ap pos (sym (word_width r s) ∙ ap (λ (v : ℕ). bits v 16 16) e ∙ word_width q t) ∙ pos_side q.width p.width;
      height = sym (pos_side r.height o.height) ∙ ap pos (sym (word_height r s) ∙ ap (λ (v : ℕ). bits v 0 16) e ∙ word_height q t) ∙ pos_side q.height p.height;
      pel = sym (pos_pel r.pel o.pel) ∙ ap pos (sym (word_pel r s) ∙ ap (λ (v : ℕ). bits v 32 8) e ∙ word_pel q t) ∙ pos_pel q.pel p.pel;
      levels = sym (pos_levels r a) ∙ ap pos (sym (word_levels r s) ∙ ap (λ (v : ℕ). bits v 40 6) e ∙ word_levels q t) ∙ pos_levels q b;
      gpu = sym (pos_gpu r.gpu o.gpu) ∙ ap pos (sym (word_gpu r s) ∙ ap (λ (v : ℕ). bits v 48 8) e ∙ word_gpu q t) ∙ pos_gpu q.gpu p.gpu;
      full = not_known r.full q.full (bit_known (not r.full) (not q.full) (sym (word_part r s) ∙ ap (λ (v : ℕ). bits v 57 1) e ∙ word_part q t));
      rc = bit_known r.rc q.rc (sym (word_rc r s) ∙ ap (λ (v : ℕ). bits v 56 1) e ∙ word_rc q t);
      lean = bit_known r.lean q.lean (sym (word_lean r s) ∙ ap (λ (v : ℕ). bits v 47 1) e ∙ word_lean q t);
      down_is_4 = not_known (is_nat r.scale_down 4) (is_nat q.scale_down 4) (bit_known (not (is_nat r.scale_down 4)) (not (is_nat q.scale_down 4)) (sym (word_other r s) ∙ ap (λ (v : ℕ). bits v 46 1) e ∙ word_other q t));
    }
