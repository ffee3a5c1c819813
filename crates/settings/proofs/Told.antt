-- Reading a word, and the accepted records that pack to it: demand 3 as far as records go.
-- First the record that a word spells; then `none_exact` (20), `tells_exact` (0) and `only_exact`; last `packs_exact`, what a record behind a word is. What 21 and 22 say is said of bytes, in crate demands. Assumes nothing.
use mathlib.Core.Path.{◌≡◌, refl, sym, ap, ◌∙◌, subst}
use mathlib.Core.Logic.{◌↔◌, ◌⊎◌, inl, inr}
use mathlib.Core.Bool.{Bool, true, false, cond, not, ◌&&◌, ◌||◌}
use Prim.Native.Nat.{ℕ, ◌≤◌, ◌<◌, ◌^◌}
use native.Mathlib.Omega.{arith}
use lib.Dec.{eqb}
use lib.IntN.{ℤ, pos}
use borrow.Author.Tests.{eqb-true, eq-eqb, lt-ltb}
use Rattle.std.specs.Bool.{then_some}
use Rattle.settings.specs.declared.super_opts.SuperOpts.{SuperOpts}
use Rattle.settings.specs.Limits.{most_side, most_levels}
use Rattle.settings.specs.Numbers.{is_nat, to_nat, is_i32, refuse, ◌then◌}
use Rattle.settings.specs.Check.{settings_no, accepted, RecordI32}
use Rattle.settings.specs.Word.{word_of, pack_no}
use Rattle.settings.specs.Reading.{is_set, candidate, up_matters, down_matters, is_code, read_no, describe, Packs}
use Rattle.settings.specs.Answers.{Answer, answer, pack_answer, Returns}
use Rattle.settings.proofs.Tests.{and_left, and_right, or_yes, not_not, cond_not, clash, false_by}
use Rattle.settings.proofs.Accepted.{is_nat_pos, Fine, fine, fine_accepted, sound, within, pos_pel, pos_gpu, pos_side, pos_levels, accepted_exact}
use Rattle.settings.proofs.Known.{given}
use Rattle.settings.proofs.Words.{pack_none, bit_back, small, word_height, word_width, word_pel, word_levels, word_other, word_lean, word_gpu, word_rc, word_part}

-- ---- the record that a word spells
-- r with other filters
abbrev pub filtered : SuperOpts → ℤ → ℤ → SuperOpts
filtered r down up =
    record {
      pel = r.pel;
      gpu = r.gpu;
      scale_down = down;
      scale_up = up;
      full = r.full;
      rc = r.rc;
      lean = r.lean;
      levels = r.levels;
      width = r.width;
      height = r.height;
    }

-- down told as 4 or not, up not told
abbrev pub canon : SuperOpts → SuperOpts
canon r = filtered r (cond (is_nat r.scale_down 4) (pos 4) (pos 0)) (pos 0)

pub decoded : (r : SuperOpts) → accepted r ≡ true → candidate (word_of r) ≡ canon r
unfolding candidate
decoded r e =
    let s = small r e in
    let o = sound r (fine r e).none in
    rw (word_pel r s, word_gpu r s, word_other r s, word_part r s, word_rc r s, word_lean r s, word_levels r s, word_width r s, word_height r s)
    (rw (bit_back (not (is_nat r.scale_down 4)), bit_back (not r.full), bit_back r.rc, bit_back r.lean, not_not r.full, cond_not (is_nat r.scale_down 4) (pos 0) (pos 4), pos_pel r.pel o.pel, pos_gpu r.gpu o.gpu, pos_levels r e, pos_side r.width o.width, pos_side r.height o.height))

-- ---- other filters under the same word
-- as long as down stays 4 or stays another, and up is 0 off gpu 0
module _ (r : SuperOpts) (down up : ℤ) (same : is_nat down 4 ≡ is_nat r.scale_down 4) where
  filtered_word : word_of (filtered r down up) ≡ word_of r
  unfolding word_of
  filtered_word = rw same

  filtered_no : settings_no (filtered r down up) ≡ settings_no r
  unfolding settings_no
  filtered_no = rw same

  filtered_accepted : accepted r ≡ true → (is_nat r.gpu 0 || is_nat up 0) ≡ true → accepted (filtered r down up) ≡ true
  filtered_accepted e ok = let f = fine r e in fine_accepted (filtered r down up) (record { none = filtered_no ∙ f.none; up = ok; levels = f.levels })

pub four_or_not : (t : Bool) → is_nat (cond t (pos 4) (pos 0)) 4 ≡ t
four_or_not true = refl
four_or_not false = refl

canon_word : (r : SuperOpts) → word_of (canon r) ≡ word_of r
canon_word r = filtered_word r (cond (is_nat r.scale_down 4) (pos 4) (pos 0)) (pos 0) (four_or_not (is_nat r.scale_down 4))

pub canon_accepted : (r : SuperOpts) → accepted r ≡ true → accepted (canon r) ≡ true
canon_accepted r e = filtered_accepted r (cond (is_nat r.scale_down 4) (pos 4) (pos 0)) (pos 0) (four_or_not (is_nat r.scale_down 4)) e (or_yes (is_nat r.gpu 0))

-- ---- a code
pub packs_canon : (v : ℕ) (r : SuperOpts) → Packs v r → candidate v ≡ canon r
packs_canon v r p = ap candidate (sym p.word) ∙ decoded r p.good

pub packs_code : (v : ℕ) (r : SuperOpts) → Packs v r → is_code (candidate v) v ≡ true
unfolding is_code
packs_code v r p = rw (packs_canon v r p, canon_accepted r p.good) (eq-eqb (word_of (canon r)) v (canon_word r ∙ p.word))

four_fits : (t : Bool) → is_i32 (cond t (pos 0) (pos 4)) ≡ true
four_fits true = refl
four_fits false = refl

pub code_packs : (v : ℕ) → is_code (candidate v) v ≡ true → Packs v (candidate v)
unfolding candidate is_code
code_packs v e =
    let r = candidate v in
    record { down_fits = four_fits (is_set v 46); up_fits = refl; good = and_left (accepted r) (eqb (word_of r) v) e; word = eqb-true (word_of r) v (and_right (accepted r) (eqb (word_of r) v) e) }

-- other filters under the same word
pub filtered_packs : (v : ℕ) (r : SuperOpts) (down up : ℤ) → Packs v r → is_i32 down ≡ true → is_i32 up ≡ true → is_nat down 4 ≡ is_nat r.scale_down 4 → (is_nat r.gpu 0 || is_nat up 0) ≡ true → Packs v (filtered r down up)
filtered_packs v r down up p fd fu same ok =
    record { down_fits = fd; up_fits = fu; good = filtered_accepted r down up same p.good ok; word = filtered_word r down up same ∙ p.word }

-- ---- the number, by its three tests
abbrev pub halving : SuperOpts → Bool
halving r = down_matters r && not (is_nat r.scale_down 4)

abbrev pub upscale : SuperOpts → Bool
upscale r = up_matters r && is_nat r.gpu 0

abbrev pub number_by : Bool → Bool → Bool → ℕ
number_by c a b = refuse (not c) 20 then refuse a 21 then refuse b 22

pub read_by : (v : ℕ) → read_no v ≡ number_by (is_code (candidate v) v) (halving (candidate v)) (upscale (candidate v))
unfolding read_no
read_by v = refl

-- the three tests of each number
pub data Case : Bool → Bool → Bool → ℕ → Type 0 where
  none : {a b : Bool} → Case false a b 20
  open_down : {b : Bool} → Case true true b 21
  open_up : Case true false true 22
  named : Case true false false 0

case : (c a b : Bool) → Case c a b (number_by c a b)
case true true b = open_down
case true false true = open_up
case true false false = named
case false a b = none

pub read_case : (v : ℕ) → Case (is_code (candidate v) v) (halving (candidate v)) (upscale (candidate v)) (read_no v)
read_case v = rw (read_by v) (case (is_code (candidate v) v) (halving (candidate v)) (upscale (candidate v)))

at_20 : {c a b : Bool} {n : ℕ} → Case c a b n → n ≡ 20 → c ≡ false
at_20 none e = refl
at_20 open_down e = absurd (omega arith)
at_20 open_up e = absurd (omega arith)
at_20 named e = absurd (omega arith)

pub at_21 : {c a b : Bool} {n : ℕ} → Case c a b n → n ≡ 21 → (c ≡ true) × (a ≡ true)
at_21 none e = absurd (omega arith)
at_21 open_down e = (refl, refl)
at_21 open_up e = absurd (omega arith)
at_21 named e = absurd (omega arith)

pub at_22 : {c a b : Bool} {n : ℕ} → Case c a b n → n ≡ 22 → (c ≡ true) × (a ≡ false) × (b ≡ true)
at_22 none e = absurd (omega arith)
at_22 open_down e = absurd (omega arith)
at_22 open_up e = (refl, refl, refl)
at_22 named e = absurd (omega arith)

pub at_0 : {c a b : Bool} {n : ℕ} → Case c a b n → n ≡ 0 → (c ≡ true) × (a ≡ false) × (b ≡ false)
at_0 none e = absurd (omega arith)
at_0 open_down e = absurd (omega arith)
at_0 open_up e = absurd (omega arith)
at_0 named e = (refl, refl, refl)

-- ---- 20: "It answers "not a code" exactly if none packs to it"
pub none_exact : (v : ℕ) → (read_no v ≡ 20) ↔ ((r : SuperOpts) → Packs v r → ⊥)
none_exact v = (
  λ e r p. clash (is_code (candidate v) v) (packs_code v r p) (at_20 (read_case v) e),
  λ h. read_by v ∙ ap (λ (c : Bool). number_by c (halving (candidate v)) (upscale (candidate v))) (false_by (is_code (candidate v) v) (λ e. h (candidate v) (code_packs v e))),
)

-- ---- 0: "it then tells the width, .. they all have, and their down and up where document 01 says these matter"
tell_down : (m f : Bool) (z : ℤ) → is_nat z 4 ≡ f → (m && not (is_nat (cond f (pos 4) (pos 0)) 4)) ≡ false → then_some m (cond f (pos 4) (pos 0)) ≡ then_some m z
tell_down true true z e h = ap (then_some true) (sym (is_nat_pos z 4 e))
tell_down true false z e h = cc
tell_down false f z e h = refl

tell_up : (m g : Bool) (z : ℤ) → (g || is_nat z 0) ≡ true → (m && g) ≡ false → then_some m (pos 0) ≡ then_some m z
tell_up true true z e h = cc
tell_up true false z e h = ap (then_some true) (sym (is_nat_pos z 0 e))
tell_up false g z e h = refl

canon_told : (r : SuperOpts) → Fine r → halving (canon r) ≡ false → upscale (canon r) ≡ false → describe (canon r) ≡ describe r
canon_told r f a b = rw (tell_down (down_matters r) (is_nat r.scale_down 4) r.scale_down refl a, tell_up (up_matters r) (is_nat r.gpu 0) r.scale_up f.up b)

pub tells_exact : (v : ℕ) → read_no v ≡ 0 → (r : SuperOpts) → Packs v r → describe (candidate v) ≡ describe r
tells_exact v e r p =
    let known = at_0 (read_case v) e in
    let same = packs_canon v r p in
    ap describe same ∙ canon_told r (fine r p.good) (subst (λ (q : SuperOpts). halving q ≡ false) same known.1) (subst (λ (q : SuperOpts). upscale q ≡ false) same known.2)

-- ---- a record behind a word has down 4 exactly if the word spells it
pub canon_four : (v : ℕ) (r : SuperOpts) → Packs v r → is_nat (candidate v).scale_down 4 ≡ is_nat r.scale_down 4
canon_four v r p = ap (λ (q : SuperOpts). is_nat q.scale_down 4) (packs_canon v r p) ∙ four_or_not (is_nat r.scale_down 4)

-- no other number
pub only_exact : (v : ℕ) → (read_no v ≡ 0) ⊎ (read_no v ≡ 20) ⊎ (read_no v ≡ 21) ⊎ (read_no v ≡ 22)
only_exact v = of (read_case v)
  where
    of : {c a b : Bool} {n : ℕ} → Case c a b n → (n ≡ 0) ⊎ (n ≡ 20) ⊎ (n ≡ 21) ⊎ (n ≡ 22)
    of none = inr (inl refl)
    of open_down = inr (inr (inl refl))
    of open_up = inr (inr (inr refl))
    of named = inl refl

-- ---- what `Packs` is, by the calls' own answers: the check can return the record, and packing it gives the word
fits_by : (z : ℤ) (m : ℕ) → pos (to_nat z) ≡ z → to_nat z ≤ m → m < 2 ^ 31 → is_i32 z ≡ true
fits_by z m e le lt = ap is_i32 (sym e) ∙ lt-ltb (to_nat z) (2 ^ 31) (omega arith)

packs_fits : (v : ℕ) (r : SuperOpts) → Packs v r → RecordI32 r
packs_fits v r p =
    let o = sound r (fine r p.good).none in
    let b = within r p.good in
    record {
      pel = fits_by r.pel 4 (pos_pel r.pel o.pel) b.pel (omega arith);
      gpu = fits_by r.gpu 2 (pos_gpu r.gpu o.gpu) b.gpu (omega arith);
      down = p.down_fits;
      up = p.up_fits;
      levels = fits_by r.levels most_levels (pos_levels r p.good) b.levels (omega arith);
      width = fits_by r.width most_side (pos_side r.width o.width) b.width (omega arith);
      height = fits_by r.height most_side (pos_side r.height o.height) b.height (omega arith);
    }

pub packs_exact : (v : ℕ) (r : SuperOpts) → Packs v r ↔ (Returns r × (pack_answer r ≡ answer 0 v))
packs_exact v r = (
  λ p. ((accepted_exact r).0 (packs_fits v r p, p.good), sym (given (pack_no r) (word_of r) 0 (pack_none r p.good)) ∙ ap (answer 0) p.word),
  λ t.
      let back = (accepted_exact r).1 t.0 in
      record {
        down_fits = back.0.down;
        up_fits = back.0.up;
        good = back.1;
        word = ap (λ (a : Answer ℕ). a.value) (given (pack_no r) (word_of r) 0 (pack_none r back.1) ∙ t.1);
      },
)
