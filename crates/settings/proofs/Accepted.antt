-- Accepted records: what acceptance says of each field, and that it holds exactly of the records that the check can return.
-- First `fine`, what the test is made of; number 6; then `sound`, what the numbers 1 to 5 leave; bounds of the fields; and last `accepted_exact`. Assumes nothing.
use Rattle.std.specs.Prelude.{Option, Some, None, unwrap_or}
use mathlib.Core.Path.{◌≡◌, refl, sym, ap, ◌∙◌, subst}
use mathlib.Core.Logic.{◌↔◌, ⊎_elim}
use mathlib.Core.Bool.{Bool, true, false, cond, not, ◌&&◌, ◌||◌}
use Prim.Native.Nat.{ℕ, ◌≤◌, ◌^◌}
use native.Mathlib.Omega.{arith}
use lib.Dec.{eqb, leb}
use lib.IntN.{ℤ, pos, negsuc}
use borrow.Author.Tests.{eqb-true, eq-eqb, leb-true, lt-ltb, not-false}
use Rattle.settings.specs.declared.super_opts.Settings.{Settings}
use Rattle.settings.specs.declared.super_opts.SuperOpts.{SuperOpts}
use Rattle.settings.specs.Limits.{most_side, most_levels}
use Rattle.settings.specs.Numbers.{is_nat, to_nat, is_i32, refuse, ◌then◌}
use Rattle.settings.specs.Sizes.{auto_levels}
use Rattle.settings.specs.Check.{settled, is_pel, is_gpu, no_finest, bad_lean, is_side, settings_no, pel_of, luma_w, luma_h, level_count, accepted, record_no, opt_i32, SettingsI32, RecordI32}
use Rattle.settings.specs.Inner.{accepted_but_levels}
use Rattle.settings.specs.Answers.{Answer, answer, if_done, no_record, check_answer, Returns}
use Rattle.settings.proofs.Tests.{and_left, and_right, and_yes, or_cases, or_false_left, or_false_right}
use Rattle.settings.proofs.Refusals.{then_first, then_rest, refuse_not}
use Rattle.settings.proofs.Levels.{levels_small}
use Rattle.settings.proofs.Known.{given}

pub is_nat_pos : (z : ℤ) (n : ℕ) → is_nat z n ≡ true → z ≡ pos n
is_nat_pos (pos a) n e = ap pos (eqb-true a n e)
is_nat_pos (negsuc a) n e = cc

-- ---- what the test is made of
pub record Fine (r : SuperOpts) : Type 0 where
  pub none : settings_no r ≡ 0
  pub up : (is_nat r.gpu 0 || is_nat r.scale_up 0) ≡ true
  pub levels : r.levels ≡ pos (auto_levels (luma_w r) (luma_h r))

pub fine : (r : SuperOpts) → accepted r ≡ true → Fine r
unfolding accepted
fine r e =
    let a = eqb (settings_no r) 0 in
    let b = is_nat r.gpu 0 || is_nat r.scale_up 0 in
    let l = is_nat r.levels (auto_levels (luma_w r) (luma_h r)) in
    let ab = and_left (a && b) l e in
    record {
      none = eqb-true (settings_no r) 0 (and_left a b ab);
      up = and_right a b ab;
      levels = is_nat_pos r.levels (auto_levels (luma_w r) (luma_h r)) (and_right (a && b) l e);
    }

pub fine_accepted : (r : SuperOpts) → Fine r → accepted r ≡ true
unfolding accepted
fine_accepted r f = rw (f.none, f.up, f.levels) (eq-eqb (auto_levels (luma_w r) (luma_h r)) (auto_levels (luma_w r) (luma_h r)) refl)

-- a record whose levels are those of its size
pub but_levels_accepted : (r : SuperOpts) → r.levels ≡ pos (auto_levels (luma_w r) (luma_h r)) → accepted_but_levels r ≡ accepted r
unfolding accepted
but_levels_accepted r e =
    let n = auto_levels (luma_w r) (luma_h r) in
    let rest = accepted_but_levels r in
    sym (ap (λ (z : ℤ). rest && is_nat z n) e ∙ ap (λ (t : Bool). rest && t) (eq-eqb n n refl) ∙ and_yes rest)

-- ---- number 6
-- `t` is what a call of `accepted` gave
pub no_record_lem : (r : SuperOpts) (t : Bool) → t ≡ accepted r → not t ≡ true → 6 ≡ record_no r
no_record_lem r t e n = rw (← e, n)

pub is_record_lem : (r : SuperOpts) (t : Bool) → t ≡ accepted r → not t ≡ false → accepted r ≡ true
is_record_lem r t e n = sym e ∙ not-false t n

pub record_none : (r : SuperOpts) → accepted r ≡ true → record_no r ≡ 0
record_none r e = rw e

-- ---- what the numbers 1 to 5 leave
pub record Sound (r : SuperOpts) : Type 0 where
  pub pel : is_pel r.pel ≡ true
  pub gpu : is_gpu r.gpu ≡ true
  pub finest : no_finest r ≡ false
  pub lean : bad_lean r ≡ false
  pub width : is_side r.width ≡ true
  pub height : is_side r.height ≡ true

pub sound : (r : SuperOpts) → settings_no r ≡ 0 → Sound r
unfolding settings_no
sound r e =
    let t1 = not (is_pel r.pel) in
    let t2 = not (is_gpu r.gpu) in
    let t3 = no_finest r in
    let t4 = bad_lean r in
    let t5 = not (is_side r.width) || not (is_side r.height) in
    let r4 = then_first (refuse t1 1 then refuse t2 2 then refuse t3 3 then refuse t4 4) (refuse t5 5) e in
    let r3 = then_first (refuse t1 1 then refuse t2 2 then refuse t3 3) (refuse t4 4) r4 in
    let r2 = then_first (refuse t1 1 then refuse t2 2) (refuse t3 3) r3 in
    let n5 = refuse_not t5 4 (then_rest (refuse t1 1 then refuse t2 2 then refuse t3 3 then refuse t4 4) (refuse t5 5) e) in
    record {
      pel = not-false (is_pel r.pel) (refuse_not t1 0 (then_first (refuse t1 1) (refuse t2 2) r2));
      gpu = not-false (is_gpu r.gpu) (refuse_not t2 1 (then_rest (refuse t1 1) (refuse t2 2) r2));
      finest = refuse_not t3 2 (then_rest (refuse t1 1 then refuse t2 2) (refuse t3 3) r3);
      lean = refuse_not t4 3 (then_rest (refuse t1 1 then refuse t2 2 then refuse t3 3) (refuse t4 4) r4);
      width = not-false (is_side r.width) (or_false_left (not (is_side r.width)) (not (is_side r.height)) n5);
      height = not-false (is_side r.height) (or_false_right (not (is_side r.width)) (not (is_side r.height)) n5);
    }

-- ---- bounds
-- one of three numbers, each at most m
three_small : (z : ℤ) (a b c m : ℕ) → a ≤ m → b ≤ m → c ≤ m → (is_nat z a || is_nat z b || is_nat z c) ≡ true → to_nat z ≤ m
three_small z a b c m p q r e = ⊎_elim (λ h. ⊎_elim (λ k. is a k p) (λ k. is b k q) (or_cases (is_nat z a) (is_nat z b) h)) (λ k. is c k r) (or_cases (is_nat z a || is_nat z b) (is_nat z c) e)
  where
    is : (n : ℕ) → is_nat z n ≡ true → n ≤ m → to_nat z ≤ m
    is n k le = omega (arith, ap to_nat (is_nat_pos z n k))

pel_small : (z : ℤ) → is_pel z ≡ true → to_nat z ≤ 4
pel_small z e = three_small z 1 2 4 4 (omega arith) (omega arith) (omega arith) e

gpu_small : (z : ℤ) → is_gpu z ≡ true → to_nat z ≤ 2
gpu_small z e = three_small z 0 1 2 2 (omega arith) (omega arith) (omega arith) e

side_small : (z : ℤ) → is_side z ≡ true → to_nat z ≤ most_side
side_small (pos n) e = leb-true n most_side (and_right (leb 1 n) (leb n most_side) e)
side_small (negsuc n) e = omega arith

-- "levels of an accepted record are at most 13"
pub levels_most : (r : SuperOpts) → accepted r ≡ true → level_count r ≤ most_levels
levels_most r e =
    let f = fine r e in
    let small = side_small r.width (sound r f.none).width in
    omega (arith, ap to_nat f.levels, levels_small most_levels (luma_w r) (luma_w r) (luma_h r) (omega arith))

pub record Bounded (r : SuperOpts) : Type 0 where
  pub pel : pel_of r ≤ 4
  pub gpu : to_nat r.gpu ≤ 2
  pub width : luma_w r ≤ most_side
  pub height : luma_h r ≤ most_side
  pub levels : level_count r ≤ most_levels

pub within : (r : SuperOpts) → accepted r ≡ true → Bounded r
within r e =
    let s = sound r (fine r e).none in
    record {
      pel = pel_small r.pel s.pel;
      gpu = gpu_small r.gpu s.gpu;
      width = side_small r.width s.width;
      height = side_small r.height s.height;
      levels = levels_most r e;
    }

-- ---- fields that are numbers
pub pos_pel : (z : ℤ) → is_pel z ≡ true → pos (to_nat z) ≡ z
pos_pel (pos n) e = refl
pos_pel (negsuc n) e = cc

pub pos_gpu : (z : ℤ) → is_gpu z ≡ true → pos (to_nat z) ≡ z
pos_gpu (pos n) e = refl
pos_gpu (negsuc n) e = cc

pub pos_side : (z : ℤ) → is_side z ≡ true → pos (to_nat z) ≡ z
pos_side (pos n) e = refl
pos_side (negsuc n) e = cc

pub pos_levels : (r : SuperOpts) → accepted r ≡ true → pos (level_count r) ≡ r.levels
pos_levels r e = let l = (fine r e).levels in ap pos (ap to_nat l) ∙ sym l

-- a size of an accepted record
pub sizes : (r : SuperOpts) (z : ℤ) (n : ℕ) → accepted r ≡ true → z ≡ pos n → answer 0 z ≡ if_done (record_no r) (pos n) (pos 0)
sizes r z n e size = ap (answer 0) size ∙ given (record_no r) (pos n) (pos 0) (record_none r e)

-- ---- "An accepted record is one this check can return for some settings and size"
-- all settings present, as the record has them
abbrev pub spelled : SuperOpts → Settings
spelled r =
    record {
      pel = Some r.pel;
      gpu = Some r.gpu;
      down = Some r.scale_down;
      up = Some r.scale_up;
      full = Some r.full;
      rc = Some r.rc;
      lean = Some r.lean;
    }

up_held : (g : Bool) (z : ℤ) → (g || is_nat z 0) ≡ true → cond g z (pos 0) ≡ z
up_held true z e = refl
up_held false z e = sym (is_nat_pos z 0 e)

respelled : (r : SuperOpts) → Fine r → settled (spelled r) r.width r.height ≡ r
unfolding settled
respelled r f = rw (up_held (is_nat r.gpu 0) r.scale_up f.up, ← f.levels)

-- the check's own answer for the record's own settings and size
pub returned : (r : SuperOpts) → accepted r ≡ true → check_answer (spelled r) r.width r.height ≡ answer 0 r
returned r e = let f = fine r e in ap (λ (x : SuperOpts). if_done (settings_no x) x no_record) (respelled r f) ∙ sym (given (settings_no r) r no_record f.none)

up_zero : (g : Bool) (z : ℤ) → (g || is_nat (cond g z (pos 0)) 0) ≡ true
up_zero true z = refl
up_zero false z = refl

settled_fine : (s : Settings) (w h : ℤ) → settings_no (settled s w h) ≡ 0 → Fine (settled s w h)
unfolding settled
settled_fine s w h e = record { none = e; up = up_zero (is_nat (unwrap_or s.gpu (pos 1)) 0) (unwrap_or s.up (pos 2)); levels = refl }

int_fits : (o : Option ℤ) (d : ℤ) → opt_i32 o ≡ true → is_i32 d ≡ true → is_i32 (unwrap_or o d) ≡ true
int_fits (Some z) d e f = e
int_fits None d e f = f

cond_fits : (t : Bool) (z : ℤ) → is_i32 z ≡ true → is_i32 (cond t z (pos 0)) ≡ true
cond_fits true z e = e
cond_fits false z e = refl

settled_fits : (s : Settings) (w h : ℤ) → SettingsI32 s → is_i32 w ≡ true → is_i32 h ≡ true → auto_levels (luma_w (settled s w h)) (luma_h (settled s w h)) ≤ most_levels → RecordI32 (settled s w h)
unfolding settled
settled_fits s w h f fw fh few =
    record {
      pel = int_fits s.pel (pos 2) f.pel refl;
      gpu = int_fits s.gpu (pos 1) f.gpu refl;
      down = int_fits s.down (pos 4) f.down refl;
      up = cond_fits (is_nat (unwrap_or s.gpu (pos 1)) 0) (unwrap_or s.up (pos 2)) (int_fits s.up (pos 2) f.up refl);
      levels = lt-ltb (auto_levels (to_nat w) (to_nat h)) (2 ^ 31) (omega arith);
      width = fw;
      height = fh;
    }

pub accepted_exact : (r : SuperOpts) → (RecordI32 r × (accepted r ≡ true)) ↔ Returns r
accepted_exact r = (
  λ t.
      record {
        settings = spelled r;
        width = r.width;
        height = r.height;
        settings_fit = record { pel = t.0.pel; gpu = t.0.gpu; down = t.0.down; up = t.0.up };
        width_fits = t.0.width;
        height_fits = t.0.height;
        answers = returned r t.1;
      },
  λ t.
      let s = settled t.settings t.width t.height in
      let none : settings_no s ≡ 0 = ap (λ (a : Answer SuperOpts). a.no) t.answers in
      let same : s ≡ r = ap (λ (a : Answer SuperOpts). a.value) (given (settings_no s) s no_record none ∙ t.answers) in
      let ok = fine_accepted s (settled_fine t.settings t.width t.height none) in
      (subst RecordI32 same (settled_fits t.settings t.width t.height t.settings_fit t.width_fits t.height_fits (few s ok)), ap accepted (sym same) ∙ ok),
)
  where
    few : (s : SuperOpts) → accepted s ≡ true → auto_levels (luma_w s) (luma_h s) ≤ most_levels
    few s e = omega (arith, ap to_nat (fine s e).levels, levels_most s e)
