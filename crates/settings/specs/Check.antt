-- Document 01, "Settings and sizes": the settings check, what it can return, and the super sizes of a record.
use Rattle.std.specs.Prelude.{ℕ, ◌+◌, ◌*◌, ◌-◌, ◌/◌, ◌%◌, max, ◌≡◌, Bool, true, false, cond, not, ◌&&◌, ◌||◌, leb, ltb, eqb, ℤ, pos, negsuc, Option, Some, None, unwrap_or}
use Rattle.settings.specs.declared.super_opts.Settings.{Settings}
use Rattle.settings.specs.declared.super_opts.SuperOpts.{SuperOpts}
use Rattle.settings.specs.declared.super_opts.Naturals.{Naturals}
use Rattle.settings.specs.Limits.{most_side}
use Rattle.settings.specs.Numbers.{is_nat, to_nat, is_i32, refuse, ◌then◌, total}
use Rattle.settings.specs.Sizes.{reduce, reduced, auto_levels}

-- ---- "Each setting is present or absent, as an i32 or a bool."
-- "If gpu isn't 0, up becomes 0."
abbrev pub up_by : ℤ → ℤ → ℤ
up_by gpu up = cond (is_nat gpu 0) up (pos 0)

-- "Defaults: pel 2, gpu 1, down 4, up 2, full yes, rc no, lean no."
unfoldable pub settled : Settings → ℤ → ℤ → SuperOpts
settled s w h =
    let gpu = unwrap_or s.gpu (pos 1) in
    record {
      pel = unwrap_or s.pel (pos 2);
      gpu = gpu;
      scale_down = unwrap_or s.down (pos 4);
      scale_up = up_by gpu (unwrap_or s.up (pos 2));
      full = unwrap_or s.full true;
      rc = unwrap_or s.rc false;
      lean = unwrap_or s.lean false;
      levels = pos (auto_levels (to_nat w) (to_nat h));
      width = w;
      height = h;
    }

-- ---- numbers 1 to 5
-- "pel isn't 1, 2 or 4"
abbrev pub is_pel : ℤ → Bool
is_pel z = is_nat z 1 || is_nat z 2 || is_nat z 4

-- "gpu isn't 0, 1 or 2"
abbrev pub is_gpu : ℤ → Bool
is_gpu z = is_nat z 0 || is_nat z 1 || is_nat z 2

-- "pel 2 or 4, and not full"
abbrev pub no_finest : SuperOpts → Bool
no_finest r = (is_nat r.pel 2 || is_nat r.pel 4) && not r.full

-- "lean, and pel above 2, gpu not 1, not full or down not 4"
abbrev pub bad_lean : SuperOpts → Bool
bad_lean r = r.lean && (ltb 2 (to_nat r.pel) || not (is_nat r.gpu 1) || not r.full || not (is_nat r.scale_down 4))

-- "width or height outside 1 to 16,384"
abbrev pub is_side : ℤ → Bool
is_side (pos n) = leb 1 n && leb n most_side
is_side (negsuc n) = false

-- the number of a record's values
unfoldable pub settings_no : SuperOpts → ℕ
settings_no r =
    refuse (not (is_pel r.pel)) 1
    then refuse (not (is_gpu r.gpu)) 2
    then refuse (no_finest r) 3
    then refuse (bad_lean r) 4
    then refuse (not (is_side r.width) || not (is_side r.height)) 5

-- ---- a record's numbers
abbrev pub pel_of : SuperOpts → ℕ
pel_of r = to_nat r.pel

abbrev pub luma_w : SuperOpts → ℕ
luma_w r = to_nat r.width

abbrev pub luma_h : SuperOpts → ℕ
luma_h r = to_nat r.height

abbrev pub level_count : SuperOpts → ℕ
level_count r = to_nat r.levels

abbrev pub naturals_of : SuperOpts → Naturals
naturals_of r = record { pel = pel_of r; gpu = to_nat r.gpu; levels = level_count r; width = luma_w r; height = luma_h r }

-- ---- accepted records
-- "An accepted record is one this check can return for some settings and size, levels by the rule below." That this test says so is `accepted_exact` of proofs/Accepted.antt
unfoldable pub accepted : SuperOpts → Bool
accepted r = eqb (settings_no r) 0 && (is_nat r.gpu 0 || is_nat r.scale_up 0) && is_nat r.levels (auto_levels (luma_w r) (luma_h r))

-- "a record handed in is no accepted record"
abbrev pub record_no : SuperOpts → ℕ
record_no r = refuse (not (accepted r)) 6

-- every setting and every field is an i32
abbrev pub opt_i32 : Option ℤ → Bool
opt_i32 (Some z) = is_i32 z
opt_i32 None = true

pub record SettingsI32 (s : Settings) : Type 0 where
  pub pel : opt_i32 s.pel ≡ true
  pub gpu : opt_i32 s.gpu ≡ true
  pub down : opt_i32 s.down ≡ true
  pub up : opt_i32 s.up ≡ true

pub record RecordI32 (r : SuperOpts) : Type 0 where
  pub pel : is_i32 r.pel ≡ true
  pub gpu : is_i32 r.gpu ≡ true
  pub down : is_i32 r.scale_down ≡ true
  pub up : is_i32 r.scale_up ≡ true
  pub levels : is_i32 r.levels ≡ true
  pub width : is_i32 r.width ≡ true
  pub height : is_i32 r.height ≡ true

-- ---- super height and width
abbrev pub upward : ℕ → ℕ → ℕ
upward n d = (n + d - 1) / d

abbrev pub raised_to_even : ℕ → ℕ
raised_to_even n = n + n % 2

-- "if full, pel * pel * H plus the reduced heights of levels 1 and up"
unfoldable pub full_height : ℕ → ℕ → ℕ → ℕ
full_height h pel levels = pel * pel * h + total (λ i. reduced h (i + 1)) (levels - 1)

-- "else W * H / 2 (floor) divided upward by max(1, W reduced once), raised to even"
unfoldable pub packed_height : ℕ → ℕ → ℕ
packed_height w h = raised_to_even (upward (w * h / 2) (max 1 (reduce w)))

-- "2 if lean"
unfoldable pub super_height : SuperOpts → ℕ
super_height r = cond r.lean 2 (cond r.full (full_height (luma_h r) (pel_of r) (level_count r)) (packed_height (luma_w r) (luma_h r)))

-- "W if full, else W reduced once"
abbrev pub super_width : SuperOpts → ℕ
super_width r = cond r.full (luma_w r) (reduce (luma_w r))
