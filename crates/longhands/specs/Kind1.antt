-- Document 02, order 1: the body of a longhand record of kind 1, what stands after length and kind: "width and height (2 each), pel, gpu, flags (1 each; bit 0 full, 1 rc, 2 lean), down and up (4 each, signed)".
use Rattle.std.specs.Prelude.{ℕ, ◌+◌, ◌*◌, Bool, ◌&&◌, List, ◌++◌, ltb, pos}
use Rattle.settings.specs.declared.super_opts.SuperOpts.{SuperOpts}
use Rattle.settings.specs.Numbers.{to_nat, bit, bits_of, of_bits}
use Rattle.settings.specs.Sizes.{auto_levels}
use Rattle.settings.specs.Check.{accepted, pel_of, luma_w, luma_h}
use Rattle.settings.specs.Reading.{is_set}
use Rattle.longhands.specs.LittleEndian.{little_endian, number_at}

-- "Length is 17": two bytes of the kind, and the body
abbrev pub kind1_length : ℕ
kind1_length = 17

-- ---- the body of a record
abbrev pub flags_of : SuperOpts → ℕ
flags_of r = bit r.full + 2 * bit r.rc + 4 * bit r.lean

unfoldable pub kind1_body : SuperOpts → List ℕ
kind1_body r =
    little_endian 2 (luma_w r)
    ++ little_endian 2 (luma_h r)
    ++ little_endian 1 (pel_of r)
    ++ little_endian 1 (to_nat r.gpu)
    ++ little_endian 1 (flags_of r)
    ++ little_endian 4 (bits_of r.scale_down)
    ++ little_endian 4 (bits_of r.scale_up)

-- ---- the record that a body spells, with the levels of its size
abbrev pub flags_at : List ℕ → ℕ
flags_at b = number_at b 6 1

unfoldable pub kind1_record : List ℕ → SuperOpts
kind1_record b =
    record {
      pel = pos (number_at b 4 1);
      gpu = pos (number_at b 5 1);
      scale_down = of_bits (number_at b 7 4);
      scale_up = of_bits (number_at b 11 4);
      full = is_set (flags_at b) 0;
      rc = is_set (flags_at b) 1;
      lean = is_set (flags_at b) 2;
      levels = pos (auto_levels (number_at b 0 2) (number_at b 2 2));
      width = pos (number_at b 0 2);
      height = pos (number_at b 2 2);
    }

-- what 18 denies: an accepted record, and no flag but the three that are used
abbrev pub kind1_good : List ℕ → Bool
kind1_good b = accepted (kind1_record b) && ltb (flags_at b) 8
