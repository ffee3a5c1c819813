-- Document 02's longhand record, written out. Assumes nothing.
use mathlib.Core.Path.{◌≡◌, refl}
use mathlib.Core.Bool.{true, false}
use mathlib.Core.List.{List, [], ◌∷◌}
use Prim.Native.Nat.{ℕ}
use lib.IntN.{pos, negsuc}
use Rattle.settings.specs.declared.super_opts.SuperOpts.{SuperOpts}
use Rattle.settings.specs.Sizes.{levels_in}
use Rattle.settings.specs.Check.{settings_no, accepted}
use Rattle.settings.specs.Answers.{no_record}
use Rattle.longhands.specs.LittleEndian.{little_endian, value_of}
use Rattle.longhands.specs.Kind1.{kind1_body, kind1_record}
use Rattle.longhands.specs.Longhand.{length_no, longhand_no, longhand_of}

-- ---- document 02, order 1: the longhand of 64x48 with defaults but down -2, byte by byte
abbrev written : SuperOpts
written =
    record {
      pel = pos 2;
      gpu = pos 1;
      scale_down = negsuc 1;
      scale_up = pos 0;
      full = true;
      rc = false;
      lean = false;
      levels = pos 4;
      width = pos 64;
      height = pos 48;
    }

pub longhand_by_hand : longhand_of written ≡ 17 ∷ 0 ∷ 0 ∷ 0 ∷ 1 ∷ 0 ∷ 64 ∷ 0 ∷ 48 ∷ 0 ∷ 2 ∷ 1 ∷ 1 ∷ 254 ∷ 255 ∷ 255 ∷ 255 ∷ 0 ∷ 0 ∷ 0 ∷ 0 ∷ []
unfolding little_endian kind1_body
longhand_by_hand = refl

-- the numbers, in their order: 15 short of the length field, 15 short of the length, 17 with no kind to read, 16 whatever the length, 17 for kind 1, 18 for a record of zeros, 0
pub numbers : List ℕ
unfolding little_endian value_of kind1_body kind1_record length_no longhand_no levels_in settings_no accepted
numbers =
    longhand_no (17 ∷ 0 ∷ 0 ∷ [])
    ∷ longhand_no (17 ∷ 0 ∷ 0 ∷ 0 ∷ 9 ∷ 0 ∷ [])
    ∷ longhand_no (1 ∷ 0 ∷ 0 ∷ 0 ∷ 9 ∷ [])
    ∷ longhand_no (3 ∷ 0 ∷ 0 ∷ 0 ∷ 9 ∷ 0 ∷ 5 ∷ [])
    ∷ longhand_no (3 ∷ 0 ∷ 0 ∷ 0 ∷ 1 ∷ 0 ∷ 5 ∷ [])
    ∷ longhand_no (longhand_of no_record)
    ∷ longhand_no (longhand_of written)
    ∷ []

pub numbers_by_hand : numbers ≡ 15 ∷ 15 ∷ 17 ∷ 16 ∷ 17 ∷ 18 ∷ 0 ∷ []
unfolding numbers little_endian value_of kind1_body kind1_record length_no longhand_no levels_in settings_no accepted
numbers_by_hand = refl
