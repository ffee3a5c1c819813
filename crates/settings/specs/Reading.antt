-- Document 01, "Words read and compared": which build a word names, or what it doesn't tell.
-- That reading meets demand 3 is proved in crate demands, over the bytes that builds leave.
use Rattle.std.specs.Prelude.{ℕ, ◌%◌, ◌^◌, ◌≡◌, Bool, true, cond, not, ◌&&◌, leb, ltb, eqb, pos}
use Rattle.std.specs.Bool.{then_some}
use Rattle.settings.specs.declared.super_opts.SuperOpts.{SuperOpts}
use Rattle.settings.specs.declared.word.Description.{Description}
use Rattle.settings.specs.Numbers.{is_nat, to_nat, is_i32, refuse, ◌then◌}
use Rattle.settings.specs.Check.{accepted, pel_of, level_count}
use Rattle.settings.specs.Word.{word_of, bits}

-- ---- the record that v spells, with 0 for a filter that v does not name
abbrev pub is_set : ℕ → ℕ → Bool
is_set v i = eqb (bits v i 1) 1

unfoldable pub candidate : ℕ → SuperOpts
candidate v =
    record {
      pel = pos (bits v 32 8);
      gpu = pos (bits v 48 8);
      scale_down = cond (is_set v 46) (pos 0) (pos 4);
      scale_up = pos 0;
      full = not (is_set v 57);
      rc = is_set v 56;
      lean = is_set v 47;
      levels = pos (bits v 40 6);
      width = pos (bits v 16 16);
      height = pos (bits v 0 16);
    }

-- ---- "Up matters if pel > 1, gpu < 2, full and levels >= 1; down if levels >= 2"
abbrev pub up_matters : SuperOpts → Bool
up_matters r = ltb 1 (pel_of r) && ltb (to_nat r.gpu) 2 && r.full && leb 1 (level_count r)

abbrev pub down_matters : SuperOpts → Bool
down_matters r = leb 2 (level_count r)

-- ---- the number
-- the word is a code if the record that it spells is accepted and packs to it
unfoldable pub is_code : SuperOpts → ℕ → Bool
is_code r v = accepted r && eqb (word_of r) v

-- a code leaves the halving filter open where down matters and isn't 4, and the upscale filter where up matters and gpu is 0; "if both hold, halving is named"
unfoldable pub read_no : ℕ → ℕ
read_no v =
    let r = candidate v in
    refuse (not (is_code r v)) 20
    then refuse (down_matters r && not (is_nat r.scale_down 4)) 21
    then refuse (up_matters r && is_nat r.gpu 0) 22

-- ---- what a code tells: "the width, height, pel, levels, gpu, full, rc and lean .., and .. down and up where document 01 says these matter"
abbrev pub describe : SuperOpts → Description
describe r =
    record {
      width = r.width;
      height = r.height;
      pel = r.pel;
      levels = r.levels;
      gpu = r.gpu;
      full = r.full;
      rc = r.rc;
      lean = r.lean;
      down = then_some (down_matters r) r.scale_down;
      up = then_some (up_matters r) r.scale_up;
    }

-- ---- the records behind a word
-- an accepted record, of i32 filters, that packs to v
pub record Packs (v : ℕ) (r : SuperOpts) : Type 0 where
  pub down_fits : is_i32 r.scale_down ≡ true
  pub up_fits : is_i32 r.scale_up ≡ true
  pub good : accepted r ≡ true
  pub word : word_of r ≡ v

-- ---- "Two words prepare alike if both name one build and they agree in all but rc and lean"
-- all bits but 47, lean's, and 56, rc's
abbrev pub agree : ℕ → ℕ → Bool
agree a b = eqb (a % 2 ^ 47) (b % 2 ^ 47) && eqb (bits a 48 8) (bits b 48 8) && eqb (bits a 57 7) (bits b 57 7)

unfoldable pub alike : ℕ → ℕ → Bool
alike a b = eqb (read_no a) 0 && eqb (read_no b) 0 && agree a b
