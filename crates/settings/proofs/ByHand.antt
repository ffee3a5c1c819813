-- Document 01, "Checked by hand": its entries on reducing, levels and the default word, computed. Assumes nothing.
use Rattle.std.specs.Prelude.{None}
use mathlib.Core.Path.{◌≡◌, refl}
use mathlib.Core.List.{List, [], ◌∷◌}
use Prim.Native.Nat.{ℕ}
use lib.IntN.{pos}
use Rattle.settings.specs.declared.super_opts.Settings.{Settings}
use Rattle.settings.specs.Sizes.{reduced, levels_in, auto_levels}
use Rattle.settings.specs.Check.{settled, settings_no, accepted}
use Rattle.settings.specs.Word.{word_of}
use Rattle.settings.specs.Answers.{check_answer, pack_answer}

defaults : Settings
defaults = record { pel = None; gpu = None; down = None; up = None; full = None; rc = None; lean = None }

pub computed : List ℕ
unfolding reduced levels_in settled settings_no accepted word_of defaults
computed =
    let r = check_answer defaults (pos 64) (pos 48) in
    reduced 48 1
    ∷ reduced 48 2
    ∷ reduced 48 3
    ∷ reduced 48 4
    ∷ auto_levels 64 48
    ∷ auto_levels 3 100
    ∷ auto_levels 4 4
    ∷ auto_levels 16384 16384
    ∷ r.no
    ∷ (pack_answer r.value).no
    ∷ (pack_answer r.value).value
    ∷ []

-- "48 reduces to 24, 12, 6, 2; levels of 64x48 are 4, of 3x100 0, of 4x4 1, of 16,384 square 13; .. its default word is the first above"
pub said : List ℕ
said = 24 ∷ 12 ∷ 6 ∷ 2 ∷ 4 ∷ 0 ∷ 1 ∷ 13 ∷ 0 ∷ 0 ∷ 0x0001040200400030 ∷ []

pub by_hand : computed ≡ said
unfolding computed said reduced levels_in settled settings_no accepted word_of defaults
by_hand = refl
