-- Document 01, "Checked by hand": its entry on the layout, computed; "target width 8 fuses, 7 and 10 don't"; and the whole table, with the entries of the crates below. Assumes nothing.
use mathlib.Core.Path.{◌≡◌, refl}
use mathlib.Core.Bool.{Bool, true, false}
use mathlib.Core.List.{List, [], ◌∷◌}
use Prim.Native.Nat.{ℕ}
use lib.IntN.{pos}
use Rattle.settings.specs.Numbers.{total}
use Rattle.settings.specs.Sizes.{reduced, levels_in}
use Rattle.settings.specs.Check.{settings_no, accepted}
use Rattle.settings.proofs.ByHand.{computed as sizesComputed, said as sizesSaid, by_hand as sizes-by-hand}
use Rattle.filters.proofs.ByHand.{ByHand as Rows, by_hand as rows-by-hand}
use Rattle.filters.specs.Row.{tab}
use Rattle.layouts.specs.declared.layout.Layout.{Layout}
use Rattle.layouts.specs.Layout.{offset_at}
use Rattle.layouts.specs.Margins.{cubic_fits, fused_at}
use Rattle.layouts.specs.Refusals.{layout_no}
use Rattle.stored.specs.Layout.{stored_of, same_numbers, is_stored}
use Rattle.stored.specs.Refusals.{stored_no}
use Rattle.stored.specs.Answers.{layout_answer}
use Rattle.lookups.specs.Refusals.{frame_no}
use Rattle.lookups.specs.Answers.{end_answer}

-- a plane of w by h, full or not, with the other settings left out
unfoldable pub plane : ℕ → Bool → ℕ → ℕ → ℕ → ℕ → ℕ → Layout
plane pel full w h levels shift pitch =
    record {
      opts = record {
        pel = pos pel;
        gpu = pos 1;
        scale_down = pos 4;
        scale_up = pos 0;
        full = full;
        rc = false;
        lean = false;
        levels = pos levels;
        width = pos w;
        height = pos h;
      };
      x_shift = shift;
      y_shift = 0;
      pitch = pitch;
    }

pub computed : List ℕ
unfolding plane layout_no stored_no frame_no is_stored same_numbers stored_of tab accepted settings_no levels_in reduced offset_at total
computed =
    let q = plane 2 true 64 48 4 0 64 in
    let s = (layout_answer q).value in
    offset_at q 1
    ∷ (end_answer q.opts s).no
    ∷ (end_answer q.opts s).value
    ∷ frame_no q.opts s 14976
    ∷ frame_no q.opts s 14975
    ∷ []

-- "64x48 at pel 2, pitch 64 puts level 1 at 12,288 and ends at 14,976"; "frame 14,975 bytes gives 11"
pub said : List ℕ
said = 12288 ∷ 0 ∷ 14976 ∷ 0 ∷ 11 ∷ []

pub by_hand : computed ≡ said
unfolding computed said plane layout_no stored_no frame_no is_stored same_numbers stored_of tab accepted settings_no levels_in reduced offset_at total
by_hand = refl

-- level 1 is 8, 7 and 10 wide
pub fuses : List Bool
unfolding plane fused_at cubic_fits reduced offset_at total
fuses =
    fused_at (plane 2 true 16 16 3 0 32) 3000 1
    ∷ fused_at (plane 2 true 28 16 3 1 32) 3000 1
    ∷ fused_at (plane 2 true 20 16 3 0 32) 3000 1
    ∷ []

pub fuses_said : fuses ≡ (true ∷ false ∷ false ∷ [])
unfolding fuses plane fused_at cubic_fits reduced offset_at total
fuses_said = refl

-- ---- the table
pub record Table : Type 0 where
  -- reducing, levels, the default word
  pub sizes : sizesComputed ≡ sizesSaid
  -- means, kernels, a halved row
  pub rows : Rows
  pub layout : computed ≡ said
  pub widths : fuses ≡ (true ∷ false ∷ false ∷ [])

pub table : Table
table = record { sizes = sizes-by-hand; rows = rows-by-hand; layout = by_hand; widths = fuses_said }
