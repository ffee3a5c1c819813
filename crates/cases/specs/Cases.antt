-- What words of a case make: a number of two words, a record and a layout.
use Rattle.std.specs.Prelude.{ℕ, ℤ, Bool, List, ◌+◌, ◌*◌, ◌^◌, ◌==◌, not, slice_index}
use Rattle.std.specs.Int.{w32, cast_signed}
use Rattle.settings.specs.declared.super_opts.SuperOpts.{SuperOpts}
use Rattle.layouts.specs.declared.layout.Layout.{Layout}

abbrev pub long : ℕ → ℕ → ℕ
long high low = high * 2 ^ 32 + low

abbrev pub int_at : List ℕ → ℕ → ℤ
int_at words k = cast_signed w32 (slice_index words k)

abbrev pub bool_at : List ℕ → ℕ → Bool
bool_at words k = not (slice_index words k == 0)

-- pel gpu down up full rc lean levels width height
abbrev pub record_of : List ℕ → SuperOpts
record_of words =
    record {
      pel = int_at words 0;
      gpu = int_at words 1;
      scale_down = int_at words 2;
      scale_up = int_at words 3;
      full = bool_at words 4;
      rc = bool_at words 5;
      lean = bool_at words 6;
      levels = int_at words 7;
      width = int_at words 8;
      height = int_at words 9;
    }

-- A record, then the shifts and the pitch.
abbrev pub layout_of : List ℕ → Layout
layout_of words =
    record {
      opts = record_of words;
      x_shift = slice_index words 10;
      y_shift = slice_index words 11;
      pitch = long (slice_index words 12) (slice_index words 13);
    }
