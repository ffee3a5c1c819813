-- Document 01, "Settings and sizes", the word of a record.
use Rattle.std.specs.Prelude.{ℕ, ◌+◌, ◌*◌, ◌/◌, ◌%◌, ◌^◌, not, ltb}
use Rattle.settings.specs.declared.super_opts.SuperOpts.{SuperOpts}
use Rattle.settings.specs.Limits.{most_packed}
use Rattle.settings.specs.Numbers.{is_nat, to_nat, bit, refuse, ◌then◌}
use Rattle.settings.specs.Check.{record_no, pel_of, luma_w, luma_h, level_count}

-- "from bit 0: height 16 bits, width 16, pel 8, levels 6, one bit for "down isn't 4", one for lean, gpu 8, then rc (bit 56) and "not full" (bit 57)"
unfoldable pub word_of : SuperOpts → ℕ
word_of r =
    luma_h r
    + 2 ^ 16 * luma_w r
    + 2 ^ 32 * pel_of r
    + 2 ^ 40 * level_count r
    + 2 ^ 46 * bit (not (is_nat r.scale_down 4))
    + 2 ^ 47 * bit r.lean
    + 2 ^ 48 * to_nat r.gpu
    + 2 ^ 56 * bit r.rc
    + 2 ^ 57 * bit (not r.full)

-- "packing 6, 14"
abbrev pub pack_no : SuperOpts → ℕ
pack_no r = record_no r then refuse (ltb most_packed (level_count r)) 14

-- k bits of v from bit i
abbrev pub bits : ℕ → ℕ → ℕ → ℕ
bits v i k = v / 2 ^ i % 2 ^ k
