-- The programs' limits, named once.
use Rattle.std.specs.Prelude.{ℕ, ◌*◌}

-- "The program reads up to 64 KiB of lines"
abbrev pub most_input : ℕ
most_input = 65536

-- inner: what is printed for k bytes of input, at most, newlines counted
abbrev pub most_printed : ℕ → ℕ
most_printed k = 16 * k
