-- Document 01, "Settings and sizes": reducing, levels.
use Rattle.std.specs.Prelude.{ℕ, zero, suc, ◌*◌, ◌/◌, cond, ◌&&◌, leb}

-- "Reducing once: d becomes 2 * floor(d / 4)"
abbrev pub reduce : ℕ → ℕ
reduce d = 2 * (d / 4)

-- reduced n times
unfoldable pub reduced : ℕ → ℕ → ℕ
reduced d zero = d
reduced d (suc n) = reduce (reduced d n)

-- "how many of the sizes at 0, 1, 2.. reductions have both sides at least 4, stopping at the first that has not"; among the first k of them
unfoldable pub levels_in : ℕ → ℕ → ℕ → ℕ
levels_in zero w h = 0
levels_in (suc k) w h = let more = suc (levels_in k (reduce w) (reduce h)) in cond (leb 4 w && leb 4 h) more 0

-- each reduction takes at least 1 off a width of 4 or more, so w of them are enough
abbrev pub auto_levels : ℕ → ℕ → ℕ
auto_levels w h = levels_in w w h
