-- Inner: what the code goes by on its way, and document 01 doesn't have. Each is tied to the document's own definition by a law of proofs/.
-- First what rows are asked for, and a block laid into a row; then the kernels over natural numbers, and a row by the edges' rule alone; last a row of pairs taken apart.
use Rattle.std.specs.Prelude.{◌≡◌, ℕ, ◌+◌, ◌*◌, ◌-◌, ◌/◌, ◌≤◌, ◌<◌, min, cond, List, ◌++◌, leb, length, get_or, set, take, drop}
use Rattle.filters.specs.declared.half_pel.HalfPel.{HalfPel}
use Rattle.filters.specs.declared.half_pel.HalfPel.TheVariants.{CatmullRom, Wiener}
use Rattle.filters.specs.declared.halving.ReduceFilter.{ReduceFilter}
use Rattle.filters.specs.Row.{Six, tab, mean_of, sixes}
use Rattle.filters.specs.Halve.{weigh, last_is_mean}

-- six bytes, in a wider type
pub record Low (m2 m1 c0 p1 p2 p3 : ℕ) : Type 0 where
  pub low_m2 : m2 ≤ 255
  pub low_m1 : m1 ≤ 255
  pub low_c0 : c0 ≤ 255
  pub low_p1 : p1 ≤ 255
  pub low_p2 : p2 ≤ 255
  pub low_p3 : p3 ≤ 255

-- six rows of n bytes at least
pub record Reach (n : ℕ) (m2 m1 c0 p1 p2 p3 : List ℕ) : Type 0 where
  pub in_m2 : n ≤ length m2
  pub in_m1 : n ≤ length m1
  pub in_c0 : n ≤ length c0
  pub in_p1 : n ≤ length p1
  pub in_p2 : n ≤ length p2
  pub in_p3 : n ≤ length p3

-- the row o with the w bytes of k laid over it from place i on
abbrev pub laid : List ℕ → ℕ → ℕ → List ℕ → List ℕ
laid o i w k = take i o ++ (k ++ drop w (drop i o))

-- a difference below 0 counts as 0, which is what holding makes of it (law `half_pel_natural`: it is `half_pel`)
abbrev pub natural_pel : HalfPel → Six
natural_pel CatmullRom m2 m1 c0 p1 p2 p3 = min 255 ((9 * (c0 + p1) + 8 - (m1 + p2)) / 16)
natural_pel Wiener m2 m1 c0 p1 p2 p3 = min 255 ((m2 + 20 * (c0 + p1) + p3 + 16 - 5 * (m1 + p2)) / 32)

-- a row of n bytes by the edges' rule alone: means with the next, and the copied place
unfoldable pub next_at : ℕ → List ℕ → ℕ → ℕ
next_at n r i = cond (leb n (i + 1)) (get_or r i 0) (mean_of (get_or r i 0) (get_or r (i + 1) 0))

unfoldable pub next_means : ℕ → List ℕ → List ℕ
next_means n r = tab (next_at n r) n

-- the first k of n pairs of v taken apart: the even bytes stand from place 1 of s on, and the odd ones from place n + 1
pub record Apart (n k : ℕ) (v s : List ℕ) : Type 0 where
  pub most : k ≤ n
  pub room : 2 * n + 2 ≤ length s
  pub evens : (i : ℕ) → i < k → get_or s (i + 1) 0 ≡ get_or v (2 * i) 0
  pub odds : (i : ℕ) → i < k → get_or s (n + (i + 1)) 0 ≡ get_or v (2 * i + 1) 0

-- the weights at each place of n pairs taken apart
abbrev pub weighed_apart : ReduceFilter → ℕ → List ℕ → List ℕ
weighed_apart f n s = sixes (weigh f) n s (drop n s) (drop 1 s) (drop (n + 1) s) (drop 2 s) (drop (n + 2) s)

-- the row o, with the mean of the last pair at its last place for all but average
abbrev pub with_last : ReduceFilter → ℕ → List ℕ → List ℕ → List ℕ
with_last f n s o = cond (last_is_mean f) (set o (n - 1) (mean_of (get_or s n 0) (get_or s (2 * n) 0))) o

-- n outputs from s, where the pairs of a row stand whose byte 0 is output 0 already (law `reduced_apart_lem`: it is `horizontal_row`)
unfoldable pub reduced_apart : ReduceFilter → ℕ → List ℕ → List ℕ
reduced_apart f n s = set (with_last f n s (weighed_apart f n s)) 0 (get_or s 1 0)
