-- Document 01, "Refining": the half-pel kernels, and which place takes what.
use Rattle.std.specs.Prelude.{ℕ, ◌+◌, ◌^◌, min, Bool, cond, ◌||◌, List, leb, ltb, eqb, ℤ, pos, negsuc, neg_ℤ, ◌+ℤ◌, ◌-ℤ◌, ◌*ℤ◌}
use Rattle.std.specs.Int.Signed.{shr_z}
use Rattle.filters.specs.declared.half_pel.HalfPel.{HalfPel}
use Rattle.filters.specs.declared.half_pel.HalfPel.TheVariants.{CatmullRom, Wiener}
use Rattle.filters.specs.declared.half_pel.Upscale.{Upscale}
use Rattle.filters.specs.declared.half_pel.Upscale.TheVariants.{Means, Kernel}
use Rattle.filters.specs.Row.{Six, tab, mean_of, sixes, around}

-- "Up 0 is bilinear, 1 bicubic, others Wiener."
abbrev pub up_nat : ℕ → Upscale
up_nat d = cond (eqb d 0) Means (cond (eqb d 1) (Kernel CatmullRom) (Kernel Wiener))

unfoldable pub upscale : ℤ → Upscale
upscale (pos d) = up_nat d
upscale (negsuc d) = Kernel Wiener

-- "Bicubic: (-(m1 + p2) + 9(c0 + p1) + 8) >> 4. Wiener: (m2 - 5m1 + 20c0 + 20p1 - 5p2 + p3 + 16) >> 5. Shifts round down"
abbrev pub shr : ℤ → ℕ → ℤ
shr x k = shr_z x (2 ^ k)

abbrev pub kernel : HalfPel → ℤ → ℤ → ℤ → ℤ → ℤ → ℤ → ℤ
kernel CatmullRom m2 m1 c0 p1 p2 p3 = shr (neg_ℤ (m1 +ℤ p2) +ℤ pos 9 *ℤ (c0 +ℤ p1) +ℤ pos 8) 4
kernel Wiener m2 m1 c0 p1 p2 p3 = shr (m2 -ℤ pos 5 *ℤ m1 +ℤ pos 20 *ℤ c0 +ℤ pos 20 *ℤ p1 -ℤ pos 5 *ℤ p2 +ℤ p3 +ℤ pos 16) 5

-- "results are held to 0..255"
abbrev pub held : ℤ → ℕ
held (pos n) = min 255 n
held (negsuc n) = 0

unfoldable pub half_pel : HalfPel → Six
half_pel k m2 m1 c0 p1 p2 p3 = held (kernel k (pos m2) (pos m1) (pos c0) (pos p1) (pos p2) (pos p3))

-- "The first 1 (Wiener 2) and, before the copy, those within 3 (Wiener 4) of the end are means with the next."
abbrev pub lead_of : HalfPel → ℕ
lead_of CatmullRom = 1
lead_of Wiener = 2

-- counted from the end, the copied place being the first: of 5 rows by the bicubic, row 4 is the copy, 2 and 3 are means, and so is 0; only row 1 takes the kernel
abbrev pub tail_of : HalfPel → ℕ
tail_of CatmullRom = 3
tail_of Wiener = 4

-- place i of n is a mean with the next, if it isn't the last
abbrev pub near_edge : HalfPel → ℕ → ℕ → Bool
near_edge k i n = ltb i (lead_of k) || leb n (i + tail_of k)

-- place i of n: "The last place is a copy."
abbrev pub half_sample : HalfPel → ℕ → ℕ → Six
half_sample k i n m2 m1 c0 p1 p2 p3 =
    cond (leb n (i + 1)) c0 (cond (near_edge k i n) (mean_of c0 p1) (half_pel k m2 m1 c0 p1 p2 p3))

-- horizontal: a row of n bytes
unfoldable pub half_horizontal : HalfPel → ℕ → List ℕ → List ℕ
half_horizontal k n r = tab (λ i. around (half_sample k i n) r i) n

-- vertical: row y of h, n bytes, from the six rows around it
unfoldable pub half_vertical : HalfPel → ℕ → ℕ → ℕ → List ℕ → List ℕ → List ℕ → List ℕ → List ℕ → List ℕ → List ℕ
half_vertical k y h n m2 m1 c0 p1 p2 p3 = sixes (half_sample k y h) n m2 m1 c0 p1 p2 p3
