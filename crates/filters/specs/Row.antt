-- Rows are lists of bytes, made by a rule at each place. Reading past a row gives 0.
use Rattle.std.specs.Prelude.{ℕ, zero, suc, ◌+◌, ◌-◌, ◌/◌, List, [], ◌∷◌, ◌++◌, get_or}

-- f 0, f 1 .. f (n - 1)
unfoldable pub tab : (ℕ → ℕ) → ℕ → List ℕ
tab f zero = []
tab f (suc n) = tab f n ++ (f n ∷ [])

-- "Mean(a, b) = (a + b + 1) >> 1."
abbrev pub mean_of : ℕ → ℕ → ℕ
mean_of a b = (a + b + 1) / 2

unfoldable pub means_of : ℕ → List ℕ → List ℕ → List ℕ
means_of n a b = tab (λ i. mean_of (get_or a i 0) (get_or b i 0)) n

-- a rule of six taps, m2 m1 c0 p1 p2 p3: document 01's rows "from -2 to +3"
abbrev pub Six : Type 0
Six = ℕ → ℕ → ℕ → ℕ → ℕ → ℕ → ℕ

-- at column i of six rows
abbrev pub six_at : Six → List ℕ → List ℕ → List ℕ → List ℕ → List ℕ → List ℕ → ℕ → ℕ
six_at k m2 m1 c0 p1 p2 p3 i = k (get_or m2 i 0) (get_or m1 i 0) (get_or c0 i 0) (get_or p1 i 0) (get_or p2 i 0) (get_or p3 i 0)

-- n columns of six rows
unfoldable pub sixes : Six → ℕ → List ℕ → List ℕ → List ℕ → List ℕ → List ℕ → List ℕ → List ℕ
sixes k n m2 m1 c0 p1 p2 p3 = tab (six_at k m2 m1 c0 p1 p2 p3) n

-- around place i of one row: i - 2 to i + 3. (Where i - 2 or i - 1 would lie before the row, no rule reads it.)
abbrev pub around : Six → List ℕ → ℕ → ℕ
around k r i = k (get_or r (i - 2) 0) (get_or r (i - 1) 0) (get_or r i 0) (get_or r (i + 1) 0) (get_or r (i + 2) 0) (get_or r (i + 3) 0)
