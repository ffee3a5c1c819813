-- Document 01, "Halving": which filter, its weights and edges, a row from six rows, and a row of pairs halved.
use Rattle.std.specs.Prelude.{ℕ, ◌+◌, ◌*◌, ◌/◌, Bool, true, false, cond, ◌&&◌, ◌||◌, List, leb, eqb, get_or, set, ℤ, pos, negsuc, Option, Some, None}
use Rattle.filters.specs.declared.halving.ReduceFilter.{ReduceFilter}
use Rattle.filters.specs.declared.halving.ReduceFilter.TheVariants.{Average, Bilinear, Quadratic, Cubic}
use Rattle.filters.specs.Row.{Six, tab, mean_of, around}

-- "down 0 or 1 (average), 2 (bilinear), 3 (quadratic), 4 (cubic); any other value leaves later levels unwritten"
abbrev pub chosen_nat : ℕ → Option ReduceFilter
chosen_nat d =
    cond (leb d 1) (Some Average)
    (cond (eqb d 2) (Some Bilinear) (cond (eqb d 3) (Some Quadratic) (cond (eqb d 4) (Some Cubic) None)))

unfoldable pub chosen : ℤ → Option ReduceFilter
chosen (pos d) = chosen_nat d
chosen (negsuc d) = None

-- "average (m1 + 2c0 + p1 + 2) >> 2; bilinear (m1 + 3(c0 + p1) + p2 + 4) >> 3; quadratic (m2 + 9(m1 + p2) + 22(c0 + p1) + p3 + 32) >> 6; cubic (m2 + 5(m1 + p2) + 10(c0 + p1) + p3 + 16) >> 5"
abbrev pub weigh : ReduceFilter → Six
weigh Average m2 m1 c0 p1 p2 p3 = (m1 + 2 * c0 + p1 + 2) / 4
weigh Bilinear m2 m1 c0 p1 p2 p3 = (m1 + 3 * (c0 + p1) + p2 + 4) / 8
weigh Quadratic m2 m1 c0 p1 p2 p3 = (m2 + 9 * (m1 + p2) + 22 * (c0 + p1) + p3 + 32) / 64
weigh Cubic m2 m1 c0 p1 p2 p3 = (m2 + 5 * (m1 + p2) + 10 * (c0 + p1) + p3 + 16) / 32

-- the first row that those read, counted up from the source row, and the last, counted down
abbrev pub first_row : ReduceFilter → ℕ
first_row Average = 1
first_row Bilinear = 1
first_row Quadratic = 2
first_row Cubic = 2

abbrev pub last_row : ReduceFilter → ℕ
last_row Average = 1
last_row Bilinear = 2
last_row Quadratic = 3
last_row Cubic = 3

-- "for all but average the last row"; "For all but average, the last"
abbrev pub last_is_mean : ReduceFilter → Bool
last_is_mean Average = false
last_is_mean Bilinear = true
last_is_mean Quadratic = true
last_is_mean Cubic = true

-- place i of n is a mean: "row 0, and for all but average the last row"; "output 0 .. For all but average, the last"
abbrev pub is_edge : ReduceFilter → ℕ → ℕ → Bool
is_edge f i n = eqb i 0 || (last_is_mean f && leb n (i + 1))

-- "On the other columns of such rows it is (a + 5 r(-1) + 10(r(0) + r(1)) + 5b + c + 16) >> 5"
abbrev pub rest_of : Six
rest_of a m1 c0 p1 b c = (a + 5 * m1 + 10 * (c0 + p1) + 5 * b + c + 16) / 32

-- "with byte 0 of the row replaced by output 0"
unfoldable pub headed : List ℕ → List ℕ
headed v = set v 0 (mean_of (get_or v 0 0) (get_or v 1 0))

-- "output 0 is the mean of the first pair. For all but average, the last is the mean of its pair. Others use the same weights around their pair"
unfoldable pub horizontal_at : ReduceFilter → ℕ → List ℕ → ℕ → ℕ
horizontal_at f w v x = cond (is_edge f x w) (mean_of (get_or v (2 * x) 0) (get_or v (2 * x + 1) 0)) (around (weigh f) (headed v) (2 * x))

-- horizontal: w outputs from the 2 * w bytes of v
unfoldable pub horizontal_row : ReduceFilter → ℕ → List ℕ → List ℕ
horizontal_row f w v = tab (horizontal_at f w v) w
