-- Numbers as bytes: a number is its bytes' value, and bytes are their value's; the numbers that one, two and four bytes are; and parts of a list, which its rest doesn't change. Assumes nothing.
use Rattle.std.specs.Int.{to_le_bytes}
use mir.Syntax.{w16, w32}
use mathlib.Core.Path.{◌≡◌, refl, sym, ap, ◌∙◌, subst}
use mathlib.Core.Bool.{true}
use mathlib.Core.List.{List, [], ◌∷◌, ◌++◌}
use Prim.Native.Nat.{ℕ, zero, suc, ◌+◌, ◌*◌, ◌/◌, ◌%◌, ◌≤◌, ◌<◌, ◌^◌}
use native.Mathlib.Omega.{arith}
use lib.Dec.{ltb}
use lib.ListN.{length, take, drop, get_or, length-drop, take-append-drop}
use lib.Seq.{drop-cons, take-append-le, drop-append-le, length-take-le}
use borrow.Author.Tests.{ltb-true}
use Rattle.settings.proofs.Tests.{and_left, and_right}
use Rattle.longhands.specs.LittleEndian.{bytes, little_endian, value_of, number_at}

-- what k bytes are below
abbrev pub range : ℕ → ℕ
range zero = 1
range (suc k) = 256 * range k

pub bytes_long : (k n : ℕ) → length (little_endian k n) ≡ k
unfolding little_endian
bytes_long zero n = refl
bytes_long (suc k) n = ap suc (bytes_long k (n / 256))

pub value_back : (k n : ℕ) → n < range k → value_of (little_endian k n) ≡ n
unfolding little_endian value_of
value_back zero n h = omega arith
value_back (suc k) n h = omega (arith, value_back k (n / 256) (omega arith))

low : (b v : ℕ) → b < 256 → (b + 256 * v) % 256 ≡ b
low b v h = omega arith

high : (b v : ℕ) → b < 256 → (b + 256 * v) / 256 ≡ v
high b v h = omega arith

bytes_back : (l : List ℕ) → bytes l ≡ true → little_endian (length l) (value_of l) ≡ l
unfolding little_endian value_of
bytes_back [] e = refl
bytes_back (b ∷ l) e =
    let h = ltb-true b 256 (and_left (ltb b 256) (bytes l) e) in
    rw (low b (value_of l) h, high b (value_of l) h, bytes_back l (and_right (ltb b 256) (bytes l) e))

value_small : (l : List ℕ) → bytes l ≡ true → value_of l < range (length l)
unfolding value_of
value_small [] e = omega arith
value_small (b ∷ l) e = omega (arith, ltb-true b 256 (and_left (ltb b 256) (bytes l) e), value_small l (and_right (ltb b 256) (bytes l) e))

-- ---- the library's bytes
pub le_2 : (n : ℕ) → to_le_bytes w16 n ≡ little_endian 2 n
unfolding little_endian
le_2 n = rw (high n)
  where
    high : (n : ℕ) → n / 256 ^ 1 % 256 ≡ n / 256 % 256
    high n = omega arith

-- of a number that may be larger, its low bytes
pub le_low : (n : ℕ) → to_le_bytes w16 (n % 2 ^ 16) ≡ little_endian 2 n
unfolding little_endian
le_low n = rw (low n, high n)
  where
    low : (n : ℕ) → n % 2 ^ 16 % 256 ≡ n % 256
    low n = omega arith

    high : (n : ℕ) → n % 2 ^ 16 / 256 ^ 1 % 256 ≡ n / 256 % 256
    high n = omega arith

pub le_4 : (n : ℕ) → to_le_bytes w32 n ≡ little_endian 4 n
unfolding little_endian
le_4 n = rw (one n, two n, three n)
  where
    one : (n : ℕ) → n / 256 ^ 1 % 256 ≡ n / 256 % 256
    one n = omega arith

    two : (n : ℕ) → n / 256 ^ 2 % 256 ≡ n / 256 / 256 % 256
    two n = omega arith

    three : (n : ℕ) → n / 256 ^ 3 % 256 ≡ n / 256 / 256 / 256 % 256
    three n = omega arith

-- ---- numbers that are read
suc_is : (n : ℕ) → suc n ≡ n + 1
suc_is n = omega arith

one_of : (l : List ℕ) (i : ℕ) → i < length l → drop i l ≡ get_or l i 0 ∷ drop (i + 1) l
one_of l i h = drop-cons l i 0 h ∙ ap (λ (n : ℕ). get_or l i 0 ∷ drop n l) (suc_is i)

two_of : (l : List ℕ) (i : ℕ) → i + 2 ≤ length l → drop i l ≡ get_or l i 0 ∷ get_or l (i + 1) 0 ∷ drop (i + 2) l
two_of l i h =
    one_of l i (omega arith)
    ∙ ap (λ (x : List ℕ). get_or l i 0 ∷ x) (one_of l (i + 1) (omega arith))
    ∙ ap (λ (n : ℕ). get_or l i 0 ∷ get_or l (i + 1) 0 ∷ drop n l) (sum i)
  where
    sum : (n : ℕ) → n + 1 + 1 ≡ n + 2
    sum n = omega arith

pub number_of_1 : (l : List ℕ) (i : ℕ) → i < length l → number_at l i 1 ≡ get_or l i 0
unfolding value_of
number_of_1 l i h = rw (one_of l i h) (omega arith)

pub number_of_2 : (l : List ℕ) (i : ℕ) → i + 2 ≤ length l → number_at l i 2 ≡ get_or l i 0 + 256 * get_or l (i + 1) 0
unfolding value_of
number_of_2 l i h = rw (two_of l i h) (omega arith)

pub number_of_4 : (l : List ℕ) (i : ℕ) → i + 4 ≤ length l → number_at l i 4 ≡ get_or l i 0 + 256 * get_or l (i + 1) 0 + 65536 * get_or l (i + 2) 0 + 16777216 * get_or l (i + 3) 0
unfolding value_of
number_of_4 l i h = rw (two_of l i (omega arith), two_of l (i + 2) (omega arith)) (omega (arith, ap (λ k. get_or l k 0) (last i)))
  where
    last : (n : ℕ) → n + 2 + 1 ≡ n + 3
    last n = omega arith

-- ---- parts
-- of k bytes from place i on, inside the first p, what follows those has no part
part_left : (xs ys : List ℕ) (i k : ℕ) → i + k ≤ length xs → take k (drop i (xs ++ ys)) ≡ take k (drop i xs)
part_left xs ys i k h =
    ap (take k) (drop-append-le i xs ys (omega arith)) ∙ take-append-le k (drop i xs) ys (omega (arith, length-drop i xs))

pub part_own : (l rest : List ℕ) (p i k : ℕ) → p ≤ length l → i + k ≤ p → take k (drop i (take p l ++ rest)) ≡ take k (drop i l)
part_own l rest p i k most h =
    let inside : i + k ≤ length (take p l) = omega (arith, length-take-le p l most) in
    part_left (take p l) rest i k inside
    ∙ sym (part_left (take p l) (drop p l) i k inside)
    ∙ ap (λ (x : List ℕ). take k (drop i x)) (take-append-drop p l)

bytes_take : (k : ℕ) (l : List ℕ) → bytes l ≡ true → bytes (take k l) ≡ true
bytes_take zero l e = refl
bytes_take (suc k) [] e = refl
bytes_take (suc k) (b ∷ l) e = rw (and_left (ltb b 256) (bytes l) e, bytes_take k l (and_right (ltb b 256) (bytes l) e))

bytes_drop : (k : ℕ) (l : List ℕ) → bytes l ≡ true → bytes (drop k l) ≡ true
bytes_drop zero l e = e
bytes_drop (suc k) [] e = refl
bytes_drop (suc k) (b ∷ l) e = bytes_drop k l (and_right (ltb b 256) (bytes l) e)

pub part_bytes_lem : (l : List ℕ) (i k : ℕ) → bytes l ≡ true → bytes (take k (drop i l)) ≡ true
part_bytes_lem l i k e = bytes_take k (drop i l) (bytes_drop i l e)

part_long : (l : List ℕ) (i k : ℕ) → i + k ≤ length l → length (take k (drop i l)) ≡ k
part_long l i k h = length-take-le k (drop i l) (omega (arith, length-drop i l))

-- a number's bytes are those that it was read of
pub part_back : (l : List ℕ) (i k : ℕ) → bytes l ≡ true → i + k ≤ length l → little_endian k (number_at l i k) ≡ take k (drop i l)
part_back l i k e h = ap (λ (n : ℕ). little_endian n (number_at l i k)) (sym (part_long l i k h)) ∙ bytes_back (take k (drop i l)) (part_bytes_lem l i k e)

pub part_small : (l : List ℕ) (i k : ℕ) → bytes l ≡ true → i + k ≤ length l → number_at l i k < range k
part_small l i k e h = subst (λ (n : ℕ). number_at l i k < range n) (part_long l i k h) (value_small (take k (drop i l)) (part_bytes_lem l i k e))
