-- How long an answer is, by its line. Assumes nothing.
use mathlib.Core.Path.{◌≡◌, refl}
use mathlib.Core.Bool.{Bool, true, false, cond, ◌&&◌}
use mathlib.Core.List.{List, [], ◌∷◌}
use Prim.Native.Nat.{ℕ, ◌*◌, ◌%◌, ◌≤◌}
use native.Mathlib.Omega.{arith}
use lib.Dec.{leb, eqb}
use lib.ListN.{length}
use borrow.Author.Tests.{leb-true, eqb-true}
use Rattle.settings.proofs.Tests.{and_left, and_right}
use Rattle.std.proofs.lemmas.List.Sums.{count_by-le-length}
use Rattle.longhands.specs.Longhand.{longhand_no, longhand_answer}
use Rattle.longhands.proofs.Encodings.{spelled}
use Rattle.lines.specs.Limits.{most_input}
use Rattle.lines.specs.Text.{all_digits}
use Rattle.longhand_lines.specs.Fields.{times}
use Rattle.longhand_lines.specs.Hex.{bytes_of}
use Rattle.longhand_lines.specs.Longhand.{is_record, are_sizes, are_numbers, are_flags, is_asked, read_most, text_most}

-- ---- a record
pub record Digits (l : List ℕ) : Type 0 where
  pub some : 2 ≤ length l
  pub few : length l ≤ most_input
  pub all : all_digits 16 l ≡ true

pub record_says : (l : List ℕ) → is_record l ≡ true → Digits l
record_says l e =
    let some = leb 2 (length l) in
    let few = leb (length l) most_input in
    let even = eqb (length l % 2) 0 in
    let all = all_digits 16 l in
    let front = and_left (some && few) even (and_left (some && few && even) all e) in
    record {
      some = leb-true 2 (length l) (and_left some few front);
      few = leb-true (length l) most_input (and_right some few front);
      all = and_right (some && few && even) all e;
    }

bytes_count : (l : List ℕ) → 2 * length (bytes_of l) ≤ length l
unfolding bytes_of
bytes_count [] = omega arith
bytes_count (a ∷ []) = omega arith
bytes_count (a ∷ b ∷ l) = omega (arith, bytes_count l)

-- settings are told only of a record whose bytes are all there
pub record_fits : (l : List ℕ) → is_record l ≡ true → read_most (longhand_answer (bytes_of l)) ≤ text_most (length l)
record_fits l e = go (eqb (longhand_no (bytes_of l)) 0) refl
  where
    go : (t : Bool) → eqb (longhand_no (bytes_of l)) 0 ≡ t → cond t 253 41 ≤ text_most (length l)
    go true z = let s = spelled (bytes_of l) (eqb-true (longhand_no (bytes_of l)) 0 z) in omega (arith, s.frame.own, s.long, bytes_count l)
    go false z = omega (arith, (record_says l e).some)

-- ---- settings: eight spaces part them
pub asked_fits : (l : List ℕ) → is_asked l ≡ true → 63 ≤ text_most (length l)
unfolding is_asked
asked_fits l e =
    let spaces = eqb (times 32 l) 8 in
    let front = and_left (spaces && are_sizes l && are_numbers l) (are_flags l) e in
    omega (arith, count_by-le-length (λ (a : ℕ). eqb a 32) l, eqb-true (times 32 l) 8 (and_left spaces (are_sizes l) (and_left (spaces && are_sizes l) (are_numbers l) front)))
