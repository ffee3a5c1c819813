-- Bytes that hexadecimal digits spell, two for each; and digits that are put, the last one apart. Assumes nothing.
use mathlib.Core.Path.{◌≡◌, refl, sym, ap, ◌∙◌}
use mathlib.Core.Bool.{true}
use mathlib.Core.List.{List, [], ◌∷◌, ◌++◌, append-nil, append_assoc}
use Prim.Native.Nat.{ℕ, zero, suc, ◌+◌, ◌*◌, ◌-◌, ◌/◌, ◌%◌, ◌≤◌, ◌<◌}
use native.Mathlib.Numerals.{add-one, sub-one}
use native.Mathlib.Omega.{arith}
use lib.ListN.{length, get_or, take, set, length-append}
use lib.Seq.{take-suc-set}
use Rattle.lines.specs.Text.{hex_of, is_digit, all_digits}
use Rattle.std.proofs.lemmas.List.Folds.{list_all-append}
use Rattle.settings.proofs.Tests.{and_right}
use Rattle.longhand_lines.specs.Hex.{bytes_of, hex_digit, hex_digits}

bytes_end : (l : List ℕ) → length l ≤ 1 → bytes_of l ≡ []
unfolding bytes_of
bytes_end [] h = refl
bytes_end (a ∷ []) h = refl
bytes_end (a ∷ b ∷ l) h = absurd (omega arith)

-- the first i bytes stand at the front of out, and the digits of rest are to come
pub record Spelled (l out rest : List ℕ) (i : ℕ) : Type 0 where
  pub done : take i out ++ bytes_of rest ≡ bytes_of l
  pub all : all_digits 16 rest ≡ true
  pub most : 2 * i + length rest ≡ length l

pair_bytes : (pair others : List ℕ) → length pair ≡ 2 → bytes_of (pair ++ others) ≡ (16 * hex_of (get_or pair 0 0) + hex_of (get_or pair 1 0)) ∷ bytes_of others
unfolding bytes_of
pair_bytes [] others h = absurd (omega arith)
pair_bytes (a ∷ []) others h = absurd (omega arith)
pair_bytes (a ∷ b ∷ []) others h = refl
pair_bytes (a ∷ b ∷ c ∷ pair) others h = absurd (omega arith)

module _ {l out rest : List ℕ} {i : ℕ} (p : Spelled l out rest i) where
  pub spelled_more : (pair : List ℕ) {others : List ℕ} {k j v : ℕ} → rest ≡ pair ++ others → length pair ≡ 2 → k ≡ i → j ≡ i + 1 → length l ≤ 2 * length out → v ≡ 16 * hex_of (get_or pair 0 0) + hex_of (get_or pair 1 0) → Spelled l (set out k v) others j
  spelled_more pair {others} {k} {j} {v} e two here next room is =
      let come : v ∷ bytes_of others ≡ bytes_of rest = rw (is, e) (sym (pair_bytes pair others two)) in
      let put : take j (set out k v) ≡ take i out ++ (v ∷ []) = rw (next, here, add-one i) (take-suc-set out i v (omega (arith, p.most, ap length e, length-append pair others))) in
      record {
        done = rw put (append_assoc (take i out) (v ∷ []) (bytes_of others) ∙ ap (λ (o : List ℕ). take i out ++ o) come ∙ p.done);
        all = and_right (all_digits 16 pair) (all_digits 16 others) (sym (list_all-append (is_digit 16) pair others) ∙ ap (all_digits 16) (sym e) ∙ p.all);
        most = omega (arith, p.most, ap length e, length-append pair others);
      }

  pub spelled_whole : length rest < 2 → take (length l / 2) out ≡ bytes_of l
  spelled_whole few =
      let whole : length l / 2 ≡ i = omega (arith, p.most) in
      rw whole (sym (append-nil (take i out)) ∙ ap (λ (o : List ℕ). take i out ++ o) (sym (bytes_end rest (omega arith))) ∙ p.done)

pub hex_more : (k n : ℕ) → 1 ≤ k → hex_digits k n ≡ hex_digits (k - 1) (n / 16) ++ (hex_digit (n % 16) ∷ [])
unfolding hex_digits
hex_more zero n some = absurd (omega arith)
hex_more (suc k) n some = rw (sub-one (suc k)) refl
