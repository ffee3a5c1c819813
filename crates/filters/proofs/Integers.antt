-- A difference of naturals among the integers, and what holding it to 0..255 makes of it. Assumes nothing.
use mathlib.Core.Path.{◌≡◌, sym, ap, ◌∙◌}
use mathlib.Core.Logic.{⊎_elim}
use Prim.Native.Nat.{ℕ, zero, suc, ◌+◌, ◌-◌, ◌/◌, ◌^◌, ◌≤◌, ◌<◌, min}
use native.Mathlib.Omega.{arith}
use native.Mathlib.Nat.{zero-div}
use lib.IntN.{ℤ, pos, negsuc, sub_ℕ, ◌+ℤ◌, ◌-ℤ◌}
use borrow.Author.Tests.{lt-ltb, le-ltb}
use Rattle.filters.specs.Refine.{shr, held}
use Rattle.filters.proofs.Tests.{below_or}

sub_less : (a b : ℕ) → a < b → sub_ℕ a b ≡ negsuc (b - suc a)
sub_less a b h = rw (lt-ltb a b h)

sub_more : (a b : ℕ) → b ≤ a → sub_ℕ a b ≡ pos (a - b)
sub_more a b h = rw (le-ltb a b h)

-- one difference, two ways
pub sub_same : (a b c d : ℕ) → a + d ≡ c + b → sub_ℕ a b ≡ sub_ℕ c d
sub_same a b c d e =
    ⊎_elim
    (λ (lt : a < b). sub_less a b lt ∙ ap negsuc (omega arith) ∙ sym (sub_less c d (omega arith)))
    (λ (le : b ≤ a). sub_more a b le ∙ ap pos (omega arith) ∙ sym (sub_more c d (omega arith)))
    (below_or a b)

pub sub_none : (a : ℕ) → pos a ≡ sub_ℕ a 0
sub_none a = sym (sub_more a 0 (omega arith) ∙ ap pos (omega arith))

pub sub_add : (a b c : ℕ) → sub_ℕ a b +ℤ pos c ≡ sub_ℕ (a + c) b
sub_add a b c =
    ⊎_elim
    (λ (lt : a < b). ap (λ (z : ℤ). z +ℤ pos c) (sub_less a b lt) ∙ sub_same c (suc (b - suc a)) (a + c) b (omega arith))
    (λ (le : b ≤ a). ap (λ (z : ℤ). z +ℤ pos c) (sub_more a b le) ∙ ap pos (omega arith) ∙ sym (sub_more (a + c) b (omega arith)))
    (below_or a b)

pub sub_sub : (a b c : ℕ) → sub_ℕ a b -ℤ pos c ≡ sub_ℕ a (b + c)
sub_sub a b zero = sub_add a b 0 ∙ sub_same (a + 0) b a (b + 0) (omega arith)
sub_sub a b (suc n) =
    ⊎_elim
    (λ (lt : a < b). ap (λ (z : ℤ). z +ℤ negsuc n) (sub_less a b lt) ∙ ap negsuc (omega arith) ∙ sym (sub_less a (b + suc n) (omega arith)))
    (λ (le : b ≤ a). ap (λ (z : ℤ). z +ℤ negsuc n) (sub_more a b le) ∙ sub_same (a - b) (suc n) a (b + suc n) (omega arith))
    (below_or a b)

-- held to 0..255, a difference below 0 counts as 0
pub held_sub : (a b k : ℕ) → held (shr (sub_ℕ a b) k) ≡ min 255 ((a - b) / 2 ^ k)
held_sub a b k =
    ⊎_elim
    (λ (lt : a < b).
    let none : a - b ≡ 0 = omega arith in
    ap (λ (z : ℤ). held (shr z k)) (sub_less a b lt) ∙ sym (ap (λ (x : ℕ). min 255 (x / 2 ^ k)) none ∙ ap (min 255) (zero-div (2 ^ k))))
    (λ (le : b ≤ a). ap (λ (z : ℤ). held (shr z k)) (sub_more a b le))
    (below_or a b)
