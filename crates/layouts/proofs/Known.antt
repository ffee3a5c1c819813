-- An answer is known by its number and value. Assumes nothing.
use mathlib.Core.Path.{◌≡◌, ap}
use mathlib.Core.List.{List}
use Prim.Native.Nat.{ℕ}
use Rattle.std.specs.Prelude.{Result, ⊤}
use Rattle.settings.specs.declared.refusal.Refusal.{Refusal}
use Rattle.settings.specs.Answers.{Answer, answer, tested}
use Rattle.settings.proofs.Known.{tested_known}

-- a number with the bytes that a call leaves
pub left_known : (a b : Result ⊤ Refusal × List ℕ) → answer (tested a.0) a.1 ≡ answer (tested b.0) b.1 → a ≡ b
left_known a b e =
    let t = tested_known a.0 b.0 (ap (λ (x : Answer (List ℕ)). x.no) e) in
    let l = ap (λ (x : Answer (List ℕ)). x.value) e in
    rw (t, l)
