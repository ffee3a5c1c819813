-- The buffer of a line, the text at its front and zeros after it, once more text is put there. Assumes nothing.
use mathlib.Core.Path.{◌≡◌, sym, ap, ◌∙◌}
use mathlib.Core.List.{List, ◌++◌, append_assoc}
use Prim.Native.Nat.{ℕ, ◌+◌, ◌-◌, ◌≤◌}
use native.Mathlib.Omega.{arith}
use lib.ListN.{length, take, drop, replicate}
use Rattle.std.proofs.lemmas.List.{length-append, drop-replicate}
use Rattle.std.proofs.Math.Seq.{take-append_seam, drop-append_seam}
use Rattle.lines.specs.Text.{room, buffer_of}

pub fits_after : (a n : ℕ) (b l : List ℕ) → length (take a b) ≡ a → l ≡ take a b → length l + n ≤ room → a + n ≤ room
fits_after a n b l long same le = omega (arith, long, ap (λ (x : List ℕ). length x) same, le)

-- the first a bytes of b are its text, and row goes there after them
module _ (a : ℕ) (b row : List ℕ) (long : length (take a b) ≡ a) (full : buffer_of (take a b) ≡ b) (fits : a + length row ≤ room) where
  abbrev text : List ℕ
  text = take a b

  abbrev k : ℕ
  k = a + length row

  spare : drop a b ≡ replicate (room - length text) 0
  spare = ap (drop a) (sym full) ∙ ap (λ (n : ℕ). drop n (buffer_of text)) (sym long) ∙ drop-append_seam text (replicate (room - length text) 0)

  left : drop (k - a) (drop a b) ≡ replicate (room - length (text ++ row)) 0
  left = ap (drop (k - a)) spare ∙ drop-replicate (k - a) (room - length text) 0 ∙ ap (λ (n : ℕ). replicate n 0) (omega (arith, long, length-append text row))

  pub put_after : {new : List ℕ} → new ≡ row → text ++ (new ++ drop (k - a) (drop a b)) ≡ buffer_of (text ++ row)
  put_after e = ap (λ (x : List ℕ). text ++ (x ++ drop (k - a) (drop a b))) e ∙ ap (λ (x : List ℕ). text ++ (row ++ x)) left ∙ sym (append_assoc text row (replicate (room - length (text ++ row)) 0))

  pub text_after : {next : List ℕ} → next ≡ buffer_of (text ++ row) → take k next ≡ text ++ row
  text_after e = ap (take k) e ∙ ap (λ (n : ℕ). take n (buffer_of (text ++ row))) (omega (arith, long, length-append text row)) ∙ take-append_seam (text ++ row) (replicate (room - length (text ++ row)) 0)

  pub held_after : {next : List ℕ} → next ≡ buffer_of (text ++ row) → (k ≤ room) × (length (take k next) ≡ k) × (buffer_of (take k next) ≡ next)
  held_after e = (fits, omega (arith, ap (λ (x : List ℕ). length x) (text_after e), length-append text row, long), ap buffer_of (text_after e) ∙ sym e)
