-- Text after text in a lent slice, line after line. Assumes nothing.
use mathlib.Core.Path.{◌≡◌, refl, sym, ap, ◌∙◌, subst}
use mathlib.Core.List.{List, [], ◌∷◌, ◌++◌, append-nil, append_assoc}
use Prim.Native.Nat.{ℕ, suc, ◌+◌, ◌≤◌}
use native.Mathlib.Omega.{arith}
use lib.ListN.{length, take, drop, length-append, length-take, length-drop}
use Rattle.settings.proofs.Pasting.{put_next}
use Rattle.lines.specs.Limits.{most_printed}
use Rattle.lines.specs.Text.{Printed}
use Rattle.lines.specs.Parting.{before, lines_of}
use Rattle.lines.proofs.Parted.{lines_next}
use Rattle.line_answers.specs.Output.{lines_for, Front}

-- the lines before rest are printed, n bytes at the front of out
pub record Begun (line_for : List ℕ → List ℕ) (input lent rest : List ℕ) (n : ℕ) (out : List ℕ) : Type 0 where
  pub done : List ℕ
  pub whole : done ++ lines_for line_for (lines_of rest) ≡ lines_for line_for (lines_of input)
  pub front : Front done lent n out
  pub long : length out ≡ length lent
  pub room : 1 ≤ length rest → n + most_printed (length rest + 1) ≤ length lent

module _ {line_for : List ℕ → List ℕ} {input lent rest out : List ℕ} {n : ℕ} (h : Begun line_for input lent rest n out) (some : 1 ≤ length rest) where
  line_next : let k = before 10 rest in line_for (take k rest) ++ lines_for line_for (lines_of (drop (suc k) rest)) ≡ lines_for line_for (lines_of rest)
  unfolding lines_for
  line_next = sym (ap (lines_for line_for) (lines_next rest some))

  pub begun_more : {line others l next : List ℕ} → line ≡ take (before 10 rest) rest → others ≡ drop (suc (before 10 rest)) rest → Printed (length line) l (line_for line) → length next ≡ length out → next ≡ take n out ++ l ++ drop (n + length l) out → Begun line_for input lent others (n + length l) next
  begun_more {line} {others} {l} {next} is left p long put =
      let done = h.done in
      let after = lines_for line_for (lines_of others) in
      let text : l ++ after ≡ lines_for line_for (lines_of rest) = rw (p.text, is, left) line_next in
      record {
        done = done ++ l;
        whole = append_assoc done l after ∙ ap (λ (x : List ℕ). done ++ x) text ∙ h.whole;
        front =
            record {
              count = omega (arith, h.front.count, length-append done l);
              bytes = put_next done l lent refl h.front.bytes (rw h.front.count at put) ∙ ap (λ (m : ℕ). (done ++ l) ++ drop m lent) (sym (length-append done l));
            };
        long = long ∙ h.long;
        room = λ (more : 1 ≤ length others). omega (arith, h.room some, p.most, ap length is, ap length left, length-take (before 10 rest) rest, length-drop (suc (before 10 rest)) rest);
      }

pub begun_whole : {line_for : List ℕ → List ℕ} {input lent rest out : List ℕ} {n : ℕ} → Begun line_for input lent rest n out → length rest ≡ 0 → Front (lines_for line_for (lines_of input)) lent n out
unfolding lines_of lines_for
begun_whole {lent = lent} {rest = []} {out = out} {n = n} h none = subst (λ (t : List ℕ). Front t lent n out) (sym (append-nil h.done) ∙ h.whole) h.front
begun_whole {rest = b ∷ rest} h none = absurd (omega arith)
