-- `with_bytes` meets its contract: the buffer holds the text, and after it the bytes. Assumes nothing.
use mathlib.Core.Path.{sym, ap, ◌∙◌}
use mathlib.Core.List.{List, ◌++◌}
use Prim.Native.Nat.{ℕ}
use native.Mathlib.Omega.{arith}
use lib.ListN.{length}
use Rattle.std.proofs.lemmas.List.{length-append}
use Rattle.lines.proofs.Buffer.{fits_after, put_after, text_after, held_after}
use Rattle.lines.proofs.text.Line.with_bytes.Goals as goal

pub invariant_of-next : goal.invariant_of-next
invariant_of-next c =
    let n = c.next in
    let h = n.invariant in
    let row = c.args.line.now in
    let fits = fits_after _ _ _ _ h.1 (sym n.view_is) c.requires in
    held_after n.inside.len n.inside.bytes row h.1 h.2 fits (put_after n.inside.len n.inside.bytes row h.1 h.2 fits c.copy_from_slice.ensures.after)

pub returns : goal.returns
returns c =
    let n = c.next in
    let h = n.invariant in
    let row = c.args.line.now in
    let fits = fits_after _ _ _ _ h.1 (sym n.view_is) c.requires in
    let text = text_after n.inside.len n.inside.bytes row h.1 h.2 fits (put_after n.inside.len n.inside.bytes row h.1 h.2 fits c.copy_from_slice.ensures.after) in
    let said = text ∙ ap (λ (x : List ℕ). x ++ row) n.view_is in
    record { text = said; room = omega (arith, ap (λ (x : List ℕ). length x) said, length-append c.args.self row) }
