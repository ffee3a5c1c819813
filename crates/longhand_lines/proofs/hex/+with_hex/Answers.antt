-- `with_hex` meets its contract: a digit more after what the call for those before it put there. Assumes nothing.
use mathlib.Core.Path.{sym, ap, ◌∙◌}
use mathlib.Core.List.{[], ◌∷◌, ◌++◌}
use Prim.Native.Nat.{ℕ, ◌-◌, ◌/◌}
use native.Mathlib.Omega.{arith}
use Rattle.lines.proofs.Lines.{◌after◌, said}
use Rattle.longhand_lines.specs.Hex.{hex_digits}
use Rattle.longhand_lines.proofs.Spelling.{hex_more}
use Rattle.longhand_lines.proofs.hex.+with_hex.Goals as goal

pub returns : goal.returns
returns t c =
    let p = c.with_byte.ensures after c.with_hex.ensures in
    said
    (ap (λ (d : ℕ). hex_digits (c.args.count - 1) (c.args.n / 16) ++ (d ∷ [])) c.hex_digit.ensures ∙ sym (hex_more c.args.count c.args.n (omega arith)))
    (record { text = p.text; room = omega (arith, p.room) })
