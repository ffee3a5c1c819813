-- `read_kind_1` meets its contract. Assumes nothing.
use mathlib.Core.Path.{◌≡◌, sym, ap, ◌∙◌}
use Prim.Native.Nat.{ℕ, ◌+◌, ◌-◌}
use native.Mathlib.Omega.{arith}
use lib.ListN.{take, drop}
use mathlib.Core.List.{List}
use Rattle.std.proofs.lemmas.Result.{err_from_is_err_and}
use Rattle.longhands.specs.Longhand.{length_of, body_of}
use Rattle.longhands.proofs.Longhands.{whole, length_other, body_read, body_refused}
use Rattle.longhands.proofs.longhand.read_kind_1.Goals as goal

pub number_4-length-requires : goal.number_4-length-requires
number_4-length-requires c = (whole c.args.bytes.now c.requires.0).field

pub returns-then-length-ne-LENGTH : goal.returns-then-length-ne-LENGTH
returns-then-length-ne-LENGTH c = let l = c.args.bytes.now in length_other l c.requires.0 c.requires.1 (λ e. c.if-length-ne-LENGTH.true (c.number_4-length.ensures ∙ e))

pub slice_bounds-read_body-end : goal.slice_bounds-read_body-end
slice_bounds-read_body-end c = omega (arith, c.number_4-length.ensures, (whole c.args.bytes.now c.requires.0).own)

body : (l : List ℕ) (n : ℕ) → n ≡ length_of l → take (4 + n - 6) (drop 6 l) ≡ body_of l
body l n e = ap (λ (m : ℕ). take m (drop 6 l)) (omega (arith, e))

pub returns-in_err-opts : goal.returns-in_err-opts
returns-in_err-opts c =
    let l = c.args.bytes.now in
    let p = err_from_is_err_and c.from_residual.result c.from_residual.ensures.1 in
    let read = body l c.number_4-length.result c.number_4-length.ensures in
    rw (p.1, p.2) (body_refused l c.in_err-opts.field-0.0 c.requires.0 c.requires.1 (sym c.number_4-length.ensures ∙ c.if-length-ne-LENGTH.false) read c.in_err-opts.ensures)

pub returns : goal.returns
returns c =
    let l = c.args.bytes.now in
    let read = body l c.number_4-length.result c.number_4-length.ensures in
    rw c.number_4-length.ensures (body_read l c.requires.0 c.requires.1 (sym c.number_4-length.ensures ∙ c.if-length-ne-LENGTH.false) read c.in_ok-opts.ensures)
