-- `read_longhand` meets its contract. Assumes nothing.
use Rattle.std.proofs.lemmas.Result.{err_from_is_err_and}
use Rattle.longhands.proofs.Longhands.{length_refused}
use Rattle.longhands.proofs.longhand.read_longhand.Goals as goal

pub returns-in_err-length_tested : goal.returns-in_err-length_tested
returns-in_err-length_tested c =
    let p = err_from_is_err_and c.from_residual.result c.from_residual.ensures.1 in
    rw (p.1, p.2) (length_refused c.args.bytes.now c.in_err-length_tested.field-0.0 c.in_err-length_tested.ensures)
