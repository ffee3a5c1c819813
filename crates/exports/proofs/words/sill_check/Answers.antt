-- `sill_check` meets its contract. Assumes nothing.
use mathlib.Core.Path.{◌≡◌, refl, sym, ap, ◌∙◌}
use Rattle.settings.specs.Check.{settled}
use Rattle.settings.specs.Answers.{checked, check_answer, no_record}
use Rattle.settings.proofs.Integers.{same}
use Rattle.answers.specs.Fields.{numbers_of, settings_of}
use Rattle.settings.proofs.Known.{number_of}
use Rattle.answers.proofs.Telling.{tell_refused, tell_given}
use Rattle.exports.proofs.words.sill_check.Goals as goal

pub returns-in-Ok : goal.returns-in-Ok
returns-in-Ok c =
    let asked : checked c.from_opt.result ≡ check_answer (settings_of c.args.given c.args.pel c.args.gpu c.args.down c.args.up c.args.full c.args.rc c.args.lean) c.args.width c.args.height = let a = c.args in
    let fit = c.ranges in
    c.from_opt.ensures ∙ rw (c.settings_of-opt.ensures, same a.pel fit.pel, same a.gpu fit.gpu, same a.down fit.down, same a.up fit.up, same a.full fit.full, same a.rc fit.rc, same a.lean fit.lean, same a.width fit.width, same a.height fit.height) in
    let a = c.args in
    let s = settings_of a.given a.pel a.gpu a.down a.up a.full a.rc a.lean in
    tell_given numbers_of a.fields.now (settled s a.width a.height) no_record (sym (ap checked c.in-Ok.is) ∙ asked) c.numbers_of.ensures c.put.ensures

pub returns-in-Err : goal.returns-in-Err
returns-in-Err c =
    let asked : checked c.from_opt.result ≡ check_answer (settings_of c.args.given c.args.pel c.args.gpu c.args.down c.args.up c.args.full c.args.rc c.args.lean) c.args.width c.args.height = let a = c.args in
    let fit = c.ranges in
    c.from_opt.ensures ∙ rw (c.settings_of-opt.ensures, same a.pel fit.pel, same a.gpu fit.gpu, same a.down fit.down, same a.up fit.up, same a.full fit.full, same a.rc fit.rc, same a.lean fit.lean, same a.width fit.width, same a.height fit.height) in
    let a = c.args in
    let s = settings_of a.given a.pel a.gpu a.down a.up a.full a.rc a.lean in
    tell_refused c.in-Err.f (numbers_of (settled s a.width a.height)) a.fields.now (number_of (sym (ap checked c.in-Err.is) ∙ asked)) c.lowest.ensures refl
