-- `word` meets its contract. Assumes nothing.
use mathlib.Core.Path.{ap}
use native.Mathlib.Omega.{arith}
use Rattle.settings.specs.declared.super_opts.Naturals.{Naturals}
use Rattle.settings.specs.Word.{word_of}
use Rattle.settings.proofs.Words.{small}
use Rattle.settings.proofs.record.Accepted.word.Goals as goal

pub joined-requires : goal.joined-requires
joined-requires c =
    let s = small c.args.self.opts c.args.self.good in
    let e = c.naturals-n.ensures in
    omega (arith, c.level_flags.ensures, ap (λ (x : Naturals). x.height) e, ap (λ (x : Naturals). x.width) e, ap (λ (x : Naturals). x.pel) e, ap (λ (x : Naturals). x.levels) e, ap (λ (x : Naturals). x.gpu) e)

pub returns : goal.returns
unfolding word_of
returns c =
    let e = c.naturals-n.ensures in
    omega (arith, c.joined.ensures, c.flags.ensures, c.level_flags.ensures, ap (λ (x : Naturals). x.height) e, ap (λ (x : Naturals). x.width) e, ap (λ (x : Naturals). x.pel) e, ap (λ (x : Naturals). x.levels) e, ap (λ (x : Naturals). x.gpu) e)
