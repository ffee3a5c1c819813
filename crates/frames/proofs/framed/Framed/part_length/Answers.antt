-- `part_length` meets its contract. Assumes nothing.
use mathlib.Core.Path.{ap, ◌∙◌}
use native.Mathlib.Omega.{arith}
use Rattle.settings.specs.declared.super_opts.Naturals.{Naturals}
use Rattle.settings.proofs.Accepted.{levels_most}
use Rattle.frames.proofs.Laid.{taken, length_by}
use Rattle.frames.proofs.framed.Framed.part_length.Goals as goal

pub offset-requires : goal.offset-requires
offset-requires c = omega (arith, ap (λ (x : Naturals). x.levels) c.naturals.ensures, levels_most c.args.self.opts (taken c.args.self.opts c.args.self.takes).good)

pub returns : goal.returns
returns c = c.offset.ensures ∙ length_by c.args.self.opts c.args.part c.plane.ensures (ap (λ (x : Naturals). x.levels) c.naturals.ensures)
