-- `vertical_line` meets its contract. Assumes nothing.
use mathlib.Core.Path.{sym, ◌∙◌}
use Rattle.builder.proofs.Lines.{inner_reach}
use Rattle.builder.proofs.vertical.vertical_line.Goals as goal

pub inner_line-requires : goal.inner_line-requires
inner_line-requires c = inner_reach c.args.filter c.requires.0 c.requires.1 (sym c.vertical_edge.ensures ∙ c.if-vertical_edge.false)
