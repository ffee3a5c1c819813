-- `reduce_levels` meets its contract. Assumes nothing.
use mathlib.Core.Path.{sym, ap, ◌∙◌}
use lib.ListN.{length}
use Rattle.filters.specs.declared.halving.ReduceFilter.{ReduceFilter}
use Rattle.std.specs.declared.option.Option.{Option}
use Rattle.filters.specs.Halve.{chosen}
use mir.Facts.{to_z-of_z}
use mir.Val.{SFits}
use mir.Syntax.{w32}
use Rattle.builder.specs.Canvas.{bytes_of}
use Rattle.builder.proofs.Runs.{staged_none, staged_as}
use Rattle.planes.specs.Build.{halved_by}
use borrow.Author.Rules.{rules}
use Rattle.planes.proofs.later.reduce_levels.Goals as goal

pub returns-in_default : goal.returns-in_default
unfolding halved_by
returns-in_default c =
    let down : SFits w32 c.args.fitting.layout.opts.scale_down = search rules in
    let a = c.args in
    let none = sym (c.from_option.ensures ∙ ap chosen (to_z-of_z (down))) ∙ c.in_default.is in
    staged_as staged_none (sym (ap (λ (k : Option ReduceFilter). halved_by a.fuse a.fitting.layout a.src.now a.src_pitch (length a.canvas.now.frame.now) k (bytes_of a.canvas.now)) none))
