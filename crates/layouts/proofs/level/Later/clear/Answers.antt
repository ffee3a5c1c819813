-- `clear` meets its contract. Assumes nothing.
use mathlib.Core.Path.{sym, ap, ◌∙◌}
use native.Mathlib.Omega.{arith}
use lib.ListN.{length}
use Rattle.layouts.specs.declared.layout.Region.{Region}
use Rattle.layouts.specs.Layout.{region_at}
use Rattle.layouts.specs.Margins.{fused_at, clear_rows, clear_level}
use Rattle.layouts.proofs.Choices.{cond_yes, cond_no}
use Rattle.layouts.proofs.Layouts.{allowed, level_end, bytes_later, width_fits}
use Rattle.layouts.proofs.level.Later.clear.Goals as goal

pub returns-then-fuses : goal.returns-then-fuses
unfolding clear_level
returns-then-fuses c =
    let t = c.args.self.at in
    let q = t.fitting.layout in
    let f = c.args.frame.now in
    sym (cond_yes (fused_at q (length f) t.level) f (clear_rows (region_at q t.level) q.pitch f) (sym c.fuses.ensures ∙ c.if-fuses.true))

pub clear_rows-requires : goal.clear_rows-requires
clear_rows-requires c =
    let t = c.args.self.at in
    let q = t.fitting.layout in
    rw t.lies (width_fits q (allowed q t.fitting.fits) t.level c.requires.0, omega (arith, level_end q t.level t.there, bytes_later q t.level c.requires.0, c.requires.1))

pub returns : goal.returns
unfolding clear_level
returns c =
    let t = c.args.self.at in
    let q = t.fitting.layout in
    let l = t.level in
    let f = c.args.frame.now in
    c.clear_rows.ensures
    ∙ ap (λ (x : Region). clear_rows x q.pitch f) t.lies
    ∙ sym (cond_no (fused_at q (length f) l) f (clear_rows (region_at q l) q.pitch f) (sym c.fuses.ensures ∙ c.if-fuses.false))
