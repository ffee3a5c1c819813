-- `cubic_fits` meets its contract. Assumes nothing.
use borrow.Author.Tests.{le-leb, lt-leb}
use Rattle.layouts.specs.Margins.{cubic_fits}
use Rattle.layouts.proofs.margins.cubic_fits.Goals as goal

pub returns-then-target-lt8 : goal.returns-then-target-lt8
unfolding cubic_fits
returns-then-target-lt8 c = let t = c.args.target in rw (lt-leb 8 t.width c.if-target-lt8.true)

pub returns-then-target-lt2 : goal.returns-then-target-lt2
unfolding cubic_fits
returns-then-target-lt2 c = let t = c.args.target in rw (le-leb 8 t.width c.if-target-lt8.false, lt-leb 2 t.height c.if-target-lt2.true)

pub returns : goal.returns
unfolding cubic_fits
returns c = let t = c.args.target in rw (le-leb 8 t.width c.if-target-lt8.false, le-leb 2 t.height c.if-target-lt2.false)
