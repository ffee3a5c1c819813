-- `shifted` meets its contract. Assumes nothing.
use Rattle.layouts.proofs.Layouts.{shifted_out}
use Rattle.layouts.proofs.levels.shifted.Goals as goal

pub returns : goal.returns
returns c = shifted_out c.args.n c.args.shift c.ranges.n.fits c.if-shift-lt32.false
