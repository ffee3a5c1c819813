-- `plane` meets its contract. Assumes nothing.
use Rattle.frames.proofs.Laid.{laid_plane}
use Rattle.frames.proofs.framed.Framed.plane.Goals as goal

pub invariant_of-result : goal.invariant_of-result
invariant_of-result c = record { fits = laid_plane c.args.self.opts c.args.self.takes c.args.part c.plane_of-layout.ensures }
