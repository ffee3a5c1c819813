-- `half_planes` meets its contract. Assumes nothing.
use mathlib.Core.Path.{refl, sym, ap}
use lib.ListN.{length}
use Rattle.filters.specs.declared.half_pel.Upscale.{Upscale}
use Rattle.builder.specs.Canvas.{bytes_of}
use Rattle.builder.specs.Refining.{half_planes}
use Rattle.builder.proofs.Runs.{staged_as}
use Rattle.builder.proofs.Inside.{kernel_inside, staged_inside}
use Rattle.builder.proofs.refining.Interp.half_planes.Goals as goal

pub returns-in-Kernel : goal.returns-in-Kernel
unfolding half_planes
returns-in-Kernel c =
    let a = c.args in
    let inside = kernel_inside c.in-Kernel.kernel (length a.canvas.now.frame.now) (length a.scratch.now) a.self a.at.horizontal a.at.vertical a.at.diagonal a.at.ordered c.requires.0 in
    staged_as (staged_inside a.canvas.now inside c.kernel_planes.ensures c.kernel_planes.auto.frame refl)
    (ap (λ (u : Upscale). half_planes u a.self a.at.horizontal a.at.vertical a.at.diagonal (bytes_of a.canvas.now)) (sym c.in-Kernel.is))
