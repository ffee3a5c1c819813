-- The contract of `build_plane`, beside `Post`, what the checker itself reads of the call's `ensures`. Assumes nothing.
use contract.Lifetimes.{Lfts}
use Rattle.settings.specs.Answers.{tested}
use Rattle.settings.proofs.Outcome.{Contract, both_ways}
use Rattle.planes.specs.Build.{BuildLeaves}
use Rattle.planes.proofs.build.build_plane.Reads as build_plane_reads

-- of record, layout, source, source pitch, frame, spill and scratch
pub build_plane_contract : (κs : Lfts 5) → Contract (build_plane_reads.Post κs) (λ x t e. BuildLeaves x.1.1.1.0 x.1.1.1.1.0.now x.1.1.1.1.1.0.now x.1.1.1.1.1.1.0 x.0.now x.1.0.now x.1.1.0.now (tested t) e.0.now e.1.0.now e.1.1.0.now)
build_plane_contract κs x t e = both_ways
