-- `build_part` meets its contract. Assumes nothing.
use mathlib.Core.Path.{◌≡◌, ap, ◌∙◌}
use Prim.Native.Nat.{◌+◌, ◌-◌, ◌≤◌}
use native.Mathlib.Omega.{arith}
use lib.ListN.{length, take, drop, length-drop}
use lib.Seq.{length-take-le}
use Rattle.frames.specs.declared.parts.Part.{Part}
use Rattle.frames.specs.Parts.{length_of}
use Rattle.frames.proofs.Laid.{length_le, part_ends, start_le, part_by}
use Rattle.frames.proofs.Joined.{part_back}
use Rattle.frames.proofs.build.build_part.Goals as goal

pub overflow_add-end : goal.overflow_add-end
overflow_add-end c =
    let a = c.args in
    let r = a.framed.opts in
    let is = part_by r a.part c.parts.ensures c.part-own.ensures c.requires.0 in
    omega (arith, ap (λ (p : Part). p.start) is, ap (λ (p : Part). p.length) is, start_le r a.framed.takes a.part, length_le r a.framed.takes a.part, c.requires.0)

pub slice_bounds-bytes-end : goal.slice_bounds-bytes-end
slice_bounds-bytes-end c =
    let a = c.args in
    let r = a.framed.opts in
    let is = part_by r a.part c.parts.ensures c.part-own.ensures c.requires.0 in
    omega (arith, ap (λ (p : Part). p.start) is, ap (λ (p : Part). p.length) is, part_ends r a.part c.requires.0, c.requires.1)

pub build_spilled-requires : goal.build_spilled-requires
build_spilled-requires c =
    let a = c.args in
    let r = a.framed.opts in
    let start = c.part-own.result.start in
    let end = start + c.part-own.result.length in
    let is = part_by r a.part c.parts.ensures c.part-own.ensures c.requires.0 in
    let inside : end ≤ length a.frame.now = omega (arith, ap (λ (p : Part). p.start) is, ap (λ (p : Part). p.length) is, part_ends r a.part c.requires.0, c.requires.1) in
    let whole : length (take (end - start) (drop start a.frame.now)) ≡ length_of r a.part = length-take-le (end - start) (drop start a.frame.now) (omega (arith, length-drop start a.frame.now, inside)) ∙ omega (arith, ap (λ (p : Part). p.length) is) in
    rw (c.plane.ensures, whole) c.requires.2

pub returns : goal.returns
returns c =
    let a = c.args in
    let r = a.framed.opts in
    let is = part_by r a.part c.parts.ensures c.part-own.ensures c.requires.0 in
    part_back r a.part c.part-own.result.start c.part-own.result.length (ap (λ (p : Part). p.start) is) (ap (λ (p : Part). p.length) is) a.frame.now a.src.now a.src_pitch c.plane.ensures c.build_spilled.ensures
