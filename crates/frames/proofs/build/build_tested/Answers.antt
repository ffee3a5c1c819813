-- `build_tested` meets its contract. Assumes nothing.
use mathlib.Core.Path.{◌≡◌, refl, ◌∙◌}
use mathlib.Core.Bool.{Bool, ◌||◌}
use Prim.Native.Nat.{ℕ}
use Rattle.layouts.specs.Layout.{width_at}
use Rattle.layouts.specs.Refusals.{bad_pitch}
use Rattle.frames.specs.Parts.{plane_of}
use Rattle.frames.specs.Build.{three, any_of, build_frame_no}
use Rattle.frames.proofs.build.build_tested.Goals as goal

pub returns-then-bad : goal.returns-then-bad
unfolding build_frame_no
returns-then-bad c =
    let passed = c.args.framed.takes in
    let isBad : ℕ → Bool = λ k. let s = c.args in bad_pitch (three s.y_pitch s.u_pitch s.v_pitch k) (width_at (plane_of s.framed.opts k) 0) in
    let bad : any_of (isBad) ≡ (c.bad_source_pitch.result || c.bad_source_pitch-2.result || c.bad_source_pitch-3.result) = rw (c.bad_source_pitch-3.ensures, c.bad_source_pitch-2.ensures, c.bad_source_pitch.ensures) refl in
    rw (passed, bad ∙ c.if-bad.true) refl

pub returns : goal.returns
unfolding build_frame_no
returns c =
    let passed = c.args.framed.takes in
    let isBad : ℕ → Bool = λ k. let s = c.args in bad_pitch (three s.y_pitch s.u_pitch s.v_pitch k) (width_at (plane_of s.framed.opts k) 0) in
    let bad : any_of (isBad) ≡ (c.bad_source_pitch.result || c.bad_source_pitch-2.result || c.bad_source_pitch-3.result) = rw (c.bad_source_pitch-3.ensures, c.bad_source_pitch-2.ensures, c.bad_source_pitch.ensures) refl in
    c.lent_tested.ensures ∙ rw (passed, bad ∙ c.if-bad.false) refl
