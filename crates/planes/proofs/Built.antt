-- A build that isn't refused reads and stores in frame and spill alone: it keeps every notion that allows that. First its refining, then the whole. Assumes nothing.
use mathlib.Core.Path.{◌≡◌, refl}
use mathlib.Core.Bool.{true}
use mathlib.Core.List.{List}
use Prim.Native.Nat.{ℕ, ◌+◌, ◌≤◌}
use native.Mathlib.Omega.{arith}
use Rattle.settings.specs.Check.{pel_of}
use Rattle.filters.specs.Refine.{upscale}
use Rattle.layouts.specs.declared.layout.Layout.{Layout}
use Rattle.layouts.specs.Layout.{levels_of}
use Rattle.layouts.specs.Room.{Ready}
use Rattle.builder.specs.Refining.{refine}
use Rattle.builder.proofs.Related.{Bytes, Ups, Rel}
use Rattle.builder.proofs.Stages.{Respects, Keeps, Notion}
use Rattle.builder.proofs.Placed.{Allows, allows_less, stored_placed, fused_placed, source_placed, refine_placed}
use Rattle.planes.specs.Build.{planes_of, refines, built}
use Rattle.planes.proofs.Prepared.{fused_stored, within_here, spread_here}
use Rattle.planes.proofs.Parts.{built_kept}
use Rattle.planes.proofs.Whole.{copied_placed, refine_ready}

pub refining_placed : {E : ℕ → ℕ → Type 0} (B : Bytes E) {N : Notion E} (q : Layout) {n sp len spill scratch : ℕ} → Ready q n sp len spill scratch → Allows N (len + spill) → (refines q ≡ true → Ups E (upscale q.opts.scale_up)) → 1 ≤ levels_of q → refines q ≡ true → Keeps N.R (refine (planes_of q) (pel_of q.opts) (upscale q.opts.scale_up))
refining_placed B q {len = len} {spill = spill} {scratch = scratch} r A ups some e =
    let h = refine_ready q (pel_of q.opts) _ _ refl refl refl e len spill scratch r.layout some r.end r.spills r.room in
    refine_placed B len spill A h.2 (upscale q.opts.scale_up) (ups e) (pel_of q.opts) h.0 h.1

pub built_placed : {E : ℕ → ℕ → Type 0} (B : Bytes E) {N : Notion E} (q : Layout) (src src' : List ℕ) {n sp len spill scratch : ℕ} → Ready q n sp len spill scratch → Allows N (len + spill) → Rel E src src' → (refines q ≡ true → Ups E (upscale q.opts.scale_up)) → Respects N.R (built q src sp len) (built q src' sp len)
built_placed B {N} q src src' {n} {sp} {len} {spill} {scratch} r A same ups =
    let F : Allows N len = allows_less (omega arith) A in
    built_kept q src src' sp len
    (record {
      first = λ some full. copied_placed B q src src' r F same some full;
      later = λ f l some there. record {
        by_fused = λ e. fused_placed B F (within_here q r l some there refl refl (fused_stored q len l e));
        by_stored = λ e. stored_placed B F (within_here q r l some there refl refl e) f;
        by_source = λ e. source_placed B len spill A (spread_here q r l some there refl refl e) f src src' same;
      };
      last = refining_placed B q r A ups;
    })
