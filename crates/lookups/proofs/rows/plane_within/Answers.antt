-- `plane_within` meets its contract. Assumes nothing.
use mathlib.Core.Path.{◌≡◌, refl, sym, ap, ap₂, ◌∙◌}
use mathlib.Core.Bool.{true, false}
use Prim.Native.Nat.{ℕ, ◌+◌, ◌*◌, ◌≤◌, ◌<◌}
use native.Mathlib.Omega.{arith}
use lib.Dec.{leb}
use borrow.Author.Tests.{le-leb, lt-leb}
use Rattle.settings.specs.declared.refusal.Refusal.TheVariants.{NoRow, Lent}
use Rattle.settings.specs.declared.refusal.BadLent.TheVariants.{Frame}
use Rattle.settings.specs.Limits.{most_side, most_pitch}
use Rattle.settings.specs.Answers.{answer}
use Rattle.settings.proofs.Tests.{or_yes}
use Rattle.settings.proofs.Heights.{prod_le}
use Rattle.settings.proofs.Known.{given, refused}
use Rattle.layouts.specs.declared.layout.Layout.{Layout}
use Rattle.layouts.specs.declared.layout.Region.{Region}
use Rattle.layouts.specs.declared.level.Level.{Level}
use Rattle.layouts.specs.Layout.{levels_of, height_at, stored_at, region_at}
use Rattle.layouts.proofs.Loops.{row_in}
use Rattle.layouts.proofs.Layouts.{allowed, levels_le, offset_le, planes_le}
use Rattle.stored.specs.Layout.{view_of}
use Rattle.lookups.specs.Refusals.{no_plane, level_plane_no}
use Rattle.lookups.specs.Answers.{level_plane, no_level_plane}
use Rattle.lookups.proofs.Numbers.{plane_kept, frame_short, frame_long, plane_last}
use Rattle.lookups.proofs.rows.plane_within.Goals as goal

-- the planes before it are few, and so are their bytes
small : (t : Level) (l k : ℕ) {n : ℕ} → t.level ≡ l → n ≡ stored_at t.fitting.layout l → k < n → k * t.region.height ≤ 16 * most_side
small t l k at e lt =
    let q = t.fitting.layout in
    rw t.lies (omega (arith, row_in k (stored_at q t.level) (height_at q t.level) (rw at (omega (arith, e, lt))), planes_le q (allowed q t.fitting.fits) t.level))

bytes : (t : Level) (l k : ℕ) {n : ℕ} → t.level ≡ l → n ≡ stored_at t.fitting.layout l → k < n → k * t.region.height * t.fitting.layout.pitch ≤ 16 * most_side * most_pitch
bytes t l k at e lt = prod_le (16 * most_side) most_pitch (small t l k at e lt) (allowed t.fitting.layout t.fitting.fits).most

pub returns-then-len-end : goal.returns-then-len-end
returns-then-len-end c =
    let a = c.args in
    let r = a.stored.opts in
    let l = a.stored.numbers.now in
    let short = frame_short r l a.len a.stored.passes (omega (arith, c.end.ensures, c.if-len-end.true)) in
    refused (level_plane_no r l a.len a.level a.plane) (Lent Frame) (level_plane (view_of r l) a.level a.plane) no_level_plane (plane_kept r l a.len (Lent Frame) a.level a.plane short)

pub returns-then-levels-level : goal.returns-then-levels-level
returns-then-levels-level c =
    let a = c.args in
    let r = a.stored.opts in
    let l = a.stored.numbers.now in
    let q = view_of r l in
    let long = frame_long r l a.len a.stored.passes (omega (arith, c.end.ensures, c.if-len-end.false)) in
    let past : leb (levels_of q) a.level ≡ true = le-leb (levels_of q) a.level (omega (arith, c.levels.ensures, c.if-levels-level.true)) in
    refused (level_plane_no r l a.len a.level a.plane) NoRow (level_plane q a.level a.plane) no_level_plane (rw past at (plane_last r l a.len a.level a.plane long))

pub returns-then-stored-plane : goal.returns-then-stored-plane
returns-then-stored-plane c =
    let a = c.args in
    let r = a.stored.opts in
    let l = a.stored.numbers.now in
    let q = view_of r l in
    let long = frame_long r l a.len a.stored.passes (omega (arith, c.end.ensures, c.if-len-end.false)) in
    let planes : c.stored.result ≡ stored_at q a.level = c.stored.ensures ∙ ap (λ (x : Layout). stored_at x a.level) c.level-at.ensures.0 in
    let past : leb (stored_at q a.level) a.plane ≡ true = le-leb (stored_at q a.level) a.plane (omega (arith, planes, c.if-stored-plane.true)) in
    refused (level_plane_no r l a.len a.level a.plane) NoRow (level_plane q a.level a.plane) no_level_plane (rw (past, or_yes (leb (levels_of q) a.level)) at (plane_last r l a.len a.level a.plane long))

pub overflow_mul-result : goal.overflow_mul-result
overflow_mul-result c = omega (arith, small c.level-at.result c.args.level c.args.plane c.level-at.ensures.1 c.stored.ensures c.if-stored-plane.false)

pub overflow_mul-result-2 : goal.overflow_mul-result-2
overflow_mul-result-2 c = omega (arith, bytes c.level-at.result c.args.level c.args.plane c.level-at.ensures.1 c.stored.ensures c.if-stored-plane.false)

pub overflow_add-result : goal.overflow_add-result
overflow_add-result c =
    let t = c.level-at.result in
    let q = t.fitting.layout in
    let a = allowed q t.fitting.fits in
    omega (arith, bytes t c.args.level c.args.plane c.level-at.ensures.1 c.stored.ensures c.if-stored-plane.false, ap (λ (x : Region). x.offset) t.lies, offset_le q a t.level (omega (arith, levels_le q a, t.there)))

pub returns : goal.returns
returns c =
    let a = c.args in
    let r = a.stored.opts in
    let l = a.stored.numbers.now in
    let q = view_of r l in
    let t = c.level-at.result in
    let long = frame_long r l a.len a.stored.passes (omega (arith, c.end.ensures, c.if-len-end.false)) in
    let planes : c.stored.result ≡ stored_at q a.level = c.stored.ensures ∙ ap (λ (x : Layout). stored_at x a.level) c.level-at.ensures.0 in
    let e : no_plane q a.level a.plane ≡ false = rw (lt-leb (levels_of q) a.level (omega (arith, c.levels.ensures, c.if-levels-level.false)), lt-leb (stored_at q a.level) a.plane (omega (arith, planes, c.if-stored-plane.false))) refl in
    ap₂ (λ (x : Region) (p : ℕ). answer 0 (record { start = x.offset + a.plane * x.height * p; width = x.width; height = x.height; pitch = p })) (t.lies ∙ ap₂ region_at c.level-at.ensures.0 c.level-at.ensures.1) (ap (λ (x : Layout). x.pitch) c.level-at.ensures.0)
    ∙ given (level_plane_no r l a.len a.level a.plane) (level_plane q a.level a.plane) no_level_plane (rw e at (sym (plane_last r l a.len a.level a.plane long)))
