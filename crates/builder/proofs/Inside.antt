-- Stages that stay inside the frame: a list that follows it isn't seen, and stays. The two canvases of the walk are the frame, and the frame with that list after it. Assumes nothing.
use mathlib.Core.Path.{◌≡◌, refl, sym, ap, ◌∙◌}
use mathlib.Core.List.{List, ◌++◌}
use Prim.Native.Nat.{ℕ, ◌+◌, ◌≤◌}
use native.Mathlib.Omega.{arith}
use lib.ListN.{length}
use Rattle.filters.specs.declared.halving.ReduceFilter.{ReduceFilter}
use Rattle.filters.specs.declared.half_pel.HalfPel.{HalfPel}
use Rattle.layouts.specs.declared.layout.Region.{Region}
use Rattle.layouts.specs.Storing.{put}
use Rattle.builder.specs.declared.refining.Interp.{Interp}
use Rattle.std.specs.Borrow.{MutBor}
use Rattle.builder.specs.declared.canvas.Canvas.{Canvas}
use Rattle.builder.specs.Canvas.{fetch, copy_run, Staged}
use Rattle.builder.specs.Halving.{from_stored, fused}
use Rattle.builder.specs.Refining.{pair_run, mean_planes, kernel_planes}
use Rattle.builder.specs.Room.{Within, Planes, Halves, Tight}
use Rattle.builder.proofs.Runs.{fetch_left, put_length, put_left}
use Rattle.builder.proofs.Related.{Same, same_bytes, same_kernel, rel_same, same_row}
use Rattle.builder.proofs.Stages.{Keeps, Notion, copy_kept, pair_run_kept}
use Rattle.builder.proofs.Placed.{Allows, stored_placed, fused_placed, kernel_placed, tight_placed}

-- what the stage makes of len bytes, it makes of them with S after them too
pub record Inside (len : ℕ) (stage : List ℕ → List ℕ) : Type 0 where
  pub aside : (c S : List ℕ) → length c ≡ len → stage c ++ S ≡ stage (c ++ S)

-- ---- a canvas of len bytes, and the same with S after it
record Beside (len : ℕ) (S c d : List ℕ) : Type 0 where
  pub long : length c ≡ len
  pub is : c ++ S ≡ d

pub beside : ℕ → List ℕ → Notion Same
beside len S =
    record {
      R = Beside len S;
      Sees = λ at n. at + n ≤ len;
      Takes = λ at n. at + n ≤ len;
      fewer = λ at m n le fits. omega arith;
      reads = λ c d at n r fits. rel_same (fetch_left c S at n (omega (arith, r.long)) ∙ ap (λ (x : List ℕ). fetch x at n) r.is);
      stores = λ c d x y at n r fits lx ly s. record {
        long = put_length c at x (omega (arith, r.long)) ∙ r.long;
        is = put_left c S x at (omega (arith, r.long)) ∙ ap (λ (l : List ℕ). put l at x) r.is ∙ ap (put d at) (same_row x y (lx ∙ sym ly) s);
      };
    }

pub beside_allows : (len : ℕ) (S : List ℕ) → Allows (beside len S) len
unfolding beside
beside_allows len S = record { sees = λ at n fits. fits; takes = λ at n fits. fits }

pub inside_by : {len : ℕ} {stage : List ℕ → List ℕ} → ((S : List ℕ) → Keeps (beside len S).R stage) → Inside len stage
unfolding beside
inside_by each = record { aside = λ c S e. ((each S).each c (c ++ S) (record { long = e; is = refl })).is }

-- ---- the stages
pub copy_inside : (len s t n : ℕ) → s + n ≤ len → t + n ≤ len → Inside len (copy_run s t n)
copy_inside len s t n from to = inside_by (λ S. let A = beside_allows len S in copy_kept (beside len S) s t n (A.sees s n from) (A.takes t n to))

pub means_inside : (len t l r n : ℕ) → l + n ≤ len → r + n ≤ len → t + n ≤ len → Inside len (pair_run t l r n)
means_inside len t l r n left right to = inside_by (λ S. let A = beside_allows len S in pair_run_kept same_bytes (beside len S) t l r n (A.sees l n left) (A.sees r n right) (A.takes t n to))

module _ {len scratch base p : ℕ} {t : Region} (w : Within len scratch base p t) where
  pub inside_stored : (f : ReduceFilter) → Inside len (from_stored f base p t)
  inside_stored f = inside_by (λ S. stored_placed same_bytes (beside_allows len S) w f)

  pub inside_fused : Inside len (fused base p t)
  inside_fused = inside_by (λ S. fused_placed same_bytes (beside_allows len S) w)

pub kernel_inside : (k : HalfPel) (len scratch : ℕ) (i : Interp) (a b d : ℕ) → Halves a b d → Planes (d + 1) len scratch i → Inside len (kernel_planes k i a b d)
kernel_inside k len scratch i a b d h P = inside_by (λ S. kernel_placed same_bytes (beside_allows len S) k (same_kernel k) a b d h P)

pub tight_inside : (len scratch : ℕ) (i : Interp) (a b d : ℕ) → Tight i → Halves a b d → Planes (d + 1) len scratch i → Inside len (mean_planes i a b d)
tight_inside len scratch i a b d T h P = inside_by (λ S. tight_placed same_bytes (beside_allows len S) T a b d h P)

-- ---- a stage that was made in the frame of a canvas
pub staged_inside : {stage : List ℕ → List ℕ} (c : Canvas) {f : MutBor (List ℕ)} → Inside (length c.frame.now) stage → f.now ≡ stage c.frame.now → length f.now ≡ length c.frame.now → f.ghost_name ≡ c.frame.ghost_name → Staged stage c (record { frame = f; spill = c.spill })
staged_inside c inside e long name =
    record { bytes = ap (λ (x : List ℕ). x ++ c.spill.now) e ∙ inside.aside c.frame.now c.spill.now refl; frame_long = long; spill_long = refl; frame_name = name; spill_name = refl }
