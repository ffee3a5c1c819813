-- Document 01, "How a plane is built": a frame and its spill as one list, the canvas. Reading past it gives 0.
-- Places are natural numbers, so that reading before it can't be asked. Storing is `put` of crate layouts.
-- First what is read; then a run copied; then stages one after the other; last the two slices that a stage is lent.
use Rattle.std.specs.Prelude.{◌≡◌, ℕ, List, ◌++◌, length, get_or, drop}
use Rattle.filters.specs.Row.{tab}
use Rattle.layouts.specs.Storing.{put}
use Rattle.builder.specs.declared.canvas.Canvas.{Canvas}

-- n bytes from at
unfoldable pub fetch : List ℕ → ℕ → ℕ → List ℕ
fetch c at n = let d = drop at c in tab (λ i. get_or d i 0) n

-- a run of n bytes, from s to t
unfoldable pub copy_run : ℕ → ℕ → ℕ → List ℕ → List ℕ
copy_run s t n c = put c t (fetch c s n)

-- one stage after the other
infixl 15 ◌▷◌
abbrev pub ◌▷◌ : List ℕ → (List ℕ → List ℕ) → List ℕ
c ▷ f = f c

-- ---- the slices that are lent as a canvas
abbrev pub bytes_of : Canvas → List ℕ
bytes_of c = c.frame.now ++ c.spill.now

-- d is what the stage makes of c, in the same two slices
pub record Staged (stage : List ℕ → List ℕ) (c d : Canvas) : Type 0 where
  pub bytes : bytes_of d ≡ stage (bytes_of c)
  pub frame_long : length d.frame.now ≡ length c.frame.now
  pub spill_long : length d.spill.now ≡ length c.spill.now
  pub frame_name : d.frame.ghost_name ≡ c.frame.ghost_name
  pub spill_name : d.spill.ghost_name ≡ c.spill.ghost_name
