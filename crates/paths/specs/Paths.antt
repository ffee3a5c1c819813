-- Document 02, order 2: "Two cubic paths, one picture." What is stated of them; proofs/ has the proofs.
-- First the two ways of halving a level, and where both can be taken; then one level: one equation, and the order's own sentences; last whole builds: what a site asks, the margins that its answer turns on, and pictures in turn.
use Rattle.std.specs.Prelude.{◌≡◌, Bool, true, false, ◌||◌, List, [], ◌∷◌, ◌⊎◌, ℕ, suc, ◌+◌, ◌*◌, ◌-◌, ◌≤◌, ◌<◌, leb, length, get_or}
use Rattle.filters.specs.declared.halving.ReduceFilter.TheVariants.{Cubic}
use Rattle.layouts.specs.declared.layout.Layout.{Layout}
use Rattle.layouts.specs.declared.layout.Region.{Region}
use Rattle.layouts.specs.Layout.{levels_of, width_at, height_at, offset_at, region_at, spill_need, scratch_need}
use Rattle.layouts.specs.Refusals.{build_no}
use Rattle.layouts.specs.Margins.{cubic_fits, fused_at, clear_from}
use Rattle.builder.specs.Halving.{from_stored, fused}
use Rattle.planes.specs.Build.{frame_by}

-- ---- "fused and generic halving": level l of q, from the level before it in the frame c
abbrev pub fused_halving : Layout → ℕ → List ℕ → List ℕ
fused_halving q l c = fused (offset_at q (l - 1)) q.pitch (region_at q l) c

abbrev pub generic_halving : Layout → ℕ → List ℕ → List ℕ
generic_halving q l c = from_stored Cubic (offset_at q (l - 1)) q.pitch (region_at q l) c

-- "in a frame that building accepts, if `cubic_fits` holds and the source level is already stored": level l of q, in a frame of len bytes. (Down may be any: the two ways are functions of frame and level.)
pub record BothWays (q : Layout) (len l : ℕ) : Type 0 where
  -- a source plane of so many bytes, its pitch, and so many bytes of spill and scratch, with which a build isn't refused
  pub source : ℕ
  pub src_pitch : ℕ
  pub spill : ℕ
  pub scratch : ℕ
  pub accepts : build_no q source src_pitch len spill scratch ≡ 0
  -- a later level, whose source is a later one too, or level 0 of a full record
  pub later : 1 ≤ l
  pub there : l < levels_of q
  pub stored : (q.opts.full || leb 2 l) ≡ true
  pub fits : cubic_fits (offset_at q (l - 1)) q.pitch (region_at q l) len ≡ true

-- base, pitch and target of a call, as a build hands them on for level l of q
pub record ForLevel (q : Layout) (l base pitch : ℕ) (target : Region) : Type 0 where
  pub base_is : base ≡ offset_at q (l - 1)
  pub pitch_is : pitch ≡ q.pitch
  pub target_is : target ≡ region_at q l

-- ---- one level
-- one equation, from which the sentences follow: the fused frame f is the generic frame g with zeros from 2 * width to the pitch
abbrev pub MarginsZeroed : Layout → ℕ → List ℕ → List ℕ → Type 0
MarginsZeroed q l f g = f ≡ clear_from (2 * width_at q l) (region_at q l) q.pitch g

-- column j of row y
abbrev pub place_at : Layout → ℕ → ℕ → ℕ → ℕ
place_at q l y j = offset_at q l + y * q.pitch + j

-- the sentences, of the frame c and what the fused (f) and the generic halving (g) leave of it
pub record OnePicture (q : Layout) (l : ℕ) (c f g : List ℕ) : Type 0 where
  pub fused_long : length f ≡ length c
  pub generic_long : length g ≡ length c
  -- "fused and generic halving from the same frame agree on the first 2 * width bytes of every target row"
  pub agree : (y j : ℕ) → y < height_at q l → j < 2 * width_at q l → get_or f (place_at q l y j) 0 ≡ get_or g (place_at q l y j) 0
  -- "what each does from there to the pitch: fused zeroes it, generic keeps it"
  pub zeroed : (y j : ℕ) → y < height_at q l → 2 * width_at q l ≤ j → j < q.pitch → get_or f (place_at q l y j) 0 ≡ 0
  pub kept : (y j : ℕ) → y < height_at q l → 2 * width_at q l ≤ j → j < q.pitch → get_or g (place_at q l y j) 0 ≡ get_or c (place_at q l y j) 0
  -- "No other byte of the frame changes in either."
  pub others : (i : ℕ) → i < length c → (i < offset_at q l) ⊎ (offset_at q l + height_at q l * q.pitch ≤ i) → (get_or f i 0 ≡ get_or c i 0) × (get_or g i 0 ≡ get_or c i 0)

-- from 2 * width to the pitch zeros, in each row of level l
abbrev pub ZeroMargins : Layout → ℕ → List ℕ → Type 0
ZeroMargins q l c = (y j : ℕ) → y < height_at q l → 2 * width_at q l ≤ j → j < q.pitch → get_or c (place_at q l y j) 0 ≡ 0

-- ---- whole builds
-- "asked whether its figures were still comparable": builds with the fused path on and off leave one frame
abbrev pub OneFrame : Layout → List ℕ → ℕ → List ℕ → Type 0
OneFrame q src sp f = frame_by true q src sp f ≡ frame_by false q src sp f

-- of each level that the fused path makes in a frame of len bytes: so in a frame of zeros
abbrev pub FusedMarginsZero : Layout → ℕ → List ℕ → Type 0
FusedMarginsZero q len c = (l : ℕ) → 1 ≤ l → l < levels_of q → fused_at q len l ≡ true → ZeroMargins q l c

-- two calls' layout, source plane, source pitch and frame are one
pub record SameInput (q q' : Layout) (src src' : List ℕ) (sp sp' : ℕ) (f f' : List ℕ) : Type 0 where
  pub one_layout : q' ≡ q
  pub one_source : src' ≡ src
  pub one_pitch : sp' ≡ sp
  pub one_frame : f' ≡ f

-- a picture's plane, its rows «src_pitch» apart
pub record Source : Type 0 where
  pub plane : List ℕ
  pub src_pitch : ℕ

-- pictures prepared one after the other in one frame; `path k` says whether the fused path is on for picture k
unfoldable pub in_turn : (ℕ → Bool) → Layout → List Source → List ℕ → List ℕ
in_turn path q [] f = f
in_turn path q (s ∷ later) f = in_turn (λ k. path (suc k)) q later (frame_by (path 0) q s.plane s.src_pitch f)

-- none of them is refused in a frame of len bytes
abbrev pub AllAccepted : Layout → ℕ → List Source → Type 0
AllAccepted q len [] = Unit
AllAccepted q len (s ∷ later) = (build_no q (length s.plane) s.src_pitch len (spill_need q) (scratch_need q) ≡ 0) × AllAccepted q len later
