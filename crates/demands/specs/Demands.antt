-- Demand 3, byte for byte: what reading a word answers, over the bytes that the records behind it leave. Types only: proofs/Demand.antt has the proof about the calls, from that over the definitions in proofs/Demanded.antt.
-- First what a build is given; then the demand, each part cited, of any `Behind`, the records that pack to a word, and any `Leaves r g m`, that a build by the record r, given g, leaves the bytes m; then what these two are by the calls' contracts; last what they are by the definitions.
use Rattle.std.specs.Prelude.{ℕ, ◌≡◌, ◌↔◌, ◌⊎◌, true, List, ℤ, length, replicate, Ok}
use Rattle.settings.specs.declared.super_opts.SuperOpts.{SuperOpts}
use Rattle.settings.specs.declared.word.Description.{Description}
use Rattle.settings.specs.Reading.{describe}
use Rattle.settings.specs.Answers.{Answer, tested, packed, Returns, pack_answer}
use Rattle.longhands.specs.LittleEndian.{bytes}
use Rattle.layouts.specs.declared.layout.Layout.{Layout}
use Rattle.layouts.specs.Layout.{spill_need, scratch_need}
use Rattle.layouts.specs.Refusals.{build_no}
use Rattle.stored.specs.Layout.{stored_of}
use Rattle.planes.specs.Build.{built_frame, BuildLeaves}

-- ---- "plane, source pitch, layout and starting frame"
-- a layout is what is not the record's: the shifts and the pitch
pub record Inputs : Type 0 where
  pub x_shift : ℕ
  pub y_shift : ℕ
  pub pitch : ℕ
  pub src_pitch : ℕ
  pub plane : List ℕ
  pub frame : List ℕ

abbrev pub with_layout : SuperOpts → Inputs → Layout
with_layout r g = record { opts = r; x_shift = g.x_shift; y_shift = g.y_shift; pitch = g.pitch }

-- ---- two records
-- "leave equal bytes, given the same plane, source pitch, layout and starting frame": what r leaves, s leaves
abbrev pub SameBuild : (SuperOpts → Inputs → List ℕ → Type 0) → SuperOpts → SuperOpts → Type 0
SameBuild Leaves r s = (g : Inputs) (m : List ℕ) → bytes g.plane ≡ true → bytes g.frame ≡ true → Leaves r g m → Leaves s g m

-- "different bytes for some plane, source pitch and layout, the same for both, in a frame of zeros"
pub record Differ (Leaves : SuperOpts → Inputs → List ℕ → Type 0) (r s : SuperOpts) : Type 0 where
  pub at : Inputs
  pub is_bytes : bytes at.plane ≡ true
  pub zeros : at.frame ≡ replicate (length at.frame) 0
  pub one : List ℕ
  pub other : List ℕ
  pub first : Leaves r at one
  pub second : Leaves s at other
  pub unequal : one ≡ other → ⊥

-- "alike but for that one setting"
abbrev pub with_down : SuperOpts → ℤ → SuperOpts
with_down r d =
    record {
      pel = r.pel;
      gpu = r.gpu;
      scale_down = d;
      scale_up = r.scale_up;
      full = r.full;
      rc = r.rc;
      lean = r.lean;
      levels = r.levels;
      width = r.width;
      height = r.height;
    }

abbrev pub with_up : SuperOpts → ℤ → SuperOpts
with_up r u =
    record {
      pel = r.pel;
      gpu = r.gpu;
      scale_down = r.scale_down;
      scale_up = u;
      full = r.full;
      rc = r.rc;
      lean = r.lean;
      levels = r.levels;
      width = r.width;
      height = r.height;
    }

-- "two such records, alike but for that one setting, leave different bytes"
abbrev pub HalvingDiffers : (SuperOpts → Type 0) → (SuperOpts → Inputs → List ℕ → Type 0) → Type 0
HalvingDiffers Behind Leaves = (r : SuperOpts) × (d : ℤ) × Behind r × Behind (with_down r d) × Differ Leaves r (with_down r d)

abbrev pub UpscaleDiffers : (SuperOpts → Type 0) → (SuperOpts → Inputs → List ℕ → Type 0) → Type 0
UpscaleDiffers Behind Leaves = (r : SuperOpts) × (u : ℤ) × Behind r × Behind (with_up r u) × Differ Leaves r (with_up r u)

-- ---- the demand, of an answer by its number and value
pub record Demand3 (Behind : SuperOpts → Type 0) (Leaves : SuperOpts → Inputs → List ℕ → Type 0) (a : Answer Description) : Type 0 where
  -- "names one build exactly if some accepted record packs to it and all that do leave equal bytes"
  pub one : (a.no ≡ 0) ↔ (((r : SuperOpts) × Behind r) × ((r s : SuperOpts) → Behind r → Behind s → SameBuild Leaves r s))
  -- "it then tells the width, .. they all have, and their down and up where document 01 says these matter"
  pub described : a.no ≡ 0 → (r : SuperOpts) → Behind r → a.value ≡ describe r
  -- "It answers "not a code" exactly if none packs to it"
  pub none : (a.no ≡ 20) ↔ ((r : SuperOpts) → Behind r → ⊥)
  -- "that the halving or the upscale filter isn't told exactly if .."; "if both hold, halving is named"
  pub halving : (a.no ≡ 21) ↔ HalvingDiffers Behind Leaves
  pub upscale : (a.no ≡ 22) ↔ (UpscaleDiffers Behind Leaves × (HalvingDiffers Behind Leaves → ⊥))
  -- and no other number
  pub only : (a.no ≡ 0) ⊎ (a.no ≡ 20) ⊎ (a.no ≡ 21) ⊎ (a.no ≡ 22)

-- ---- by the calls' contracts
-- `from_opt` returns the record for some i32 settings and size, and `pack_data` answers the word v for it
abbrev pub PacksTo : ℕ → SuperOpts → Type 0
PacksTo v r = Returns r × (packed (Ok v) ≡ pack_answer r)

-- with the layout that making gives, and some spill and scratch, `build_plane` answers that it is done, and leaves m in the frame
-- the layout is one for all records behind a word, and behind words that prepare alike (`one_layout` and `alike_layout` of proofs/Same.antt and Alike.antt)
pub record CallLeaves (r : SuperOpts) (g : Inputs) (m : List ℕ) : Type 0 where
  pub spill : List ℕ
  pub scratch : List ℕ
  pub spill' : List ℕ
  pub scratch' : List ℕ
  pub call : BuildLeaves r (stored_of (with_layout r g)) g.plane g.src_pitch g.frame spill scratch (tested (Ok tt)) m spill' scratch'

-- ---- by the definitions
-- the build isn't refused, with as much spill and scratch as it needs
abbrev pub Builds : SuperOpts → Inputs → Type 0
Builds r g = let q = with_layout r g in build_no q (length g.plane) g.src_pitch (length g.frame) (spill_need q) (scratch_need q) ≡ 0

abbrev pub leaves : SuperOpts → Inputs → List ℕ
leaves r g = built_frame (with_layout r g) g.plane g.src_pitch g.frame

abbrev pub Leaves : SuperOpts → Inputs → List ℕ → Type 0
Leaves r g m = Builds r g × (m ≡ leaves r g)
