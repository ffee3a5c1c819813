-- Inner: what no offset exceeds, and what a build that isn't refused has of the slices that it is lent.
use Rattle.std.specs.Prelude.{◌≡◌, ℕ, ◌*◌, ◌≤◌}
use Rattle.settings.specs.Limits.{most_side, most_pitch, most_levels}
use Rattle.layouts.specs.declared.layout.Layout.{Layout}
use Rattle.layouts.specs.Layout.{width_at, written_end, spill_need, scratch_need}
use Rattle.layouts.specs.Refusals.{layout_no, source_need}

-- what no offset of an accepted layout exceeds
abbrev pub most_offset : ℕ
most_offset = most_levels * (16 * most_side * most_pitch)

-- what `build_no` leaves: a source plane of n bytes, its rows sp apart, a frame of len bytes, and so many bytes of spill and scratch
pub record Ready (q : Layout) (n sp len spill scratch : ℕ) : Type 0 where
  pub layout : layout_no q ≡ 0
  pub pitch : width_at q 0 ≤ sp
  pub source : source_need q sp ≤ n
  pub end : written_end q ≤ len
  pub spills : spill_need q ≤ spill
  pub room : scratch_need q ≤ scratch
