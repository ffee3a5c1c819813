-- Inner: what the inner calls need of the slices that they are lent. Document 01 has none of it; `layout_no`, `build_no` and the laws of proofs/ give it to each.
use Rattle.std.specs.Prelude.{◌≡◌, ℕ, ◌+◌, ◌*◌, ◌/◌, ◌≤◌, ◌<◌}
use Rattle.settings.specs.Limits.{most_side, most_pitch}
use Rattle.layouts.specs.declared.layout.Region.{Region}
use Rattle.builder.specs.declared.refining.Interp.{Interp}
use Rattle.builder.specs.declared.refining.Pair.{Pair}
use Rattle.builder.specs.Refining.{chunked}

-- a source of len bytes has, from base on, 2 * h rows of n bytes, sp apart
pub record Source (len base sp n h : ℕ) : Type 0 where
  pub rows : base + h * (2 * sp) + n ≤ len + sp

-- target level t lies in a frame of len bytes, past its source at base; scratch holds a row of it before and after it is taken apart
pub record Within (len scratch base p : ℕ) (t : Region) : Type 0 where
  pub some : 1 ≤ t.width
  pub high : 2 ≤ t.height
  pub fits : 2 * t.width ≤ p
  pub source : base + t.height * (2 * p) ≤ t.offset
  pub target : t.offset + t.height * p ≤ len
  pub room : 2 * p + 2 ≤ scratch

-- level 1 from a source plane of n bytes, its rows 2 * p apart in frame and spill
pub record Spread (n sp len spill scratch p : ℕ) (t : Region) : Type 0 where
  pub some : 1 ≤ t.width
  pub fits : t.width ≤ p
  pub narrow : 2 * t.width ≤ most_side
  pub source : Source n 0 sp (2 * t.width) t.height
  pub beyond : t.offset + t.height * (2 * p) ≤ len + spill
  pub room : 2 * p ≤ scratch

-- a pair's row of n bytes at t, from those at l and r, in a frame of len bytes and its spill
pub record PairRow (len spill scratch t l r n : ℕ) : Type 0 where
  pub target : t + n ≤ len + spill
  pub left : l ≤ len
  pub right : r ≤ len
  pub room : 3 * n ≤ scratch

-- planes of a pair at t, from those at l and r, in a frame of len bytes: the last row ends in it or in the spill
pub record PairPlane (len spill scratch : ℕ) (i : Interp) (t l r : ℕ) : Type 0 where
  pub fits : i.width ≤ i.pitch
  pub most : i.pitch ≤ most_pitch
  pub target : t + i.height * i.pitch ≤ len
  pub left : l + i.height * i.pitch ≤ len
  pub right : r + i.height * i.pitch ≤ len
  pub beyond : 16 ≤ spill
  pub room : 16 * (i.pitch + 16) ≤ scratch

-- a plane at t from rows of one at s, both in a frame of len bytes; scratch holds a row
pub record OnePlane (len scratch rows : ℕ) (i : Interp) (t s : ℕ) : Type 0 where
  pub fits : i.width ≤ i.pitch
  pub most : i.height ≤ most_side
  pub source : s + rows * i.pitch ≤ len
  pub target : t + i.height * i.pitch ≤ len
  pub room : i.width ≤ scratch

-- k planes lie in a frame of len bytes, from its start
pub record Planes (k len scratch : ℕ) (i : Interp) : Type 0 where
  pub wide : 2 ≤ i.width
  pub fits : i.width ≤ i.pitch
  pub most_pitch_lem : i.pitch ≤ most_pitch
  pub high : 2 ≤ i.height
  pub most_height : i.height ≤ most_side
  pub inside : k * (i.height * i.pitch) ≤ len
  pub room : 16 * (i.pitch + 16) ≤ scratch

-- plane k, from plane 0 and the places r on, its first row from s: not plane 0 itself, and a row and a byte on at most
pub record FirstRow (k r s : ℕ) (i : Interp) : Type 0 where
  pub some : 1 ≤ k
  pub most : k ≤ 15
  pub near : r ≤ i.pitch + 1
  pub first : s ≤ 1

-- the numbers of the planes at half places, in their order
pub record Halves (horizontal vertical diagonal : ℕ) : Type 0 where
  pub first : 1 ≤ horizontal
  pub across : horizontal < vertical
  pub below : vertical < diagonal
  pub most : diagonal ≤ 15

-- planes at half places that blocks of 64 bytes make at once: the chunks of rows lie end to end, a plane is whole blocks, and what a block reads, up to a row and a byte further on, lies before the block of the next plane
pub record Tight (i : Interp) : Type 0 where
  pub rows : chunked i.width ≡ i.pitch
  pub blocks : i.height * i.pitch / 64 * 64 ≡ i.height * i.pitch
  pub near : i.pitch + 64 < i.height * i.pitch

-- planes at a, b and d, after plane 0 and one after the other, in a frame of len bytes
pub record Three (len : ℕ) (i : Interp) (a b d : ℕ) : Type 0 where
  pub first : i.height * i.pitch ≤ a
  pub second : a + i.height * i.pitch ≤ b
  pub third : b + i.height * i.pitch ≤ d
  pub inside : d + i.height * i.pitch ≤ len

-- a pair of 16 planes: one follows the left, so that it can be read further on
pub record Quarter (pair : Pair) : Type 0 where
  pub target : pair.target ≤ 15
  pub left : pair.left ≤ 14
  pub right : pair.right ≤ 15
  pub across : pair.across ≤ 1
  pub below : pair.below ≤ 1
