-- ITU-T H.264, 8.4.2.2.1: "b1 = ( E - 5 * F + 20 * G + 20 * H - 5 * I + J )"; "b = Clip1Y( ( b1 + 16 ) >> 5 )"; Clip1Y( x ) = Clip3( 0, ( 1 << BitDepthY ) - 1, x ), here at 8 bits.
use Rattle.std.specs.Prelude.{◌-◌, ◌^◌, cond, ℤ, pos, ◌+ℤ◌, ◌-ℤ◌, ◌*ℤ◌}
use Rattle.std.specs.Int.Signed.{lt_z}
use Rattle.filters.specs.Refine.{shr}

abbrev pub clip3 : ℤ → ℤ → ℤ → ℤ
clip3 x y z = cond (lt_z z x) x (cond (lt_z y z) y z)

abbrev pub clip1 : ℤ → ℤ
clip1 x = clip3 (pos 0) (pos (2 ^ 8 - 1)) x

-- E F G H I J are the taps m2 m1 c0 p1 p2 p3
unfoldable pub h264b : ℤ → ℤ → ℤ → ℤ → ℤ → ℤ → ℤ
h264b E F G H I J =
    let b1 = E -ℤ pos 5 *ℤ F +ℤ pos 20 *ℤ G +ℤ pos 20 *ℤ H -ℤ pos 5 *ℤ I +ℤ J in
    clip1 (shr (b1 +ℤ pos 16) 5)
