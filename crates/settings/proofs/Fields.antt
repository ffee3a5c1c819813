-- The fields of a record, and the sizes of a description, are i32. Assumes nothing.
use Prim.Native.Nat.{◌<◌, ◌^◌}
use native.Mathlib.Omega.{arith}
use lib.IntN.{ℤ, pos, negsuc}
use mir.Syntax.{w32}
use mir.Val.{SFits}
use Rattle.settings.specs.declared.super_opts.SuperOpts.{SuperOpts}
use Rattle.settings.specs.declared.word.Description.{Description}
use Rattle.settings.specs.Numbers.{to_nat}
use Rattle.settings.specs.Sizes.{auto_levels}
use Rattle.settings.proofs.Levels.{levels_within}

pub record FieldsFit (r : SuperOpts) : Type 0 where
  pub pel : SFits w32 r.pel
  pub gpu : SFits w32 r.gpu
  pub down : SFits w32 r.scale_down
  pub up : SFits w32 r.scale_up
  pub levels : SFits w32 r.levels
  pub width : SFits w32 r.width
  pub height : SFits w32 r.height

-- the sizes of a description
pub record SizesFit (d : Description) : Type 0 where
  pub width : SFits w32 d.width
  pub height : SFits w32 d.height
  pub pel : SFits w32 d.pel
  pub levels : SFits w32 d.levels
  pub gpu : SFits w32 d.gpu

pub nat_fits : (z : ℤ) → SFits w32 z → to_nat z < 2 ^ 31
nat_fits (pos n) f = f.sfits
nat_fits (negsuc n) f = omega arith

pub levels_fit : (w h : ℤ) → SFits w32 w → auto_levels (to_nat w) (to_nat h) < 2 ^ 31
levels_fit w h f = omega (arith, nat_fits w f, levels_within (to_nat w) (to_nat w) (to_nat h))
