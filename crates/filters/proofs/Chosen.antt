-- Settings known by their bits: a down setting that names no filter, and an up setting that is neither 0 nor 1. Assumes nothing.
use mathlib.Core.Path.{◌≡◌, refl}
use Prim.Native.Nat.{ℕ, ◌<◌}
use native.Mathlib.Omega.{arith}
use lib.IntN.{ℤ, pos, negsuc}
use mir.Syntax.{w32}
use mir.Val.{of_z}
use borrow.Author.Tests.{ne_eqb, lt-leb}
use Rattle.std.specs.declared.option.Option.TheVariants.{None}
use Rattle.filters.specs.declared.half_pel.HalfPel.TheVariants.{Wiener}
use Rattle.filters.specs.declared.half_pel.Upscale.TheVariants.{Kernel}
use Rattle.filters.specs.Halve.{chosen}
use Rattle.filters.specs.Refine.{upscale}

above_one : (a : ℕ) → (a ≡ 0 → ⊥) → (a ≡ 1 → ⊥) → 1 < a
above_one a n0 n1 = omega (arith, n0, n1)

pub none_chosen : (z : ℤ) → (of_z w32 z ≡ 0 → ⊥) → (of_z w32 z ≡ 1 → ⊥) → (of_z w32 z ≡ 2 → ⊥) → (of_z w32 z ≡ 3 → ⊥) → (of_z w32 z ≡ 4 → ⊥) → None ≡ chosen z
unfolding chosen
none_chosen (pos a) n0 n1 n2 n3 n4 = rw (lt-leb a 1 (above_one a n0 n1), ne_eqb a 2 n2, ne_eqb a 3 n3, ne_eqb a 4 n4)
none_chosen (negsuc a) n0 n1 n2 n3 n4 = refl

pub wiener_chosen : (z : ℤ) → (of_z w32 z ≡ 0 → ⊥) → (of_z w32 z ≡ 1 → ⊥) → Kernel Wiener ≡ upscale z
unfolding upscale
wiener_chosen (pos a) n0 n1 = rw (ne_eqb a 0 n0, ne_eqb a 1 n1)
wiener_chosen (negsuc a) n0 n1 = refl
