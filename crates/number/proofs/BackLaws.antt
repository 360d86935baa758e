-- The machine keeps bits: what it reads back of a number that fits is the number.
use Prim.Native.Nat.{◌<◌}
use native.Mathlib.Omega.{arith}
use mathlib.Core.Path.{◌≡◌, ap, ◌∙◌}
use lib.IntN.{ℤ}
use lib.Signed.{mag}
use mir.Syntax.{Width, w16, w32}
use mir.Val.{to_z, of_z}
use mir.Facts.{to_z-of_z}

abbrev pub back : Width → ℤ → ℤ
back w z = to_z w (of_z w z)

pub back16 : (z : ℤ) → mag z < 32_768 → to_z w16 (of_z w16 z) ≡ z
back16 z h = to_z-of_z {w = w16} (record { sfits = h })

pub back32 : (z : ℤ) → mag z < 2_147_483_648 → to_z w32 (of_z w32 z) ≡ z
back32 z h = to_z-of_z {w = w32} (record { sfits = h })

pub widened16 : (z : ℤ) → mag z < 32_768 → to_z w32 (of_z w32 (to_z w16 (of_z w16 z))) ≡ z
widened16 z h = ap (λ (y : ℤ). to_z w32 (of_z w32 y)) (back16 z h) ∙ back32 z (omega arith)
