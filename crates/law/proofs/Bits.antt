-- Bits of a mask.
use mathlib.Core.Path.{◌≡◌}
use mathlib.Core.Bool.{false}
use Prim.Native.Nat.{ℕ, ◌/◌, ◌^◌, ◌≤◌, ◌<◌}
use native.Mathlib.Nat.{lt_of_lt_of_le, div-eq_of_lt}
use lib.Pow.{pow_mono}
use Rattle.bmap.specs.Domain.{has}

-- a mask of w bits has none from w on
pub no_bit : (w mask i : ℕ) → mask < 2 ^ w → w ≤ i → false ≡ has mask i
no_bit w mask i small past =
    let z : mask / 2 ^ i ≡ 0 = div-eq_of_lt (lt_of_lt_of_le small (pow_mono past)) in
    rw z
