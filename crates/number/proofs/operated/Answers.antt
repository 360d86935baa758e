-- The two ways of a quotient and of a remainder meet in one value before its range is asked.
use Rattle.std.proofs.Common.{◌≡◌, refl, ap, ◌∙◌, ℕ, zero, suc, ◌+◌, ◌/◌, ◌≤◌, ℤ, pos, negsuc, neg_ℤ, ◌+ℤ◌, ◌-ℤ◌, Bool, true, false, arith}
use Rattle.std.proofs.lemmas.Int.{ints}
use lib.Signed.{mag, quot_z, rem_z, mag_rem}
use mir.Syntax.{w32, w64}
use mir.Val.{SFits, to_z, of_z}
use mir.Facts.{to_z-of_z}
use native.Mathlib.Nat.{div-le_self}
use Rattle.bmap.specs.Number.{Valued, unless_zero, bounded, takes_sign, rounded_down, remaining}
use Rattle.number.proofs.operated.Goals as goal
use Rattle.number.proofs.operated.Goals.{then-takes_sign, else-takes_sign, then-takes_sign-2, else-takes_sign-2}

mag_neg : (n : ℕ) → mag (neg_ℤ (pos n)) ≤ n
mag_neg zero = omega arith
mag_neg (suc n) = omega arith

mag_quot : (x y : ℤ) → mag (quot_z x y) ≤ mag x + 1
mag_quot (pos a) (pos b) = omega (arith, div-le_self a b)
mag_quot (pos a) (negsuc b) = omega (arith, div-le_self a (suc b), mag_neg (a / suc b))
mag_quot (negsuc a) (pos b) = omega (arith, div-le_self (suc a) b, mag_neg (suc a / b))
mag_quot (negsuc a) (negsuc b) = omega (arith, div-le_self (suc a) (suc b))

-- a divisor is not 0
divisor : (y : ℤ) {r v : Valued ℤ} → (of_z w64 y ≡ 0 → ⊥) → r ≡ v → r ≡ unless_zero y v
divisor (pos zero) h e = absurd (h refl)
divisor (pos (suc n)) h e = e
divisor (negsuc n) h e = e

-- what the machine holds of numbers that fit
abbrev back : ℤ → ℤ
back z = to_z w64 (of_z w64 z)

abbrev wide : ℤ → ℤ
wide z = back (to_z w32 (of_z w32 z))

module _ {x y : ℤ} (f : SFits w32 x) (g : SFits w32 y) where
  wide_x : wide x ≡ x
  wide_x = omega (arith, ints)

  wide_y : wide y ≡ y
  wide_y = omega (arith, ints)

  quotient : back (quot_z x y) ≡ quot_z x y
  quotient = to_z-of_z {w = w64} (record { sfits = omega (arith, mag_quot x y) })

  remainder : back (rem_z x y) ≡ rem_z x y
  remainder = to_z-of_z {w = w64} (record { sfits = omega (arith, mag_rem x y) })

  module _ {t : Bool} (s : t ≡ takes_sign (back (rem_z (wide x) (wide y))) (wide y)) {z : ℤ} where
    quotient_stays : t ≡ true → z ≡ back (quot_z (wide x) (wide y)) → z ≡ rounded_down x y
    quotient_stays b e = let q = rw (wide_x, wide_y, remainder, b) at s in e ∙ rw (wide_x, wide_y, quotient, ← q)

    quotient_falls : t ≡ false → z ≡ back (back (quot_z (wide x) (wide y)) -ℤ pos 1) → z ≡ rounded_down x y
    quotient_falls b e = let q = rw (wide_x, wide_y, remainder, b) at s in e ∙ rw (wide_x, wide_y, quotient, ← q) (omega (arith, ints, mag_quot x y))

    remainder_stays : t ≡ true → z ≡ back (rem_z (wide x) (wide y)) → z ≡ remaining x y
    remainder_stays b e = let q = rw (wide_x, wide_y, remainder, b) at s in e ∙ rw (wide_x, wide_y, remainder, ← q)

    remainder_rises : t ≡ false → z ≡ back (back (rem_z (wide x) (wide y)) +ℤ wide y) → z ≡ remaining x y
    remainder_rises b e = let q = rw (wide_x, wide_y, remainder, b) at s in e ∙ rw (wide_x, wide_y, remainder, ← q) (omega (arith, ints, mag_rem x y))

pub returns-after-takes_sign : goal.returns-after-takes_sign
returns-after-takes_sign c =
    rw c.in-Quotient.is (divisor c.args.y (rw (to_z-of_z {w = w32} c.ranges.y) at c.if-q-eq0.false) (c.kept-in-Quotient.ensures ∙ ap bounded (elim c.if-takes_sign.branch [
      | then-takes_sign w ↦ quotient_stays c.ranges.x c.ranges.y c.takes_sign.ensures w.if-takes_sign.true w.kept-is
      | else-takes_sign w ↦ quotient_falls c.ranges.x c.ranges.y c.takes_sign.ensures w.if-takes_sign.false w.kept-is
    ])))

pub returns-after-takes_sign-2 : goal.returns-after-takes_sign-2
returns-after-takes_sign-2 c =
    rw c.in-Remainder.is (divisor c.args.y (rw (to_z-of_z {w = w32} c.ranges.y) at c.if-q-eq0-2.false) (c.kept-in-Remainder.ensures ∙ ap bounded (elim c.if-takes_sign-2.branch [
      | then-takes_sign-2 w ↦ remainder_stays c.ranges.x c.ranges.y c.takes_sign-in-Remainder.ensures w.if-takes_sign-2.true w.kept-is
      | else-takes_sign-2 w ↦ remainder_rises c.ranges.x c.ranges.y c.takes_sign-in-Remainder.ensures w.if-takes_sign-2.false w.kept-is
    ])))
