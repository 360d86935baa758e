-- An answer in one word, packed and taken apart again.
use mathlib.Core.Path.{◌≡◌, refl, sym, ap, ◌∙◌}
use Prim.Native.Nat.{ℕ, zero, suc, ◌+◌, ◌*◌, ◌/◌, ◌%◌, ◌<◌}
use native.Mathlib.Nat.{add-zero}
use native.Mathlib.Omega.{arith}
use mir.Syntax.{w32, w64}
use mir.Val.{SFits, to_z, of_z}
use borrow.Author.Tests.{eq-eqb, ne_eqb}
use lib.IntN.{ℤ, pos, nat_abs, ◌+ℤ◌, ◌-ℤ◌}
use Rattle.std.proofs.lemmas.Int.{ints}
use Rattle.bmap.specs.Number.{value, no_value}
use Rattle.bmap.specs.declared.Reason.{Reason}
use Rattle.bmap.specs.declared.Reason.TheVariants.{ZeroDivisor, OutOfRange}
use Rattle.law.specs.Evaluate.{malformed, gives}
use Rattle.law.specs.Packed.{room, half, end_in, reason_at, reason_bits, bits_in, placed}

-- no tree ends at 0
module _ {A : Type 0} (v : A) where
  nowhere : {n : ℕ} → n ≡ 0 → malformed ≡ placed v n
  nowhere e = rw e

  pub there : (n : ℕ) → (n ≡ 0 → ⊥) → gives v n ≡ placed v n
  there zero h = absurd (h refl)
  there (suc n) h = refl

  -- what stands there is what it gives
  pub placed_value : {w : A} {m : ℕ} (n : ℕ) → placed v n ≡ gives w m → v ≡ w
  placed_value zero e = cc
  placed_value (suc n) e = cc

-- as a tree's end was read
module _ {A : Type 0} (v : A) {e n : ℕ} (is : e ≡ n) where
  pub ends_nowhere : e ≡ 0 → malformed ≡ placed v n
  ends_nowhere z = nowhere v (sym is ∙ z)

  pub ends_there : (e ≡ 0 → ⊥) → gives v e ≡ placed v n
  ends_there h = ap (gives v) is ∙ there v n (λ z. h (is ∙ z))

-- a reason and its bits
reason_back : (why : Reason) → reason_at (reason_bits why) ≡ why
reason_back ZeroDivisor = refl
reason_back OutOfRange = refl

reason_small : (why : Reason) → reason_bits why < 2
reason_small ZeroDivisor = omega arith
reason_small OutOfRange = omega arith

-- what 32 bits say
module _ {A : Type 0} (f : ℕ → A) (r : ℕ) where
  pub without : {why : Reason} → r / room % 2 ≡ 0 → why ≡ reason_at (r % room) → no_value why ≡ bits_in f r
  without e q = rw (eq-eqb (r / room % 2) 0 e, q)

  pub within : (r / room % 2 ≡ 0 → ⊥) → value (f (r % room)) ≡ bits_in f r
  within e = rw (ne_eqb (r / room % 2) 0 e)

-- the place and the bits, in one word
module _ {A : Type 0} (f : ℕ → A) (end : ℕ) where
  pub packed_none : (why : Reason) {low : ℕ} → low ≡ reason_bits why → placed (bits_in f (end * 2 * room + low)) (end_in (end * 2 * room + low)) ≡ placed (no_value why) end
  packed_none why {low} e =
      let top : (end * 2 * room + low) / room ≡ end * 2 = omega (arith, reason_small why) in
      let bits : (end * 2 * room + low) % room ≡ low = omega (arith, reason_small why) in
      let even : end * 2 % 2 ≡ 0 = omega arith in
      let place : end * 2 / 2 ≡ end = omega arith in
      rw (top, bits, even, place, e, reason_back why)

  pub packed_some : (low : ℕ) → low < room → placed (bits_in f ((end * 2 + 1) * room + low)) (end_in ((end * 2 + 1) * room + low)) ≡ placed (value (f low)) end
  packed_some low h =
      let top : ((end * 2 + 1) * room + low) / room ≡ end * 2 + 1 = omega arith in
      let bits : ((end * 2 + 1) * room + low) % room ≡ low = omega arith in
      let odd : (end * 2 + 1) % 2 ≡ 1 = omega arith in
      let place : (end * 2 + 1) / 2 ≡ end = omega arith in
      rw (top, bits, odd, place)

  -- the bits 0 are not added
  pub packed_zero : placed (bits_in f ((end * 2 + 1) * room)) (end_in ((end * 2 + 1) * room)) ≡ placed (value (f 0)) end
  packed_zero = simp add-zero at (packed_some 0 (omega arith))

-- A number of 32 bits, moved by half of what they hold to be at least 0, and back.
abbrev pub lowered : ℕ → ℤ
lowered n = pos n -ℤ pos half

-- as the machine does it
module _ {z : ℤ} (f : SFits w32 z) where
  abbrev bits : ℕ
  bits = nat_abs (to_z w64 (of_z w64 (to_z w64 (of_z w64 (to_z w32 (of_z w32 z))) +ℤ pos half)))

  bits_small : bits < room
  bits_small = omega (arith, ints)

  bits_back : lowered bits ≡ z
  bits_back = omega (arith, ints)

  pub packs : (end : ℕ) → placed (bits_in lowered ((end * 2 + 1) * room + bits)) (end_in ((end * 2 + 1) * room + bits)) ≡ placed (value z) end
  packs end = packed_some lowered end bits bits_small ∙ ap (λ (y : ℤ). placed (value y) end) bits_back

pub lowers : (n : ℕ) → n < room → value (to_z w32 (of_z w32 (to_z w64 (of_z w64 (to_z w64 n -ℤ pos half))))) ≡ value (lowered n)
lowers n h = ap (λ (y : ℤ). value y) (omega (arith, ints))
