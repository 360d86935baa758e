-- Whole numbers with bounds: a value, or why there is none.
use Rattle.std.specs.Prelude.{ℕ, zero, suc, ◌+◌, ◌*◌, ◌-◌, ◌/◌, ◌%◌, Bool, true, false, not, ltb, ℤ, pos, negsuc, neg_ℤ, nat_abs, ◌+ℤ◌, ◌-ℤ◌, ◌*ℤ◌, Result, Ok, Err}
use Rattle.std.specs.Int.Signed.{quot_z, rem_z, non_neg, lt_z, le_z}
use Rattle.bmap.specs.Plain.{both, if_else}
use Rattle.bmap.specs.Limits.{most_value}
use Rattle.bmap.specs.declared.Reason.{Reason}
use Rattle.bmap.specs.declared.Reason.TheVariants.{ZeroDivisor, OutOfRange}
use Rattle.bmap.specs.declared.Operation.{Operation}
use Rattle.bmap.specs.declared.Operation.TheVariants.{Sum, Difference, Product, Quotient, Remainder}
use Rattle.bmap.specs.declared.Single.{Single}
use Rattle.bmap.specs.declared.Single.TheVariants.{Negation, Absolute}
use Rattle.bmap.specs.declared.Comparison.{Comparison}
use Rattle.bmap.specs.declared.Comparison.TheVariants.{Equal, Unequal, Less, AtMost, Greater, AtLeast}
use Rattle.bmap.specs.declared.Junction.{Junction}
use Rattle.bmap.specs.declared.Junction.TheVariants.{And, Or}

-- K2: "Say why a law had no value"
abbrev pub Valued : Type 0 → Type 0
Valued A = Result A Reason

pattern abbrev pub value : {A : Type 0} → A → Valued A
value a = Ok a

pattern abbrev pub no_value : {A : Type 0} → Reason → Valued A
no_value why = Err why

-- "Everything built on a part without value has none"; K2: "Operands are worked out left to right, each before its operation,
-- and the first trouble found is the one given": the left one's, else the right one's, else the operation's own
module _ {A B : Type 0} where
  abbrev pub with1 : (A → Valued B) → Valued A → Valued B
  with1 f (no_value why) = no_value why
  with1 f (value a) = f a

module _ {A B C : Type 0} where
  abbrev pub with2 : (A → B → Valued C) → Valued A → Valued B → Valued C
  with2 f (no_value why) b = no_value why
  with2 f (value a) (no_value why) = no_value why
  with2 f (value a) (value b) = f a b

-- "any result outside −1,000,000,000 to 1,000,000,000, gives no value"
abbrev pub in_bounds : ℤ → Bool
in_bounds z = both (le_z (neg_ℤ (pos most_value)) z) (le_z z (pos most_value))

unfoldable pub bounded : ℤ → Valued ℤ
bounded z = if_else (in_bounds z) (value z) (no_value OutOfRange)

-- "A zero divisor, or any result outside … gives no value"
abbrev pub unless_zero : ℤ → Valued ℤ → Valued ℤ
unless_zero (pos zero) v = no_value ZeroDivisor
unless_zero (pos (suc n)) v = v
unless_zero (negsuc n) v = v

-- K3: "the remainder takes the divisor's sign or is 0": a remainder, and its divisor
abbrev pub takes_sign : ℤ → ℤ → Bool
takes_sign (pos zero) b = true
takes_sign (pos (suc n)) b = non_neg b
takes_sign (negsuc n) b = not (non_neg b)

-- K3: "The quotient is to be rounded down": a quotient toward zero is so already, unless what it leaves has the other sign than the
-- divisor; then the quotient is one less, and the remainder one divisor more
abbrev pub rounded_down : ℤ → ℤ → ℤ
rounded_down a b = if_else (takes_sign (rem_z a b) b) (quot_z a b) (quot_z a b -ℤ pos 1)

abbrev pub remaining : ℤ → ℤ → ℤ
remaining a b = if_else (takes_sign (rem_z a b) b) (rem_z a b) (rem_z a b +ℤ b)

-- "12 sum; 13 difference; 14 product; 15 quotient; 16 remainder"
abbrev pub operate : Operation → ℤ → ℤ → Valued ℤ
operate Sum a b = bounded (a +ℤ b)
operate Difference a b = bounded (a -ℤ b)
operate Product a b = bounded (a *ℤ b)
operate Quotient a b = unless_zero b (bounded (rounded_down a b))
operate Remainder a b = unless_zero b (bounded (remaining a b))

-- "17 negation; 18 absolute value"
abbrev pub change : Single → ℤ → Valued ℤ
change Negation a = bounded (neg_ℤ a)
change Absolute a = bounded (pos (nat_abs a))

abbrev pub same : ℤ → ℤ → Bool
same a b = both (le_z a b) (le_z b a)

-- K6: how large a change is "in either direction", as a whole number
abbrev pub apart : ℤ → ℤ → ℕ
apart a b = nat_abs (b -ℤ a)

-- "20 =, 21 ≠, 22 <, 23 ≤, 24 >, 25 ≥"
abbrev pub compare : Comparison → ℤ → ℤ → Bool
compare Equal a b = same a b
compare Unequal a b = not (same a b)
compare Less a b = lt_z a b
compare AtMost a b = le_z a b
compare Greater a b = lt_z b a
compare AtLeast a b = le_z b a

-- "26 and, 27 or"
abbrev pub join : Junction → Bool → Bool → Bool
join And true b = b
join And false b = false
join Or true b = true
join Or false b = b

-- "19 reified constraint, 1 if true and 0 if false"
abbrev pub flag : Bool → ℤ
flag true = pos 1
flag false = pos 0

-- "Two-byte numbers are high byte first"
abbrev pub word : ℕ → ℕ → ℕ
word hi lo = hi * 256 + lo

-- "values are two's complement"
abbrev pub signed : ℕ → ℤ
signed n = if_else (ltb n 32_768) (pos n) (negsuc (65_535 - n))

unfoldable pub signed_word : ℕ → ℕ → ℤ
signed_word hi lo = signed (word hi lo)

-- the sixteen bits of a value that has so many
abbrev pub bits : ℤ → ℕ
bits (pos n) = n
bits (negsuc n) = 65_535 - n

pub record Bytes : Type 0 where
  pub high : ℕ
  pub low : ℕ

unfoldable pub bytes_of : ℤ → Bytes
bytes_of z = record { high = bits z / 256; low = bits z % 256 }
