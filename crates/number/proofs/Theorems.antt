-- What the promises of the contracts fix: two bytes and their value say the same, and an answer is the only one that keeps its promise.
use mathlib.Core.Path.{◌≡◌, refl, sym, ap, ◌∙◌}
use mathlib.Core.Bool.{Bool, true, false}
use Prim.Native.Nat.{ℕ, ◌-◌, ◌%◌, ◌<◌}
use native.Mathlib.Nat.{div-add-mod'}
use native.Mathlib.Omega.{arith}
use lib.Dec.{ltb}
use lib.IntN.{ℤ, pos, negsuc}
use lib.Signed.{mag}
use borrow.Author.Tests.{lt-ltb, le-ltb}
use Rattle.bmap.specs.Plain.{if_else}
use Rattle.bmap.specs.Number.{Valued, value, no_value, bounded, operate, word, signed, signed_word, bits, bytes_of}
use Rattle.bmap.specs.declared.Reason.TheVariants.{OutOfRange}
use Rattle.bmap.specs.declared.Operation.TheVariants.{Sum}

-- ---- two bytes

signed_bits : (z : ℤ) → mag z < 32_768 → signed (bits z) ≡ z
signed_bits (pos n) h = rw (lt-ltb n 32_768)
signed_bits (negsuc n) h = rw (le-ltb (65_535 - n) 32_768 (omega arith)) (ap negsuc (omega arith))

-- every 16-bit value is the value of its two bytes
pub value_back : (z : ℤ) → mag z < 32_768 → signed_word (bytes_of z).high (bytes_of z).low ≡ z
unfolding signed_word bytes_of
value_back z h = ap signed (div-add-mod' (bits z) 256) ∙ signed_bits z h

bits_if : (b : Bool) (n : ℕ) → n < 65_536 → bits (if_else b (pos n) (negsuc (65_535 - n))) ≡ n
bits_if true n h = refl
bits_if false n h = omega arith

bits_signed : (n : ℕ) → n < 65_536 → bits (signed n) ≡ n
bits_signed n h = bits_if (ltb n 32_768) n h

-- any two bytes are the bytes of their value
pub bytes_back : (hi lo : ℕ) → hi < 256 → lo < 256 → bytes_of (signed_word hi lo) ≡ record { high = hi; low = lo }
unfolding signed_word bytes_of
bytes_back hi lo p q =
    rw (bits_signed (word hi lo) (omega arith)) (ap (λ (x : ℕ). record { high = x; low = word hi lo % 256 }) (omega arith) ∙ ap (λ (x : ℕ). record { high = hi; low = x }) (omega arith))

-- ---- answers: of an operator's promise two results are equal

pub same_value : {v : Valued ℤ} (a b : Valued ℤ) → a ≡ v → b ≡ v → a ≡ b
same_value a b p q = p ∙ sym q

pub same_truth : {v : Valued Bool} (a b : Valued Bool) → a ≡ v → b ≡ v → a ≡ b
same_truth a b p q = p ∙ sym q

-- ---- cases: the definitions compute, at the bound and for the least word

at_the_bound : operate Sum (pos 999_999_999) (pos 1) ≡ value (pos 1_000_000_000)
unfolding bounded
at_the_bound = refl

past_the_bound : operate Sum (pos 1_000_000_000) (pos 1) ≡ no_value OutOfRange
unfolding bounded
past_the_bound = refl

-- "two's complement", "high byte first"
least_word : signed_word 128 0 ≡ negsuc 32_767
unfolding signed_word
least_word = refl
