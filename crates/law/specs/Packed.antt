-- An answer in one word: the place just after the tree, whether there is a value, and 32 bits of it, or of why there is none.
use Rattle.std.specs.Prelude.{ℕ, zero, suc, ◌/◌, ◌%◌, Bool, eqb, ℤ, pos, ◌-ℤ◌}
use Rattle.bmap.specs.Plain.{if_else}
use Rattle.bmap.specs.Number.{Valued, value, no_value}
use Rattle.bmap.specs.declared.Reason.{Reason}
use Rattle.bmap.specs.declared.Reason.TheVariants.{ZeroDivisor, OutOfRange}
use Rattle.law.specs.Evaluate.{Meant, malformed, gives}

-- 2 to the 32, and half of it
abbrev pub room : ℕ
room = 4_294_967_296

abbrev pub half : ℕ
half = 2_147_483_648

abbrev pub end_in : ℕ → ℕ
end_in r = r / room / 2

-- the bits of a reason, and the reason of some bits
abbrev pub reason_bits : Reason → ℕ
reason_bits ZeroDivisor = 0
reason_bits OutOfRange = 1

abbrev pub reason_at : ℕ → Reason
reason_at n = if_else (eqb n 1) OutOfRange ZeroDivisor

abbrev pub bits_in : {A : Type 0} → (ℕ → A) → ℕ → Valued A
bits_in f r = if_else (eqb (r / room % 2) 0) (no_value (reason_at (r % room))) (value (f (r % room)))

unfoldable pub value_in : ℕ → Valued ℤ
value_in r = bits_in (λ n. pos n -ℤ pos half) r

unfoldable pub truth_in : ℕ → Valued Bool
truth_in r = bits_in (λ n. eqb n 1) r

-- at place 0 no tree ends
abbrev pub placed : {A : Type 0} → A → ℕ → Meant A
placed v zero = malformed
placed v (suc n) = gives v (suc n)

abbrev pub evaluated_in : ℕ → Meant (Valued ℤ)
evaluated_in r = placed (value_in r) (end_in r)

abbrev pub judged_in : ℕ → Meant (Valued Bool)
judged_in r = placed (truth_in r) (end_in r)
