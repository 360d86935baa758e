-- The n numbers from one on, and what is read off them. Assumes nothing.
use Prim.Native.Nat.{ℕ, zero, suc, ◌+◌, ◌≤◌, ◌<◌}
use mathlib.Core.Path.{◌≡◌, refl, ap, ◌∙◌}
use mathlib.Core.List.{map}
use mathlib.Core.Bool.{Bool, true}
use native.Mathlib.Omega.{arith}
use native.Mathlib.Decide.{dec_lt}
use lib.ListN.{length, get_or}
use Rattle.bmap.specs.Plain.{all, numbers}
use Rattle.bmap.proofs.PlainLaws.{both_true}

pub numbers_length : (i n : ℕ) → length (numbers i n) ≡ n
unfolding numbers
numbers_length i zero = refl
numbers_length i (suc n) = ap suc (numbers_length (suc i) n)

module _ {A : Type 0} (g : ℕ → A) where
  pub map_length : (i n : ℕ) → length (map g (numbers i n)) ≡ n
  unfolding numbers
  map_length i zero = refl
  map_length i (suc n) = ap suc (map_length (suc i) n)

  map_from : (i n k : ℕ) (d : A) → k < n → get_or (map g (numbers i n)) k d ≡ g (i + k)
  unfolding numbers
  map_from i zero k d h = absurd (omega arith)
  map_from i (suc n) zero d h = ap g (omega arith)
  map_from i (suc n) (suc k) d h = map_from (suc i) n k d (omega arith) ∙ ap g (omega arith)

  pub map_at : (n k : ℕ) (d : A) → k < n → get_or (map g (numbers 0 n)) k d ≡ g k
  map_at n k d h = map_from 0 n k d h ∙ ap g (omega arith)

-- what holds of all holds of each
all_from : (p : ℕ → Bool) (i n k : ℕ) → i ≤ k → k < i + n → all p (numbers i n) ≡ true → p k ≡ true
unfolding all numbers
all_from p i zero k h q e = absurd (omega arith)
all_from p i (suc n) k h q e = elim (dec_lt i k) [
  | yes r ↦ all_from p (suc i) n k (omega arith) (omega arith) (both_true (p i) (all p (numbers (suc i) n)) e).1
  | no r ↦ let z : k ≡ i = omega arith in ap p z ∙ (both_true (p i) (all p (numbers (suc i) n)) e).0
]

pub all_at : (p : ℕ → Bool) (n k : ℕ) → k < n → all p (numbers 0 n) ≡ true → p k ≡ true
all_at p n k h e = all_from p 0 n k (omega arith) (omega arith) e
