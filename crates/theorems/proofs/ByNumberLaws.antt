-- K8: what is found of each law number, in a list by number. Assumes nothing.
use Prim.Native.Nat.{ℕ, zero, suc, ◌+◌, ◌≤◌, ◌<◌}
use native.Mathlib.Omega.{arith}
use native.Mathlib.Decide.{dec_lt}
use mathlib.Core.Path.{◌≡◌, refl, sym, ap, ◌∙◌}
use mathlib.Core.Bool.{Bool, true, false}
use mathlib.Core.List.{List, ◌++◌, map}
use mathlib.Core.Option.{Option, none, some}
use lib.Dec.{eqb}
use lib.ListN.{length, get_or}
use borrow.Author.Tests.{eq-eqb, ne_eqb}
use Rattle.bmap.specs.Plain.{if_else, maybe, flat, numbers}
use Rattle.bmap.specs.Limits.{most_laws}
use Rattle.bmap.specs.Supplement.{Replacement, replaces, replacement_of}
use Rattle.bmap.specs.Laying.{listed, by_number}
use Rattle.bmap.specs.Theorems.{Rising}

-- what is found of a number has that number
abbrev pub Has : ℕ → Option Replacement → Type 0
Has n o = (r : Replacement) → o ≡ some r → replaces r ≡ n

abbrev pub Numbered : (ℕ → Option Replacement) → Type 0
Numbered found = (n : ℕ) → Has n (found n)

-- the upper where there is one
abbrev pub upper_or : {A : Type 0} → Option A → Option A → Option A
upper_or upper lower = maybe upper lower some

pub upper_or_none : {A : Type 0} (a : Option A) → upper_or a none ≡ a
upper_or_none none = refl
upper_or_none (some a) = refl

-- ---- what is found of one number, and others after it

abbrev Least : ℕ → List Replacement → Type 0
Least i s = (j : ℕ) → j < length s → i ≤ get_or (map replaces s) j 0

find_listed : (i n : ℕ) (o : Option Replacement) (rest : List Replacement) → Has i o
    → replacement_of (listed o ++ rest) n ≡ if_else (eqb i n) (upper_or o (replacement_of rest n)) (replacement_of rest n)
unfolding replacement_of
find_listed i n none rest its = go (eqb i n)
  where
    go : (t : Bool) → replacement_of rest n ≡ if_else t (replacement_of rest n) (replacement_of rest n)
    go true = refl
    go false = refl
find_listed i n (some r) rest its = ap (λ (k : ℕ). if_else (eqb k n) (some r) (replacement_of rest n)) (its r refl)

least_listed : (i : ℕ) (o : Option Replacement) (rest : List Replacement) → Has i o → Least (suc i) rest → Least i (listed o ++ rest)
least_listed i none rest its least j h = omega (arith, least j h)
least_listed i (some r) rest its least zero h = omega (arith, its r refl)
least_listed i (some r) rest its least (suc j) h = omega (arith, least j (omega arith))

rising_listed : (i : ℕ) (o : Option Replacement) (rest : List Replacement) → Has i o → Least (suc i) rest → Rising rest → Rising (listed o ++ rest)
rising_listed i none rest its least rising j k p q = rising j k p q
rising_listed i (some r) rest its least rising j zero p q = absurd (omega arith)
rising_listed i (some r) rest its least rising zero (suc k) p q = omega (arith, its r refl, least k (omega arith))
rising_listed i (some r) rest its least rising (suc j) (suc k) p q = rising j k (omega arith) (omega arith)

-- ---- by number

-- of the m numbers from i on
abbrev pub from : (ℕ → Option Replacement) → ℕ → ℕ → List Replacement
from found i m = flat (map (λ n. listed (found n)) (numbers i m))

module _ (found : ℕ → Option Replacement) (its : Numbered found) where
  -- a number that is none of them, and one of them
  from_none : (m i n : ℕ) → (i ≤ n → i + m ≤ n) → replacement_of (from found i m) n ≡ none
  unfolding flat numbers replacement_of
  from_none zero i n out = refl
  from_none (suc m) i n out =
      find_listed i n (found i) (from found (suc i) m) (its i)
      ∙ rw (ne_eqb i n (λ z. let q = out (omega arith) in omega arith)) (from_none m (suc i) n (λ p. let q = out (omega arith) in omega arith))

  from_found : (m i n : ℕ) → i ≤ n → n < i + m → replacement_of (from found i m) n ≡ found n
  unfolding flat numbers
  from_found zero i n p q = absurd (omega arith)
  from_found (suc m) i n p q =
      find_listed i n (found i) (from found (suc i) m) (its i)
      ∙ elim (dec_lt i n) [
        | yes h ↦ rw (ne_eqb i n (λ z. omega arith)) (from_found m (suc i) n (omega arith) (omega arith))
        | no h ↦
            let z : i ≡ n = omega arith in
            rw (eq-eqb i n z, from_none m (suc i) n (λ k. absurd (omega arith))) (upper_or_none (found i) ∙ ap found z)
      ]

  pub found_by_number : (n : ℕ) → n < most_laws → replacement_of (by_number found) n ≡ found n
  unfolding by_number
  found_by_number n h = from_found most_laws 0 n (omega arith) h

  pub none_by_number : (n : ℕ) → most_laws ≤ n → replacement_of (by_number found) n ≡ none
  unfolding by_number
  none_by_number n h = from_none most_laws 0 n (λ p. h)

  -- each number, where nothing is found from the most laws on
  pub kept_by_number : ((n : ℕ) → most_laws ≤ n → found n ≡ none) → (n : ℕ) → replacement_of (by_number found) n ≡ found n
  kept_by_number within n = elim (dec_lt n most_laws) [
    | yes h ↦ found_by_number n h
    | no h ↦ none_by_number n (omega arith) ∙ sym (within n (omega arith))
  ]

  from_least : (m i : ℕ) → Least i (from found i m)
  unfolding flat numbers
  from_least zero i j h = absurd (omega arith)
  from_least (suc m) i j h = least_listed i (found i) (from found (suc i) m) (its i) (from_least m (suc i)) j h

  from_rising : (m i : ℕ) → Rising (from found i m)
  unfolding flat numbers
  from_rising zero i j k p q = absurd (omega arith)
  from_rising (suc m) i j k p q = rising_listed i (found i) (from found (suc i) m) (its i) (from_least m (suc i)) (from_rising m (suc i)) j k p q

  pub rising_by_number : Rising (by_number found)
  unfolding by_number
  rising_by_number = from_rising most_laws 0

-- what agrees on the numbers gives the same list
from_same : (f g : ℕ → Option Replacement) (m i : ℕ) → ((n : ℕ) → n < i + m → f n ≡ g n) → from f i m ≡ from g i m
unfolding flat numbers
from_same f g zero i same = refl
from_same f g (suc m) i same = rw (same i (omega arith), from_same f g m (suc i) (λ n p. same n (omega arith))) refl

pub by_number_same : (f g : ℕ → Option Replacement) → ((n : ℕ) → n < most_laws → f n ≡ g n) → by_number f ≡ by_number g
unfolding by_number
by_number_same f g same = from_same f g most_laws 0 same
