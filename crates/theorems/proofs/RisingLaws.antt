-- K8: the replacement of each number, and that the numbers rise, fix a list of replacements. Assumes nothing.
use Prim.Native.Nat.{ℕ, zero, suc, ◌<◌}
use native.Mathlib.Omega.{arith}
use native.Mathlib.Decide.{dec_lt, ℕ_discrete}
use mathlib.Core.Path.{◌≡◌, refl, sym, ap, ◌∙◌}
use mathlib.Core.List.{List, [], ◌∷◌, map}
use mathlib.Core.Option.{Option, none, some}
use lib.ListN.{length, get_or}
use borrow.Author.Tests.{eq-eqb, ne_eqb}
use Rattle.bmap.specs.Supplement.{Replacement, replaces, replacement_of}
use Rattle.bmap.specs.Theorems.{Rising}

after_head : (r : Replacement) (s : List Replacement) → Rising (r ∷ s) → Rising s
after_head r s up i j p q = up (suc i) (suc j) (omega arith) (omega arith)

-- where all numbers lie beyond n, n has none
beyond_none : (n : ℕ) (s : List Replacement) → ((j : ℕ) → j < length s → n < get_or (map replaces s) j 0) → replacement_of s n ≡ none
unfolding replacement_of
beyond_none n [] h = refl
beyond_none n (q ∷ s) h =
    let z = h 0 (omega arith) in
    rw (ne_eqb (replaces q) n (λ e. omega arith)) (beyond_none n s (λ j p. h (suc j) (omega arith)))

tail_none : (r : Replacement) (s : List Replacement) → Rising (r ∷ s) → replacement_of s (replaces r) ≡ none
tail_none r s up = beyond_none (replaces r) s (λ j p. up 0 (suc j) (omega arith) (omega arith))

head_found : (r : Replacement) (s : List Replacement) → replacement_of (r ∷ s) (replaces r) ≡ some r
unfolding replacement_of
head_found r s = rw (eq-eqb (replaces r) (replaces r) refl) refl

-- a head below another's head is not found there
below_none : (p q : Replacement) (s : List Replacement) → Rising (q ∷ s) → replaces p < replaces q → replacement_of (q ∷ s) (replaces p) ≡ none
below_none p q s up h = beyond_none (replaces p) (q ∷ s) go
  where
    go : (j : ℕ) → j < length (q ∷ s) → replaces p < get_or (map replaces (q ∷ s)) j 0
    go zero k = h
    go (suc j) k = omega (arith, up 0 (suc j) (omega arith) k)

some_none : {A : Type 0} (a : A) → ◌≡◌ {A = Option A} (some a) none → {B : Type 0} → B
some_none a e = absurd cc

some_same : {A : Type 0} (a b : A) → ◌≡◌ {A = Option A} (some a) (some b) → a ≡ b
some_same a b e = cc

nothing : (n : ℕ) → replacement_of [] n ≡ none
unfolding replacement_of
nothing n = refl

tails_same : (p q : Replacement) (r s : List Replacement) → Rising (p ∷ r) → Rising (q ∷ s) → ((n : ℕ) → replacement_of (p ∷ r) n ≡ replacement_of (q ∷ s) n)
    → replaces p ≡ replaces q → (n : ℕ) → replacement_of r n ≡ replacement_of s n
unfolding replacement_of
tails_same p q r s a b same z n = elim (ℕ_discrete (replaces p) n) [
  | yes e ↦ ap (replacement_of r) (sym e) ∙ tail_none p r a ∙ sym (ap (replacement_of s) (sym (sym z ∙ e)) ∙ tail_none q s b)
  | no e ↦
      let x : replacement_of (p ∷ r) n ≡ replacement_of r n = rw (ne_eqb (replaces p) n e) refl in
      let y : replacement_of (q ∷ s) n ≡ replacement_of s n = rw (ne_eqb (replaces q) n (λ k. e (z ∙ k))) refl in
      sym x ∙ same n ∙ y
]

pub rising_fixed : (r s : List Replacement) → Rising r → Rising s → ((n : ℕ) → replacement_of r n ≡ replacement_of s n) → r ≡ s
rising_fixed [] [] a b same = refl
rising_fixed [] (q ∷ s) a b same = some_none q (sym (head_found q s) ∙ sym (same (replaces q)) ∙ nothing (replaces q))
rising_fixed (p ∷ r) [] a b same = some_none p (sym (head_found p r) ∙ same (replaces p) ∙ nothing (replaces p))
rising_fixed (p ∷ r) (q ∷ s) a b same =
    elim (dec_lt (replaces p) (replaces q)) [
      | yes h ↦ some_none p (sym (head_found p r) ∙ same (replaces p) ∙ below_none p q s b h)
      | no h ↦ elim (dec_lt (replaces q) (replaces p)) [
        | yes k ↦ some_none q (sym (head_found q s) ∙ sym (same (replaces q)) ∙ below_none q p r a k)
        | no k ↦
            let z : replaces p ≡ replaces q = omega arith in
            let e : p ≡ q = some_same p q (sym (head_found p r) ∙ same (replaces p) ∙ ap (replacement_of (q ∷ s)) z ∙ head_found q s) in
            let t : r ≡ s = rising_fixed r s (after_head p r a) (after_head q s b) (tails_same p q r s a b same z) in
            rw (e, t) refl
      ]
    ]
