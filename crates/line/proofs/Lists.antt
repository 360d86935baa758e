-- Laws of lists: zeros after a front, a part to the end, what is written over a front, what is asked of every element.
use Prim.Native.Nat.{ℕ, zero, suc, ◌+◌, ◌-◌, ◌≤◌, ◌<◌}
use native.Mathlib.Nat.{le_of_suc-le-suc, not-suc-le-zero}
use native.Mathlib.Numerals.{add-one}
use native.Mathlib.Omega.{arith}
use mathlib.Core.Path.{◌≡◌, refl, ap, ◌∙◌}
use mathlib.Core.Bool.{Bool, true, false, ◌&&◌}
use mathlib.Core.List.{List, [], ◌∷◌, ◌++◌}
use lib.Dec.{T, eqb, ltb}
use lib.Bits.{bit_or, or_add_and, and_le_l, and_le_r}
use lib.ListN.{length, get_or, take, drop, replicate, drop_of_length-le, length-drop, length-append}
use lib.Seq.{drop-cons, take_all, length-take-le, get_or-drop}
use borrow.Author.Tests.{ltb-true, eqb-true, eqb-false, eq-eqb, ne_eqb}
use Rattle.bmap.specs.Plain.{both, all}
use Rattle.bmap.proofs.PlainLaws.{both_true, both_assoc, both_end}
use Rattle.bmap.specs.Store.{zeros}
use Rattle.bmap.specs.Theorems.{AreBytes}

-- a part to the end
pub part_to_end : (l : List ℕ) (a : ℕ) → take (length l - a) (drop a l) ≡ drop a l
part_to_end l a = take_all (length l - a) (drop a l) (simp length-drop (omega arith))

-- a part that came back as long as it was lent leaves the length as it was
pub length_back : (buf p : List ℕ) (a : ℕ) → a ≤ length buf → length p ≡ length (take (length buf - a) (drop a buf))
    → length (take a buf ++ (p ++ drop (length buf - a) (drop a buf))) ≡ length buf
length_back buf p a h e =
    let e' : length p ≡ length buf - a = e ∙ ap length (part_to_end buf a) ∙ length-drop a buf in
    rw (length-append (take a buf), length-append p, length-take-le a buf h, length-drop (length buf - a) (drop a buf), length-drop a buf)
    (omega arith)

-- each element is a byte
abbrev pub Bytes : List ℕ → Type 0
Bytes s = (i : ℕ) → get_or s i 0 < 256

pub bytes_are : (s : List ℕ) → AreBytes s → Bytes s
unfolding all
bytes_are [] h i = omega arith
bytes_are (x ∷ s) h i = go (ltb x 256) refl h i (bytes_are s)
  where
    go : (b : Bool) → ltb x 256 ≡ b → T (both b (all (λ y. ltb y 256) s)) → (i : ℕ) → (AreBytes s → Bytes s) → get_or (x ∷ s) i 0 < 256
    go true e t zero r = ltb-true x 256 e
    go true e t (suc i) r = r t i
    go false e t i r = absurd t

pub bytes_take : (n : ℕ) (s : List ℕ) → Bytes s → Bytes (take n s)
bytes_take zero s h i = omega arith
bytes_take (suc n) [] h i = omega arith
bytes_take (suc n) (x ∷ s) h zero = h 0
bytes_take (suc n) (x ∷ s) h (suc i) = bytes_take n s (λ j. h (suc j)) i

pub bytes_drop : (n : ℕ) (s : List ℕ) → Bytes s → Bytes (drop n s)
bytes_drop n s h i = rw (get_or-drop n s i 0) (h (n + i))

-- ---- every element is asked, and none ends the asking

module _ (p : ℕ → Bool) where
  -- those so far are asked, those from i on are still to be asked
  abbrev pub asking : List ℕ → Bool → ℕ → Bool
  asking s so_far i = both so_far (all p (drop i s))

  pub ask_more : (s : List ℕ) (so_far next : Bool) (i : ℕ) → i < length s → next ≡ both so_far (p (get_or s i 0)) → asking s so_far i ≡ asking s next (i + 1)
  unfolding all
  ask_more s so_far next i h e = rw (e, add-one i, drop-cons s i 0 h) (both_assoc so_far (p (get_or s i 0)) (all p (drop (suc i) s)))

  pub ask_end : (s : List ℕ) (so_far : Bool) (i : ℕ) → length s ≤ i → asking s so_far i ≡ so_far
  unfolding all
  ask_end s so_far i h = rw (drop_of_length-le s h) (both_end so_far)

  pub all_at : (s : List ℕ) → all p s ≡ true → (i : ℕ) → i < length s → p (get_or s i 0) ≡ true
  unfolding all
  all_at [] e i h = absurd (not-suc-le-zero h)
  all_at (x ∷ s) e zero h = (both_true (p x) (all p s) e).0
  all_at (x ∷ s) e (suc i) h = all_at s (both_true (p x) (all p s) e).1 i (le_of_suc-le-suc h)

-- the operator of the code
pub and_both : (a b : Bool) → (a && b) ≡ both a b
and_both true b = refl
and_both false b = refl

-- ---- zeros from a place, asked for by joining the bytes

pub or_zero : (a b : ℕ) → eqb (bit_or a b) 0 ≡ both (eqb a 0) (eqb b 0)
or_zero a b = go (eqb a 0) (eqb b 0) refl refl
  where
    sum : bit_or a b ≤ a + b
    sum = omega (arith, or_add_and a b)

    low : a ≤ bit_or a b
    low = omega (arith, or_add_and a b, and_le_r a b)

    high : b ≤ bit_or a b
    high = omega (arith, or_add_and a b, and_le_l a b)

    go : (p q : Bool) → eqb a 0 ≡ p → eqb b 0 ≡ q → eqb (bit_or a b) 0 ≡ both p q
    go true true e f = let x : a ≡ 0 = eqb-true a 0 e in let y : b ≡ 0 = eqb-true b 0 f in eq-eqb (bit_or a b) 0 (omega (arith, sum))
    go true false e f = let y : b ≡ 0 → ⊥ = eqb-false b 0 f in ne_eqb (bit_or a b) 0 (λ z. y (omega (arith, high)))
    go false q e f = let x : a ≡ 0 → ⊥ = eqb-false a 0 e in ne_eqb (bit_or a b) 0 (λ z. x (omega (arith, low)))

-- the bytes so far are joined, those from i on are still to be asked
abbrev pub joining : List ℕ → ℕ → ℕ → Bool
joining s joined i = asking (λ x. eqb x 0) s (eqb joined 0) i

module _ (s : List ℕ) (joined i : ℕ) where
  pub join_more : i < length s → joining s joined i ≡ joining s (bit_or joined (get_or s i 0)) (i + 1)
  join_more h = ask_more (λ x. eqb x 0) s (eqb joined 0) (eqb (bit_or joined (get_or s i 0)) 0) i h (or_zero joined (get_or s i 0))

  pub join_end : length s ≤ i → joining s joined i ≡ eqb joined 0
  join_end h = ask_end (λ x. eqb x 0) s (eqb joined 0) i h

-- ---- nothing but zeros

pub zeros_replicate : (n : ℕ) → zeros (replicate n 0) ≡ true
unfolding all
zeros_replicate zero = refl
zeros_replicate (suc n) = zeros_replicate n

pub zeros_are : (l : List ℕ) → zeros l ≡ true → l ≡ replicate (length l) 0
unfolding all
zeros_are [] h = refl
zeros_are (x ∷ l) h =
    let p = both_true (eqb x 0) (zeros l) h in
    let a : x ≡ 0 = eqb-true x 0 p.0 in
    let b = zeros_are l p.1 in
    rw a (ap (λ (r : List ℕ). 0 ∷ r) b)
