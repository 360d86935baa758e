-- Lists that are read and written by number: a row with zeros after, the numbers from a place on, one element more. Assumes nothing.
use Prim.Native.Nat.{ℕ, zero, suc, ◌+◌, ◌-◌, ◌<◌}
use native.Mathlib.Decide.{dec_lt}
use native.Mathlib.Numerals.{add-one}
use native.Mathlib.Omega.{arith}
use mathlib.Core.Path.{◌≡◌, refl, sym, ap, subst, ◌∙◌}
use mathlib.Core.Bool.{Bool}
use mathlib.Core.List.{List, [], ◌∷◌, ◌++◌, append_assoc, map}
use lib.ListN.{length, get_or, set, take, drop, replicate, length-append, get_or-append, get_or-map}
use lib.Seq.{take-nil, get_or-append_seam, set-append_seam}
use Rattle.std.proofs.lemmas.List.{length-map}
pub use Rattle.std.proofs.lemmas.List.{map_push as map_snoc}
use Rattle.bmap.specs.Plain.{both, either, any, all, numbers}
use Rattle.bmap.proofs.PlainLaws.{either_end, either_assoc}
use Rattle.domain.specs.Found.{row}

-- ---- one element more

module _ {A : Type 0} (l : List A) (a : A) where
  pub length_snoc : length (l ++ (a ∷ [])) ≡ suc (length l)
  length_snoc = length-append l (a ∷ []) ∙ add-one (length l)

  -- what is so of each of them
  pub each_snoc : (P : A → Type 0) (d : A) → ((i : ℕ) → i < length l → P (get_or l i d)) → P a → (i : ℕ) → i < length (l ++ (a ∷ [])) → P (get_or (l ++ (a ∷ [])) i d)
  each_snoc P d h p i k = elim (dec_lt i (length l)) [
    | yes q ↦ subst P (sym (get_or-append l (a ∷ []) d i q)) (h i q)
    | no q ↦
        let z : length l ≡ i = omega (arith, length_snoc) in
        subst (λ (j : ℕ). P (get_or (l ++ (a ∷ [])) j d)) z (subst P (sym (get_or-append_seam l a [] d)) p)
  ]

pub map_same : {A B : Type 0} (f g : A → B) (l : List A) → ((a : A) → f a ≡ g a) → map f l ≡ map g l
map_same f g [] h = refl
map_same f g (a ∷ l) h = ap (λ b. b ∷ map f l) (h a) ∙ ap (λ r. g a ∷ r) (map_same f g l h)

pub any_snoc : {A : Type 0} (P : A → Bool) (l : List A) (a : A) → any P (l ++ (a ∷ [])) ≡ either (any P l) (P a)
unfolding any
any_snoc P [] a = either_end (P a)
any_snoc P (b ∷ l) a = ap (either (P b)) (any_snoc P l a) ∙ either_assoc (P b) (any P l) (P a)

-- ---- two elements less

pub two_off : (n : ℕ) (l : List ℕ) → drop 2 (take n l) ≡ take (n - 2) (drop 2 l)
two_off zero l = refl
two_off (suc zero) [] = refl
two_off (suc zero) (x ∷ l) = refl
two_off (suc (suc n)) [] = sym (take-nil (suc (suc n) - 2))
two_off (suc (suc n)) (x ∷ []) = sym (take-nil (suc (suc n) - 2))
two_off (suc (suc n)) (x ∷ y ∷ l) = let z : n ≡ suc (suc n) - 2 = omega arith in ap (λ (k : ℕ). take k l) z

-- ---- rows

module _ {A : Type 0} (size : ℕ) (z : A) (l : List A) where
  -- the next one
  pub row_push : (a : A) → length l < size → set (row size z l) (length l) a ≡ row size z (l ++ (a ∷ []))
  row_push a h =
      let n : size - length l ≡ suc (size - suc (length l)) = omega arith in
      ap (λ k. set (l ++ replicate k z) (length l) a) n
      ∙ set-append_seam l z (replicate (size - suc (length l)) z) a
      ∙ sym (append_assoc l (a ∷ []) (replicate (size - suc (length l)) z))
      ∙ ap (λ k. (l ++ (a ∷ [])) ++ replicate (size - k) z) (sym (length_snoc l a))

  pub row_at : (d : A) (i : ℕ) → i < length l → get_or (row size z l) i d ≡ get_or l i d
  row_at d i h = get_or-append l _ d i h

-- the next one, of a row of numbers that are read off a list
pub push_by : {A B : Type 0} (f : A → B) (size : ℕ) (z : B) (l : List A) (a : A) (n : ℕ) → n ≡ length l → length l < size
    → set (row size z (map f l)) n (f a) ≡ row size z (map f (l ++ (a ∷ [])))
push_by f size z l a n e h =
    ap (λ k. set (row size z (map f l)) k (f a)) (e ∙ sym (length-map l f))
    ∙ row_push size z (map f l) (f a) (omega (arith, length-map l f))
    ∙ ap (row size z) (sym (map_snoc f l a))

-- what was read off is read back
pub row_back : {A B : Type 0} (f : A → B) (size : ℕ) (l : List A) (d : A) (i : ℕ) → i < length l → get_or (row size (f d) (map f l)) i (f d) ≡ f (get_or l i d)
row_back f size l d i h = row_at size (f d) (map f l) (f d) i (omega (arith, length-map l f)) ∙ get_or-map f l i d

-- ---- the numbers from a place on

numbers_back : {A : Type 0} (f : ℕ → A) (d : A) (l : List A) (j : ℕ) → ((i : ℕ) → i < length l → f (j + i) ≡ get_or l i d) → map f (numbers j (length l)) ≡ l
unfolding numbers
numbers_back f d [] j h = refl
numbers_back f d (a ∷ l) j h =
    let z : j + 0 ≡ j = omega arith in
    let e : f j ≡ a = ap f (sym z) ∙ h 0 (omega arith) in
    ap (λ b. b ∷ map f (numbers (suc j) (length l))) e
    ∙ ap (λ r. a ∷ r) (numbers_back f d l (suc j) (λ i k. let s : suc j + i ≡ j + suc i = omega arith in ap f s ∙ h (suc i) (omega arith)))

-- a list is read back number by number
pub numbers_all : {A : Type 0} (f : ℕ → A) (d : A) (l : List A) → ((i : ℕ) → i < length l → f i ≡ get_or l i d) → map f (numbers 0 (length l)) ≡ l
numbers_all f d l h = numbers_back f d l 0 (λ i k. let z : 0 + i ≡ i = omega arith in ap f z ∙ h i k)

pub all_same : (P Q : ℕ → Bool) (i n : ℕ) → ((j : ℕ) → j < i + n → P j ≡ Q j) → all P (numbers i n) ≡ all Q (numbers i n)
unfolding all numbers
all_same P Q i zero h = refl
all_same P Q i (suc n) h =
    ap (λ b. both b (all P (numbers (suc i) n))) (h i (omega arith)) ∙ ap (both (Q i)) (all_same P Q (suc i) n (λ j k. h j (omega arith)))
