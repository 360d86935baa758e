-- Laws of lists, zeros and tests that know nothing of a session.
-- Assumes nothing.
use mathlib.Core.Path.{◌≡◌, refl, sym, ap, ◌∙◌}
use mathlib.Core.Bool.{Bool, true, false}
use mathlib.Core.List.{List, [], ◌∷◌, ◌++◌, append_assoc}
use Prim.Native.Nat.{ℕ, ◌+◌, ◌-◌, ◌≤◌}
use native.Mathlib.Omega.{arith}
use lib.Dec.{eqb}
use lib.ListN.{length, drop, replicate, length-append, length-replicate, replicate-append-replicate}
use lib.Seq.{take-length, take_at, drop_at, drop-drop, paste}
use borrow.Author.Tests.{eq-eqb, eqb-true}
use Rattle.bmap.specs.Buffer.{padded}
use Rattle.bmap.specs.Session.{same_bytes}
use Rattle.bmap.proofs.PlainLaws.{both_true}

-- ---- tests
pub is_false : (b : Bool) → (b ≡ true → ⊥) → false ≡ b
is_false true h = absurd (h refl)
is_false false h = refl

pub never : {A : Type 0} (b : Bool) → b ≡ true → b ≡ false → A
never b t f = absurd cc

-- ---- zeros after a list
pub length_padded : (n : ℕ) (l : List ℕ) → length l ≤ n → length (padded n l) ≡ n
length_padded n l h = omega (arith, length-append l (replicate (n - length l) 0), length-replicate {A = ℕ} (n - length l) 0)

-- zeros at the end of a list that is padded
pub padded_zeros : (n k : ℕ) (l : List ℕ) → length l + k ≤ n → padded n (l ++ replicate k 0) ≡ padded n l
padded_zeros n k l h =
    let a : length (l ++ replicate k 0) ≡ length l + k = omega (arith, length-append l (replicate k 0), length-replicate {A = ℕ} k 0) in
    let b : k + (n - (length l + k)) ≡ n - length l = omega arith in
    rw (a, append_assoc l (replicate k 0) (replicate (n - (length l + k)) 0), replicate-append-replicate {A = ℕ} k (n - (length l + k)) 0, b)

-- ---- two lists of bytes compared
pub same_refl : (xs : List ℕ) → same_bytes xs xs ≡ true
unfolding same_bytes
same_refl [] = refl
same_refl (x ∷ xs) = simp (eq-eqb x x refl) (same_refl xs)

pub same_eq : (xs ys : List ℕ) → same_bytes xs ys ≡ true → xs ≡ ys
unfolding same_bytes
same_eq [] [] h = refl
same_eq [] (y ∷ ys) h = absurd cc
same_eq (x ∷ xs) [] h = absurd cc
same_eq (x ∷ xs) (y ∷ ys) h =
    let p = both_true (eqb x y) (same_bytes xs ys) h in
    let a : x ≡ y = eqb-true x y p.0 in
    let q = same_eq xs ys p.1 in cc

-- ---- what is laid over the middle
pub laid_mid : (A B C Y : List ℕ) (at : ℕ) → length A ≡ at → length B ≡ length Y → paste (A ++ (B ++ C)) at Y (length Y) ≡ (A ++ Y) ++ C
laid_mid A B C Y at a b =
    let d : drop (at + length Y) (A ++ (B ++ C)) ≡ C = sym (drop-drop (length Y) at (A ++ (B ++ C))) ∙ ap (drop (length Y)) (drop_at A (B ++ C) at a) ∙ drop_at B C (length Y) b in
    rw (take_at A (B ++ C) at a, take-length Y, d)
