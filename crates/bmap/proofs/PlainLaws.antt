-- Laws of the plain words: tests that are joined, lists that are joined.
use Prim.Native.Nat.{ℕ}
use native.Mathlib.Omega.{arith}
use mathlib.Core.Path.{◌≡◌, refl, sym, ap, ◌∙◌}
use mathlib.Core.Bool.{Bool, true, false}
use mathlib.Core.List.{List, [], ◌∷◌, ◌++◌, append-nil, append_assoc}
use lib.Dec.{T}
use Rattle.bmap.specs.Plain.{both, either, if_else, all, those, flat}

pub both_true : (a b : Bool) → both a b ≡ true → (a ≡ true) × (b ≡ true)
both_true true b e = (refl, e)
both_true false b e = absurd (let z : ◌≡◌ {A = ℕ} 0 1 = cc in omega arith)

pub both_parts : (a b : Bool) → T (both a b) → T a × T b
both_parts true b t = (tt, t)
both_parts false b t = absurd t

pub both_end : (a : Bool) → both a true ≡ a
both_end true = refl
both_end false = refl

pub both_false : (a : Bool) → both a false ≡ false
both_false true = refl
both_false false = refl

pub both_assoc : (a b c : Bool) → both a (both b c) ≡ both (both a b) c
both_assoc true b c = refl
both_assoc false b c = refl

pub either_end : (a : Bool) → either a false ≡ a
either_end true = refl
either_end false = refl

pub either_assoc : (a b c : Bool) → either a (either b c) ≡ either (either a b) c
either_assoc true b c = refl
either_assoc false b c = refl

module _ {A : Type 0} where
  pub all_append : (p : A → Bool) (l m : List A) → all p (l ++ m) ≡ both (all p l) (all p m)
  unfolding all
  all_append p [] m = refl
  all_append p (a ∷ l) m = rw (all_append p l m) (both_assoc (p a) (all p l) (all p m))

  pub flat_one : (ls : List (List A)) (l : List A) → flat (ls ++ (l ∷ [])) ≡ flat ls ++ l
  unfolding flat
  flat_one [] l = append-nil l
  flat_one (a ∷ ls) l = rw (flat_one ls l) (sym (append_assoc a (flat ls) l))

-- those of a list with one more at its end
those_more : {A : Type 0} (p : A → Bool) (l : List A) (a : A) → those p (l ++ (a ∷ [])) ≡ those p l ++ those p (a ∷ [])
unfolding those
those_more p [] a = refl
those_more {A} p (b ∷ l) a = go (p b) (those_more p l a)
  where
    go : (c : Bool) → those p (l ++ (a ∷ [])) ≡ those p l ++ those p (a ∷ [])
        → if_else {A = List A} c (b ∷ those p (l ++ (a ∷ []))) (those p (l ++ (a ∷ []))) ≡ if_else {A = List A} c (b ∷ those p l) (those p l) ++ those p (a ∷ [])
    go true e = ap (λ (r : List A). b ∷ r) e
    go false e = e

module _ {A : Type 0} (p : A → Bool) (l : List A) (a : A) where
  -- one of them
  pub one_in : p a ≡ true → those p (l ++ (a ∷ [])) ≡ those p l ++ (a ∷ [])
  unfolding those
  one_in e = those_more p l a ∙ rw e

  -- and one that is none of them
  pub one_out : p a ≡ false → those p (l ++ (a ∷ [])) ≡ those p l
  unfolding those
  one_out e = those_more p l a ∙ rw e (append-nil (those p l))
