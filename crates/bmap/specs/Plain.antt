-- Tests and lists, in the few words that the other modules use.
use Rattle.std.specs.Prelude.{ℕ, zero, suc, Bool, true, false, List, [], ◌∷◌, ◌++◌}
use Rattle.std.proofs.Math.Option.{Option, none, some}
use Prim.Native.Char.{code}
use Prim.Native.String.{String, [] as end, ◌∷◌ as then}

abbrev pub both : Bool → Bool → Bool
both true b = b
both false b = false

abbrev pub either : Bool → Bool → Bool
either true b = true
either false b = b

-- b, asked only where a holds
abbrev pub implies : Bool → Bool → Bool
implies true b = b
implies false b = true

module _ {A : Type 0} where
  abbrev pub if_else : Bool → A → A → A
  if_else true a b = a
  if_else false a b = b

  unfoldable pub any : (A → Bool) → List A → Bool
  any p [] = false
  any p (a ∷ l) = either (p a) (any p l)

  unfoldable pub all : (A → Bool) → List A → Bool
  all p [] = true
  all p (a ∷ l) = both (p a) (all p l)

  -- the lists one after the other
  unfoldable pub flat : List (List A) → List A
  flat [] = []
  flat (l ∷ ls) = l ++ flat ls

module _ {A : Type 0} where
  -- those of a list for which it holds
  unfoldable pub those : (A → Bool) → List A → List A
  those p [] = []
  those p (a ∷ l) = let rest : List A = those p l in if_else {A = List A} (p a) (a ∷ rest) rest

module _ {A B : Type 0} where
  -- n where there is nothing, and f of what there is
  abbrev pub maybe : Option A → B → (A → B) → B
  maybe none n f = n
  maybe (some a) n f = f a

-- the n numbers from i on
unfoldable pub numbers : ℕ → ℕ → List ℕ
numbers i zero = []
numbers i (suc n) = i ∷ numbers (suc i) n

-- the bytes of a quoted text
unfoldable pub text : String → List ℕ
text end = []
text (then c s) = code c ∷ text s
