-- Answers taken apart.
use Prim.Native.Nat.{ℕ}
use native.Mathlib.Omega.{arith}
use mathlib.Core.Path.{◌≡◌, refl, ap}
use mathlib.Core.Bool.{Bool, true, false}
use Rattle.std.specs.Prelude.{Option as Maybe, None, Some, MatchOption}
use Rattle.std.specs.Option.{is_some}
use Rattle.bmap.specs.Refusal.{Answer, got, refused, need, then, Reading, read, at_line}

module _ {A B C : Type 0} where
  pub then_then : (y : Answer A) (f : A → B) (g : B → Answer C) → then (then y (λ a. got (f a))) g ≡ then y (λ a. g (f a))
  then_then (got a) f g = refl
  then_then (refused n) f g = refl

pub then_same : {A B : Type 0} (y : Answer A) (f g : A → Answer B) → ((a : A) → f a ≡ g a) → then y f ≡ then y g
then_same (got a) f g same = same a
then_same (refused n) f g same = refl

pub need_refused : {A : Type 0} (b : Bool) (n : ℕ) → need {A = A} b n (refused n) ≡ refused n
need_refused true n = refl
need_refused false n = refl

pub then_got : {A : Type 0} (y : Answer A) → then y (λ l. got l) ≡ y
then_got (got l) = refl
then_got (refused n) = refl

pub need_got : {A : Type 0} (b : Bool) (n : ℕ) (y : Answer A) (a : A) → need b n y ≡ got a → (b ≡ true) × (y ≡ got a)
need_got true n y a e = (refl, e)
need_got false n y a e = absurd (let z : ◌≡◌ {A = ℕ} 0 1 = cc in omega arith)

pub then_got_inv : {A B : Type 0} (y : Answer A) (f : A → Answer B) (b : B) → then y f ≡ got b → (a : A) × (y ≡ got a) × (f a ≡ got b)
then_got_inv (got a) f b e = (a, refl, e)
then_got_inv (refused n) f b e = absurd (let z : ◌≡◌ {A = ℕ} 0 1 = cc in omega arith)

pub then_refused : {A B : Type 0} (y : Answer A) (f : A → B) (n : ℕ) → then y (λ x. got (f x)) ≡ refused n → y ≡ refused n
then_refused (got x) f n q = absurd (let z : ◌≡◌ {A = ℕ} 0 1 = cc in omega arith)
then_refused (refused m) f n q = let z : m ≡ n = cc in ap refused z

pub at_line_read : {A B : Type 0} (n : ℕ) (y : Answer A) (k : A → Reading B) (x : B) → at_line n y k ≡ read x → (a : A) × (y ≡ got a) × (k a ≡ read x)
at_line_read n (got a) k x e = (a, refl, e)
at_line_read n (refused m) k x e = absurd (let z : ◌≡◌ {A = ℕ} 0 1 = cc in omega arith)

-- what is said of an answer that is asked only whether it is there
pub not_there : {A : Type 0} (o : Maybe A) (P : Type 0) (Q : A → Type 0) → is_some o ≡ false → MatchOption o P Q → P
not_there None P Q e m = m
not_there (Some x) P Q e m = absurd (let z : ◌≡◌ {A = ℕ} 0 1 = cc in omega arith)

pub there : {A : Type 0} (o : Maybe A) (P : Type 0) (Q : A → Type 0) → is_some o ≡ true → MatchOption o P Q → (x : A) × Q x
there None P Q e m = absurd (let z : ◌≡◌ {A = ℕ} 0 1 = cc in omega arith)
there (Some x) P Q e m = (x, m)
