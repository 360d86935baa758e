-- The fluents that an allowed tree names are fluents of its domain: two tests that agree on those agree on the tree.
-- Assumes nothing.
use Prim.Native.Nat.{ℕ, ◌<◌}
use mathlib.Core.Path.{◌≡◌, refl, sym, ap, ◌∙◌}
use mathlib.Core.List.{List, ◌++◌}
use mathlib.Core.Bool.{Bool, true}
use lib.Dec.{leb, ltb}
use borrow.Author.Tests.{ltb-true}
use Rattle.bmap.specs.Plain.{both, all}
use Rattle.bmap.proofs.PlainLaws.{both_true, all_append}
use Rattle.bmap.specs.Tree.{Expr, Con, constant, fluent, two, one, reified, compared, joined, negated, occurs, always, look_back, looking_back, named_e, named_c, allowed_e, allowed_c}
use Rattle.bmap.specs.Limits.{most_lag}
use Rattle.bmap.specs.declared.limits.Context.{Context}

module _ (p q : ℕ → Bool) where
  -- of every fluent of the domain they say the same
  abbrev Same : Context → Type 0
  Same x = (f : ℕ) → f < x.fluents → p f ≡ q f

  two_named : (a b : List ℕ) → all p a ≡ all q a → all p b ≡ all q b → all p (a ++ b) ≡ all q (a ++ b)
  two_named a b e f = all_append p a b ∙ (ap (λ (t : Bool). both t (all p b)) e ∙ (ap (λ (t : Bool). both (all q a) t) f ∙ sym (all_append q a b)))

  mutual
    unfolding allowed_e allowed_c named_e named_c all

    same_named_E : (x : Context) → Same x → (a : Expr) → allowed_e x a ≡ true → all p (named_e a) ≡ all q (named_e a)
    same_named_E x same (constant z) e = refl
    same_named_E x same (fluent f t) e = ap (λ (s : Bool). both s true) (same f (ltb-true f x.fluents (both_true (ltb f x.fluents) (leb t most_lag) e).0))
    same_named_E x same (two o a b) e = two_named (named_e a) (named_e b) (same_named_E x same a (both_true (allowed_e x a) (allowed_e x b) e).0) (same_named_E x same b (both_true (allowed_e x a) (allowed_e x b) e).1)
    same_named_E x same (one o a) e = same_named_E x same a e
    same_named_E x same (reified c) e = same_named x same c e

    pub same_named : (x : Context) → Same x → (c : Con) → allowed_c x c ≡ true → all p (named_c c) ≡ all q (named_c c)
    same_named x same (compared o a b) e = two_named (named_e a) (named_e b) (same_named_E x same a (both_true (allowed_e x a) (allowed_e x b) e).0) (same_named_E x same b (both_true (allowed_e x a) (allowed_e x b) e).1)
    same_named x same (joined o a b) e = two_named (named_c a) (named_c b) (same_named x same a (both_true (allowed_c x a) (allowed_c x b) e).0) (same_named x same b (both_true (allowed_c x a) (allowed_c x b) e).1)
    same_named x same (negated a) e = same_named x same a e
    same_named x same (occurs i t) e = refl
    same_named x same always e = refl
    same_named x same (look_back o a) e = same_named (looking_back x) same a (both_true x.back (allowed_c (looking_back x) a) e).1
