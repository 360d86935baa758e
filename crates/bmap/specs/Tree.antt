-- Expressions and constraints.
use Rattle.std.specs.Prelude.{ℕ, Bool, true, false, List, [], ◌∷◌, ◌++◌, leb, ltb, ℤ}
use Rattle.bmap.specs.Plain.{both}
use Rattle.bmap.specs.Limits.{most_lag}
use Rattle.bmap.specs.declared.limits.Context.{Context}
use Rattle.bmap.specs.declared.Operation.{Operation}
use Rattle.bmap.specs.declared.Single.{Single}
use Rattle.bmap.specs.declared.Comparison.{Comparison}
use Rattle.bmap.specs.declared.Junction.{Junction}

-- "An expression may hold a constraint, which holds expressions in turn"
mutual
  pub data Expr : Type 0 where
    constant : ℤ → Expr
    fluent : ℕ → ℕ → Expr
    two : Operation → Expr → Expr → Expr
    one : Single → Expr → Expr
    reified : Con → Expr

  pub data Con : Type 0 where
    compared : Comparison → Expr → Expr → Con
    joined : Junction → Con → Con → Con
    negated : Con → Con
    occurs : ℕ → ℕ → Con
    always : Con
    -- K4: its constraint at every position so far (and), or at one or more of them (or): source document 000's "always" and "sometime"
    look_back : Junction → Con → Con

-- the fluents that a tree names
unfoldable mutual
  pub named_e : Expr → List ℕ
  named_e (constant z) = []
  named_e (fluent f t) = f ∷ []
  named_e (two o a b) = named_e a ++ named_e b
  named_e (one o a) = named_e a
  named_e (reified c) = named_c c

  pub named_c : Con → List ℕ
  named_c (compared o a b) = named_e a ++ named_e b
  named_c (joined o a b) = named_c a ++ named_c b
  named_c (negated a) = named_c a
  named_c (occurs e t) = []
  named_c always = []
  named_c (look_back o a) = named_c a

-- K4: "Neither may stand inside the other or itself": where one looks back already, at any depth, neither may stand
abbrev pub looking_back : Context → Context
looking_back x = record { fluents = x.fluents; entries = x.entries; occurrences = x.occurrences; back = false }

-- no "unknown … fluent or entry", "lag (0 to 63)", code 29 only where occurrences may be asked, and 2B and 2C only where a law may look back
unfoldable mutual
  pub allowed_e : Context → Expr → Bool
  allowed_e x (constant z) = true
  allowed_e x (fluent f t) = both (ltb f x.fluents) (leb t most_lag)
  allowed_e x (two o a b) = both (allowed_e x a) (allowed_e x b)
  allowed_e x (one o a) = allowed_e x a
  allowed_e x (reified c) = allowed_c x c

  pub allowed_c : Context → Con → Bool
  allowed_c x (compared o a b) = both (allowed_e x a) (allowed_e x b)
  allowed_c x (joined o a b) = both (allowed_c x a) (allowed_c x b)
  allowed_c x (negated a) = allowed_c x a
  allowed_c x (occurs e t) = both x.occurrences (both (ltb e x.entries) (leb t most_lag))
  allowed_c x always = true
  allowed_c x (look_back o a) = both x.back (allowed_c (looking_back x) a)
