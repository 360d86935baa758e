-- A tree is the same whatever bytes stand after it. Assumes nothing.
use Prim.Native.Nat.{ℕ, zero, suc, ◌+◌, ◌≤◌}
use mathlib.Core.Path.{◌≡◌, refl, sym, ap, ◌∙◌, subst}
use mathlib.Core.List.{List, [], ◌∷◌, ◌++◌}
use mathlib.Core.Option.{Option, none, some}
use native.Mathlib.Omega.{arith}
use lib.ListN.{length, drop}
use lib.Seq.{drop-append-le}
use Rattle.bmap.specs.Number.{signed_word}
use Rattle.bmap.specs.Tree.{Expr, Con, constant, fluent, two, one, reified, compared, joined, negated, occurs, look_back}
use Rattle.bmap.specs.Code.{Code, expression, constraint, no_code, a_constant, a_fluent, of_two, of_one, a_reified, of_comparison, of_junction, a_negation, an_occurrence, a_truth, a_look_back}
use Rattle.bmap.specs.Code.{Parsed, Parser, two_bytes, made, second, operand, operands, code_of, expr_after, con_after, parse_e, parse_c}
use Rattle.law.proofs.Used.{used_e, used_c}

-- what was there stays
abbrev Stays : {T : Type 0} → Option (Parsed T) → Option (Parsed T) → Type 0
Stays none o = Unit
Stays (some p) o = o ≡ some p

stays : {T : Type 0} {a b : Option (Parsed T)} {p : Parsed T} → Stays a b → a ≡ some p → b ≡ some p
stays {T} {a} {b} s e = subst (λ (o : Option (Parsed T)). Stays o b) e s

module _ (more : List ℕ) where
  stays_pair : {T : Type 0} (make : ℕ → ℕ → T) (l : List ℕ) → Stays (two_bytes make l) (two_bytes make (l ++ more))
  stays_pair make [] = tt
  stays_pair make (x ∷ []) = tt
  stays_pair make (x ∷ y ∷ l) = refl

  module _ {A T : Type 0} where
    stays_made : (make : A → T) (k : ℕ) (a b : Option (Parsed A)) → Stays a b → Stays (made make k a) (made make k b)
    stays_made make k none b s = tt
    stays_made make k (some p) b s = ap (made make k) s

    module _ (pa : Parser A) (s : (l : List ℕ) → Stays (pa l) (pa (l ++ more))) (u : (l : List ℕ) (p : Parsed A) → pa l ≡ some p → p.used ≤ length l) where
      stays_operand : (make : A → T) (l : List ℕ) → Stays (operand make pa l) (operand make pa (l ++ more))
      stays_operand make l = stays_made make 1 (pa l) (pa (l ++ more)) (s l)

      stays_operands : (make : A → A → T) (l : List ℕ) → Stays (operands make pa l) (operands make pa (l ++ more))
      stays_operands make l = go (pa l) refl
        where
          go : (o : Option (Parsed A)) → pa l ≡ o → Stays (second make pa l o) (second make pa (l ++ more) (pa (l ++ more)))
          go none e = tt
          go (some p) e =
              subst (λ (o : Option (Parsed T)). Stays (made (make p.tree) (1 + p.used) (pa (drop p.used l))) o)
              (ap (λ (r : List ℕ). made (make p.tree) (1 + p.used) (pa r)) (sym (drop-append-le p.used l more (u l p e))) ∙ sym (ap (second make pa (l ++ more)) (stays (s l) e)))
              (stays_made (make p.tree) (1 + p.used) (pa (drop p.used l)) (pa (drop p.used l ++ more)) (s (drop p.used l)))

  module _ (pe : Parser Expr) (pc : Parser Con) (se : (l : List ℕ) → Stays (pe l) (pe (l ++ more))) (sc : (l : List ℕ) → Stays (pc l) (pc (l ++ more)))
      (ue : (l : List ℕ) (p : Parsed Expr) → pe l ≡ some p → p.used ≤ length l) (uc : (l : List ℕ) (p : Parsed Con) → pc l ≡ some p → p.used ≤ length l) (l : List ℕ) where
    stays_expr : (c : Code) → Stays (expr_after pe pc c l) (expr_after pe pc c (l ++ more))
    stays_expr (expression a_constant) = stays_pair (λ hi lo. constant (signed_word hi lo)) l
    stays_expr (expression a_fluent) = stays_pair fluent l
    stays_expr (expression (of_two o)) = stays_operands pe se ue (two o) l
    stays_expr (expression (of_one o)) = stays_operand pe se ue (one o) l
    stays_expr (expression a_reified) = stays_operand pc sc uc reified l
    stays_expr (constraint c) = tt
    stays_expr no_code = tt

    stays_con : (c : Code) → Stays (con_after pe pc c l) (con_after pe pc c (l ++ more))
    stays_con (constraint (of_comparison o)) = stays_operands pe se ue (compared o) l
    stays_con (constraint (of_junction o)) = stays_operands pc sc uc (joined o) l
    stays_con (constraint a_negation) = stays_operand pc sc uc negated l
    stays_con (constraint an_occurrence) = stays_pair occurs l
    stays_con (constraint a_truth) = refl
    stays_con (constraint (a_look_back o)) = stays_operand pc sc uc (look_back o) l
    stays_con (expression c) = tt
    stays_con no_code = tt

  mutual
    unfolding parse_e

    stays_e : (d : ℕ) (l : List ℕ) → Stays (parse_e d l) (parse_e d (l ++ more))
    stays_e zero l = tt
    stays_e (suc d) [] = tt
    stays_e (suc d) (b ∷ l) = stays_expr (λ l. parse_e d l) (λ l. parse_c d l) (λ l. stays_e d l) (λ l. stays_c d l) (λ l p e. omega (arith, (used_e d l 0 e).1)) (λ l p e. omega (arith, (used_c d l 0 e).1)) l (code_of b)

    stays_c : (d : ℕ) (l : List ℕ) → Stays (parse_c d l) (parse_c d (l ++ more))
    stays_c zero l = tt
    stays_c (suc d) [] = tt
    stays_c (suc d) (b ∷ l) = stays_con (λ l. parse_e d l) (λ l. parse_c d l) (λ l. stays_e d l) (λ l. stays_c d l) (λ l p e. omega (arith, (used_e d l 0 e).1)) (λ l p e. omega (arith, (used_c d l 0 e).1)) l (code_of b)

module _ (d : ℕ) (l more : List ℕ) where
  pub longer_e : {p : Parsed Expr} → parse_e d l ≡ some p → parse_e d (l ++ more) ≡ some p
  longer_e e = stays (stays_e more d l) e

  pub longer_c : {p : Parsed Con} → parse_c d l ≡ some p → parse_c d (l ++ more) ≡ some p
  longer_c e = stays (stays_c more d l) e
