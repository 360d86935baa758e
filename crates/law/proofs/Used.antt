-- A tree takes at least one byte, and no more than there are.
use mathlib.Core.Path.{◌≡◌, subst}
use mathlib.Core.List.{List, [], ◌∷◌}
use mathlib.Core.Option.{Option, none, some}
use Prim.Native.Nat.{ℕ, zero, suc, ◌+◌, ◌≤◌}
use native.Mathlib.Omega.{arith}
use lib.ListN.{length, drop, length-drop}
use Rattle.bmap.specs.Number.{signed_word}
use Rattle.bmap.specs.Tree.{Expr, Con, constant, fluent, two, one, reified, compared, joined, negated, occurs, look_back}
use Rattle.bmap.specs.Code.{Code, expression, constraint, no_code, a_constant, a_fluent, of_two, of_one, a_reified, of_comparison, of_junction, a_negation, an_occurrence, a_truth, a_look_back}
use Rattle.bmap.specs.Code.{Parsed, Parser, two_bytes, made, second, operand, operands, code_of, expr_after, con_after, parse_e, parse_c}

abbrev Within : {T : Type 0} → List ℕ → Option (Parsed T) → Type 0
Within l none = Unit
Within l (some p) = (1 ≤ p.used) × (p.used ≤ length l)

within_pair : {T : Type 0} (make : ℕ → ℕ → T) (b : ℕ) (l : List ℕ) → Within (b ∷ l) (two_bytes make l)
within_pair make b [] = tt
within_pair make b (x ∷ []) = tt
within_pair make b (x ∷ y ∷ l) = (omega arith, omega arith)

module _ {A T : Type 0} where
  within_made : (make : A → T) (k b : ℕ) (l : List ℕ) → k ≤ length l → (o : Option (Parsed A)) → Within (drop k l) o → Within (b ∷ l) (made make (1 + k) o)
  within_made make k b l h none w = tt
  within_made make k b l h (some p) (lo, hi) = (omega arith, omega (arith, length-drop k l))

  within_operand : (make : A → T) (pa : Parser A) → ((l : List ℕ) → Within l (pa l)) → (b : ℕ) (l : List ℕ) → Within (b ∷ l) (operand make pa l)
  within_operand make pa w b l = within_made make 0 b l (omega arith) (pa l) (w l)

  within_operands : (make : A → A → T) (pa : Parser A) → ((l : List ℕ) → Within l (pa l)) → (b : ℕ) (l : List ℕ) → Within (b ∷ l) (operands make pa l)
  within_operands make pa w b l = go (pa l) (w l)
    where
      go : (o : Option (Parsed A)) → Within l o → Within (b ∷ l) (second make pa l o)
      go none v = tt
      go (some p) (lo, hi) = within_made (make p.tree) p.used b l hi (pa (drop p.used l)) (w (drop p.used l))

module _ (pe : Parser Expr) (pc : Parser Con) (we : (l : List ℕ) → Within l (pe l)) (wc : (l : List ℕ) → Within l (pc l)) (b : ℕ) (l : List ℕ) where
  within_expr : (c : Code) → Within (b ∷ l) (expr_after pe pc c l)
  within_expr (expression a_constant) = within_pair (λ hi lo. constant (signed_word hi lo)) b l
  within_expr (expression a_fluent) = within_pair fluent b l
  within_expr (expression (of_two o)) = within_operands (two o) pe we b l
  within_expr (expression (of_one o)) = within_operand (one o) pe we b l
  within_expr (expression a_reified) = within_operand reified pc wc b l
  within_expr (constraint c) = tt
  within_expr no_code = tt

  within_con : (c : Code) → Within (b ∷ l) (con_after pe pc c l)
  within_con (constraint (of_comparison o)) = within_operands (compared o) pe we b l
  within_con (constraint (of_junction o)) = within_operands (joined o) pc wc b l
  within_con (constraint a_negation) = within_operand negated pc wc b l
  within_con (constraint an_occurrence) = within_pair occurs b l
  within_con (constraint a_truth) = (omega arith, omega arith)
  within_con (constraint (a_look_back o)) = within_operand (look_back o) pc wc b l
  within_con (expression c) = tt
  within_con no_code = tt

mutual
  unfolding parse_e

  within_e : (d : ℕ) (l : List ℕ) → Within l (parse_e d l)
  within_e zero l = tt
  within_e (suc d) [] = tt
  within_e (suc d) (b ∷ l) = within_expr (λ l. parse_e d l) (λ l. parse_c d l) (λ l. within_e d l) (λ l. within_c d l) b l (code_of b)

  within_c : (d : ℕ) (l : List ℕ) → Within l (parse_c d l)
  within_c zero l = tt
  within_c (suc d) [] = tt
  within_c (suc d) (b ∷ l) = within_con (λ l. parse_e d l) (λ l. parse_c d l) (λ l. within_e d l) (λ l. within_c d l) b l (code_of b)

in_place : {T : Type 0} (s : List ℕ) (at : ℕ) (p : Parsed T) → Within (drop at s) (some p) → (1 ≤ p.used) × (at + p.used ≤ length s)
in_place s at p (lo, hi) = (lo, omega (arith, length-drop at s))

-- the tree at a place, and the place just after it
module _ (d : ℕ) (s : List ℕ) (at : ℕ) where
  pub used_e : {p : Parsed Expr} → parse_e d (drop at s) ≡ some p → (1 ≤ p.used) × (at + p.used ≤ length s)
  used_e {p} e = in_place s at p (subst (λ (o : Option (Parsed Expr)). Within (drop at s) o) e (within_e d (drop at s)))

  pub used_c : {p : Parsed Con} → parse_c d (drop at s) ≡ some p → (1 ≤ p.used) × (at + p.used ≤ length s)
  used_c {p} e = in_place s at p (subst (λ (o : Option (Parsed Con)). Within (drop at s) o) e (within_c d (drop at s)))
