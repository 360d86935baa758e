-- Prefix bytes to trees.
use Rattle.std.specs.Prelude.{ℕ, zero, suc, ◌+◌, List, [], ◌∷◌, eqb, drop}
use Rattle.std.proofs.Math.Option.{Option, none, some}
use Rattle.bmap.specs.Plain.{if_else}
use Rattle.bmap.specs.Number.{signed_word}
use Rattle.bmap.specs.Tree.{Expr, Con, constant, fluent, two, one, reified, compared, joined, negated, occurs, always, look_back}
use Rattle.bmap.specs.declared.Operation.{Operation}
use Rattle.bmap.specs.declared.Operation.TheVariants.{Sum, Difference, Product, Quotient, Remainder}
use Rattle.bmap.specs.declared.Single.{Single}
use Rattle.bmap.specs.declared.Single.TheVariants.{Negation, Absolute}
use Rattle.bmap.specs.declared.Comparison.{Comparison}
use Rattle.bmap.specs.declared.Comparison.TheVariants.{Equal, Unequal, Less, AtMost, Greater, AtLeast}
use Rattle.bmap.specs.declared.Junction.{Junction}
use Rattle.bmap.specs.declared.Junction.TheVariants.{And, Or}

-- what a code byte opens
pub data ExprCode : Type 0 where
  a_constant a_fluent : ExprCode
  of_two : Operation → ExprCode
  of_one : Single → ExprCode
  a_reified : ExprCode

pub data ConCode : Type 0 where
  of_comparison : Comparison → ConCode
  of_junction : Junction → ConCode
  a_negation an_occurrence a_truth : ConCode
  a_look_back : Junction → ConCode

pub data Code : Type 0 where
  expression : ExprCode → Code
  constraint : ConCode → Code
  no_code : Code

pub record Row : Type 0 where
  pub byte : ℕ
  pub opens : Code

abbrev row : ℕ → Code → Row
row b c = record { byte = b; opens = c }

abbrev pub codes : List Row
codes =
    row 0x10 (expression a_constant)
    ∷ row 0x11 (expression a_fluent)
    ∷ row 0x12 (expression (of_two Sum))
    ∷ row 0x13 (expression (of_two Difference))
    ∷ row 0x14 (expression (of_two Product))
    ∷ row 0x15 (expression (of_two Quotient))
    ∷ row 0x16 (expression (of_two Remainder))
    ∷ row 0x17 (expression (of_one Negation))
    ∷ row 0x18 (expression (of_one Absolute))
    ∷ row 0x19 (expression a_reified)
    ∷ row 0x20 (constraint (of_comparison Equal))
    ∷ row 0x21 (constraint (of_comparison Unequal))
    ∷ row 0x22 (constraint (of_comparison Less))
    ∷ row 0x23 (constraint (of_comparison AtMost))
    ∷ row 0x24 (constraint (of_comparison Greater))
    ∷ row 0x25 (constraint (of_comparison AtLeast))
    ∷ row 0x26 (constraint (of_junction And))
    ∷ row 0x27 (constraint (of_junction Or))
    ∷ row 0x28 (constraint a_negation)
    ∷ row 0x29 (constraint an_occurrence)
    ∷ row 0x2A (constraint a_truth)
    -- K4: "Add two constraint codes: 2B, its constraint held at every position …, and 2C, at one or more of them"
    ∷ row 0x2B (constraint (a_look_back And))
    ∷ row 0x2C (constraint (a_look_back Or))
    ∷ []

-- "Every other code from 00 to FF is refused"
abbrev pub found : List Row → ℕ → Code
found [] b = no_code
found (r ∷ rows) b = if_else (eqb b r.byte) r.opens (found rows b)

unfoldable pub code_of : ℕ → Code
code_of b = found codes b

-- a tree at the front of some bytes, and how many bytes it takes
pub record Parsed (T : Type 0) : Type 0 where
  pub tree : T
  pub used : ℕ

abbrev pub Parser : Type 0 → Type 0
Parser T = List ℕ → Option (Parsed T)

abbrev pub parsed : {T : Type 0} → T → ℕ → Option (Parsed T)
parsed t n = some (record { tree = t; used = n })

-- after a code: two bytes of its own, one operand, or two
abbrev pub two_bytes : {T : Type 0} → (ℕ → ℕ → T) → Parser T
two_bytes make [] = none
two_bytes make (a ∷ []) = none
two_bytes make (a ∷ b ∷ rest) = parsed (make a b) 3

module _ {A T : Type 0} where
  abbrev pub made : (A → T) → ℕ → Option (Parsed A) → Option (Parsed T)
  made make n none = none
  made make n (some p) = parsed (make p.tree) (n + p.used)

  abbrev pub operand : (A → T) → Parser A → Parser T
  operand make p bytes = made make 1 (p bytes)

  abbrev pub second : (A → A → T) → Parser A → List ℕ → Option (Parsed A) → Option (Parsed T)
  second make p bytes none = none
  second make p bytes (some a) = made (make a.tree) (1 + a.used) (p (drop a.used bytes))

  abbrev pub operands : (A → A → T) → Parser A → Parser T
  operands make p bytes = second make p bytes (p bytes)

-- the bytes after a code, by parsers of its operands
module _ (pe : Parser Expr) (pc : Parser Con) where
  abbrev pub expr_after : Code → Parser Expr
  expr_after (expression a_constant) = two_bytes (λ hi lo. constant (signed_word hi lo))
  expr_after (expression a_fluent) = two_bytes fluent
  expr_after (expression (of_two o)) = operands (two o) pe
  expr_after (expression (of_one o)) = operand (one o) pe
  expr_after (expression a_reified) = operand reified pc
  expr_after (constraint c) = λ bytes. none
  expr_after no_code = λ bytes. none

  abbrev pub con_after : Code → Parser Con
  con_after (constraint (of_comparison o)) = operands (compared o) pe
  con_after (constraint (of_junction o)) = operands (joined o) pc
  con_after (constraint a_negation) = operand negated pc
  con_after (constraint an_occurrence) = two_bytes occurs
  con_after (constraint a_truth) = λ bytes. parsed always 1
  con_after (constraint (a_look_back o)) = operand (look_back o) pc
  con_after (expression c) = λ bytes. none
  con_after no_code = λ bytes. none

-- "Prefix bytes, nested at most 16 deep (the outermost is depth 1)": so many levels are left
unfoldable mutual
  pub parse_e : ℕ → Parser Expr
  parse_e zero bytes = none
  parse_e (suc depth) [] = none
  parse_e (suc depth) (b ∷ rest) = expr_after (λ l. parse_e depth l) (λ l. parse_c depth l) (code_of b) rest

  pub parse_c : ℕ → Parser Con
  parse_c zero bytes = none
  parse_c (suc depth) [] = none
  parse_c (suc depth) (b ∷ rest) = con_after (λ l. parse_e depth l) (λ l. parse_c depth l) (code_of b) rest
