-- The operand table: for each code the sort of its operands, how many there are, and which operator is made of them.
use Rattle.std.specs.Prelude.{ℕ, ◌+◌, ◌*◌, ◌/◌, ◌%◌, Bool, Option as Maybe, None, Some, List, [], ◌∷◌, map, eqb, leb}
use Rattle.bmap.specs.Plain.{if_else, numbers}
use Rattle.bmap.specs.Code.{Code, expression, constraint, no_code, a_constant, a_fluent, of_two, of_one, a_reified, of_comparison, of_junction, a_negation, an_occurrence, a_truth, a_look_back, code_of}
use Rattle.bmap.specs.declared.Operation.{Operation}
use Rattle.bmap.specs.declared.Operation.TheVariants.{Sum, Difference, Product, Quotient, Remainder}
use Rattle.bmap.specs.declared.Single.{Single}
use Rattle.bmap.specs.declared.Single.TheVariants.{Negation, Absolute}
use Rattle.bmap.specs.declared.Comparison.{Comparison}
use Rattle.bmap.specs.declared.Comparison.TheVariants.{Equal, Unequal, Less, AtMost, Greater, AtLeast}
use Rattle.bmap.specs.declared.Junction.{Junction}
use Rattle.bmap.specs.declared.Junction.TheVariants.{And, Or}
use Rattle.law.specs.declared.table.Node.{Node}
use Rattle.law.specs.declared.table.Node.TheVariants.{Expression, Constraint, Refused}

-- what the operands are: bytes 1, expressions 2, constraints 3; 0 where there is none
abbrev pub sort_of : Code → ℕ
sort_of (expression a_constant) = 1
sort_of (expression a_fluent) = 1
sort_of (expression (of_two o)) = 2
sort_of (expression (of_one o)) = 2
sort_of (expression a_reified) = 3
sort_of (constraint (of_comparison o)) = 2
sort_of (constraint (of_junction o)) = 3
sort_of (constraint a_negation) = 3
sort_of (constraint an_occurrence) = 1
sort_of (constraint a_truth) = 0
sort_of (constraint (a_look_back o)) = 3
sort_of no_code = 0

-- "The number of operands of each code"
abbrev pub count_of : Code → ℕ
count_of (expression a_constant) = 2
count_of (expression a_fluent) = 2
count_of (expression (of_two o)) = 2
count_of (expression (of_one o)) = 1
count_of (expression a_reified) = 1
count_of (constraint (of_comparison o)) = 2
count_of (constraint (of_junction o)) = 2
count_of (constraint a_negation) = 1
count_of (constraint an_occurrence) = 2
count_of (constraint a_truth) = 0
count_of (constraint (a_look_back o)) = 1
count_of no_code = 0

-- the operators by number
abbrev pub operation_number : Operation → ℕ
operation_number Sum = 0
operation_number Difference = 1
operation_number Product = 2
operation_number Quotient = 3
operation_number Remainder = 4

abbrev pub operation_at : ℕ → Operation
operation_at n = if_else (eqb n 0) Sum (if_else (eqb n 1) Difference (if_else (eqb n 2) Product (if_else (eqb n 3) Quotient Remainder)))

abbrev pub single_number : Single → ℕ
single_number Negation = 0
single_number Absolute = 1

abbrev pub single_at : ℕ → Single
single_at n = if_else (eqb n 0) Negation Absolute

abbrev pub comparison_number : Comparison → ℕ
comparison_number Equal = 0
comparison_number Unequal = 1
comparison_number Less = 2
comparison_number AtMost = 3
comparison_number Greater = 4
comparison_number AtLeast = 5

abbrev pub comparison_at : ℕ → Comparison
comparison_at n = if_else (eqb n 0) Equal (if_else (eqb n 1) Unequal (if_else (eqb n 2) Less (if_else (eqb n 3) AtMost (if_else (eqb n 4) Greater AtLeast))))

abbrev pub junction_number : Junction → ℕ
junction_number And = 0
junction_number Or = 1

abbrev pub junction_at : ℕ → Junction
junction_at n = if_else (eqb n 0) And Or

-- what looks back has its number from 8 on, so that one test of its row finds it
abbrev pub look_back_number : Junction → ℕ
look_back_number o = 8 + junction_number o

abbrev pub look_back_at : ℕ → Junction
look_back_at n = junction_at (n % 8)

-- which of the codes with such operands it is: two bytes are a constant, 0, or a fluent and its lag, 1
abbrev pub operator_of : Code → ℕ
operator_of (expression a_constant) = 0
operator_of (expression a_fluent) = 1
operator_of (expression (of_two o)) = operation_number o
operator_of (expression (of_one o)) = single_number o
operator_of (expression a_reified) = 0
operator_of (constraint (of_comparison o)) = comparison_number o
operator_of (constraint (of_junction o)) = junction_number o
operator_of (constraint a_negation) = 0
operator_of (constraint an_occurrence) = 0
operator_of (constraint a_truth) = 0
operator_of (constraint (a_look_back o)) = look_back_number o
operator_of no_code = 0

-- a row has the three in one number
abbrev pub row_of : Code → ℕ
row_of c = sort_of c + 4 * count_of c + 16 * operator_of c

-- sort and count in one: two bytes 9, an expression 6, two 10, a constraint 7, two 11; nothing 0
abbrev pub follows_in : ℕ → ℕ
follows_in row = row % 16

abbrev pub sort_in : ℕ → ℕ
sort_in row = row % 4

abbrev pub count_in : ℕ → ℕ
count_in row = row / 4 % 4

abbrev pub operator_in : ℕ → ℕ
operator_in row = row / 16

abbrev pub looks_back_in : ℕ → Bool
looks_back_in row = leb 128 row

-- the rows of the codes 10 to 2F
unfoldable pub rows : List ℕ
rows = map (λ b. row_of (code_of b)) (numbers 0x10 32)

-- what a code opens, with its row
abbrev pub opened : Code → Node
opened (expression c) = Expression (row_of (expression c))
opened (constraint c) = Constraint (row_of (constraint c))
opened no_code = Refused

-- the first two bytes
abbrev pub pair_of : List ℕ → Maybe (ℕ × ℕ)
pair_of [] = None
pair_of (a ∷ []) = None
pair_of (a ∷ b ∷ rest) = Some (a, b)
