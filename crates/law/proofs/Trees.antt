-- The tree at a place of some bytes, by its code: what the table says of the code, and what the parser does after it.
use mathlib.Core.Path.{◌≡◌, refl, sym, ap, ◌∙◌}
use mathlib.Core.Bool.{true, false}
use mathlib.Core.List.{List, [], ◌∷◌}
use mathlib.Core.Option.{none}
use Prim.Native.Nat.{ℕ, zero, suc, ◌+◌, ◌-◌, ◌*◌, ◌≤◌, ◌<◌}
use native.Mathlib.Numerals.{add-one}
use native.Mathlib.Omega.{arith}
use borrow.Author.Tests.{leb-true, leb-false}
use lib.ListN.{length, drop, get_or, length-drop, drop_of_length-le}
use lib.Seq.{drop-cons}
use Rattle.bmap.specs.Code.{Code, expression, constraint, no_code, a_constant, a_fluent, of_two, of_one, a_reified, of_comparison, of_junction, a_negation, an_occurrence, a_truth, a_look_back}
use Rattle.bmap.specs.Number.{signed_word}
use Rattle.bmap.specs.Tree.{constant, fluent, two, one, reified, compared, joined, negated, occurs, always, look_back}
use Rattle.bmap.specs.Code.{code_of, parsed, two_bytes, operand, operands, expr_after, con_after, parse_e, parse_c}
use Rattle.law.specs.declared.table.Node.{Node}
use Rattle.law.specs.declared.table.Node.TheVariants.{Expression, Constraint}
use Rattle.std.specs.Prelude.{None, Some}
use Rattle.law.specs.Table.{sort_of, count_of, operator_of, row_of, follows_in, operator_in, looks_back_in, opened, pair_of}
use Rattle.law.specs.Table.{operation_number, operation_at, single_number, single_at, comparison_number, comparison_at, junction_number, junction_at, look_back_number, look_back_at}
use Rattle.bmap.specs.declared.Operation.{Operation}
use Rattle.bmap.specs.declared.Operation.TheVariants.{Sum, Difference, Product, Quotient, Remainder}
use Rattle.bmap.specs.declared.Single.{Single}
use Rattle.bmap.specs.declared.Single.TheVariants.{Negation, Absolute}
use Rattle.bmap.specs.declared.Comparison.{Comparison}
use Rattle.bmap.specs.declared.Comparison.TheVariants.{Equal, Unequal, Less, AtMost, Greater, AtLeast}
use Rattle.bmap.specs.declared.Junction.{Junction}
use Rattle.bmap.specs.declared.Junction.TheVariants.{And, Or}

-- What a row says is read back: what follows the code, and the operator.
read_follows : (s n o : ℕ) → s < 4 → n < 4 → follows_in (s + 4 * n + 16 * o) ≡ s + 4 * n
read_follows s n o h k = omega arith

read_operator : (s n o : ℕ) → s < 4 → n < 4 → operator_in (s + 4 * n + 16 * o) ≡ o
read_operator s n o h k = omega arith

few : (c : Code) → (sort_of c < 4) × (count_of c < 4)
few (expression a_constant) = (omega arith, omega arith)
few (expression a_fluent) = (omega arith, omega arith)
few (expression (of_two o)) = (omega arith, omega arith)
few (expression (of_one o)) = (omega arith, omega arith)
few (expression a_reified) = (omega arith, omega arith)
few (constraint (of_comparison o)) = (omega arith, omega arith)
few (constraint (of_junction o)) = (omega arith, omega arith)
few (constraint a_negation) = (omega arith, omega arith)
few (constraint an_occurrence) = (omega arith, omega arith)
few (constraint a_truth) = (omega arith, omega arith)
few (constraint (a_look_back o)) = (omega arith, omega arith)
few no_code = (omega arith, omega arith)

record Reads (row : ℕ) (c : Code) : Type 0 where
  follows : follows_in row ≡ sort_of c + 4 * count_of c
  operator : operator_in row ≡ operator_of c

reads : (row : ℕ) (c : Code) → row ≡ row_of c → Reads row c
reads row c e = record {
  follows = rw e (read_follows (sort_of c) (count_of c) (operator_of c) (few c).0 (few c).1);
  operator = rw e (read_operator (sort_of c) (count_of c) (operator_of c) (few c).0 (few c).1);
}

operation_back : (o : Operation) → operation_at (operation_number o) ≡ o
operation_back Sum = refl
operation_back Difference = refl
operation_back Product = refl
operation_back Quotient = refl
operation_back Remainder = refl

single_back : (o : Single) → single_at (single_number o) ≡ o
single_back Negation = refl
single_back Absolute = refl

comparison_back : (o : Comparison) → comparison_at (comparison_number o) ≡ o
comparison_back Equal = refl
comparison_back Unequal = refl
comparison_back Less = refl
comparison_back AtMost = refl
comparison_back Greater = refl
comparison_back AtLeast = refl

junction_back : (o : Junction) → junction_at (junction_number o) ≡ o
junction_back And = refl
junction_back Or = refl

-- few of each, so that what looks back is past them
few_operations : (o : Operation) → operation_number o < 8
few_operations Sum = omega arith
few_operations Difference = omega arith
few_operations Product = omega arith
few_operations Quotient = omega arith
few_operations Remainder = omega arith

few_singles : (o : Single) → single_number o < 8
few_singles Negation = omega arith
few_singles Absolute = omega arith

few_comparisons : (o : Comparison) → comparison_number o < 8
few_comparisons Equal = omega arith
few_comparisons Unequal = omega arith
few_comparisons Less = omega arith
few_comparisons AtMost = omega arith
few_comparisons Greater = omega arith
few_comparisons AtLeast = omega arith

few_junctions : (o : Junction) → junction_number o < 8
few_junctions And = omega arith
few_junctions Or = omega arith

past_few : (o : Junction) → 8 ≤ look_back_number o
past_few And = omega arith
past_few Or = omega arith

look_back_back : (o : Junction) → look_back_at (look_back_number o) ≡ o
look_back_back And = refl
look_back_back Or = refl

-- and they decide the code
module _ {A : Type 0} {row : ℕ} where
  pub expression_by : (c : Code) → Expression row ≡ opened c
      → (c ≡ expression a_constant → follows_in row ≡ 9 → operator_in row ≡ 0 → A)
      → (c ≡ expression a_fluent → follows_in row ≡ 9 → operator_in row ≡ 1 → A)
      → ((o : Operation) → c ≡ expression (of_two o) → follows_in row ≡ 10 → operator_in row ≡ operation_number o → A)
      → ((o : Single) → c ≡ expression (of_one o) → follows_in row ≡ 6 → operator_in row ≡ single_number o → A)
      → (c ≡ expression a_reified → follows_in row ≡ 7 → operator_in row ≡ 0 → A) → A
  expression_by (expression a_constant) p g h i j k = let w = reads row (expression a_constant) cc in g refl w.follows w.operator
  expression_by (expression a_fluent) p g h i j k = let w = reads row (expression a_fluent) cc in h refl w.follows w.operator
  expression_by (expression (of_two o)) p g h i j k = let w = reads row (expression (of_two o)) cc in i o refl w.follows w.operator
  expression_by (expression (of_one o)) p g h i j k = let w = reads row (expression (of_one o)) cc in j o refl w.follows w.operator
  expression_by (expression a_reified) p g h i j k = let w = reads row (expression a_reified) cc in k refl w.follows w.operator
  expression_by (constraint c) p g h i j k = absurd (let z : ◌≡◌ {A = ℕ} 0 1 = cc in omega arith)
  expression_by no_code p g h i j k = absurd (let z : ◌≡◌ {A = ℕ} 0 1 = cc in omega arith)

  pub constraint_by : (c : Code) → Constraint row ≡ opened c
      → ((o : Comparison) → c ≡ constraint (of_comparison o) → follows_in row ≡ 10 → operator_in row ≡ comparison_number o → A)
      → ((o : Junction) → c ≡ constraint (of_junction o) → follows_in row ≡ 11 → operator_in row ≡ junction_number o → A)
      → (c ≡ constraint a_negation → follows_in row ≡ 7 → operator_in row ≡ 0 → A)
      → (c ≡ constraint an_occurrence → follows_in row ≡ 9 → operator_in row ≡ 0 → A)
      → (c ≡ constraint a_truth → follows_in row ≡ 0 → operator_in row ≡ 0 → A)
      → ((o : Junction) → c ≡ constraint (a_look_back o) → follows_in row ≡ 7 → operator_in row ≡ look_back_number o → A) → A
  constraint_by (constraint (of_comparison o)) p g h i j k l = let w = reads row (constraint (of_comparison o)) cc in g o refl w.follows w.operator
  constraint_by (constraint (of_junction o)) p g h i j k l = let w = reads row (constraint (of_junction o)) cc in h o refl w.follows w.operator
  constraint_by (constraint a_negation) p g h i j k l = let w = reads row (constraint a_negation) cc in i refl w.follows w.operator
  constraint_by (constraint an_occurrence) p g h i j k l = let w = reads row (constraint an_occurrence) cc in j refl w.follows w.operator
  constraint_by (constraint a_truth) p g h i j k l = let w = reads row (constraint a_truth) cc in k refl w.follows w.operator
  constraint_by (constraint (a_look_back o)) p g h i j k l = let w = reads row (constraint (a_look_back o)) cc in l o refl w.follows w.operator
  constraint_by (expression c) p g h i j k l = absurd (let z : ◌≡◌ {A = ℕ} 0 1 = cc in omega arith)
  constraint_by no_code p g h i j k l = absurd (let z : ◌≡◌ {A = ℕ} 0 1 = cc in omega arith)

-- no expression looks back
pub never_back : {row : ℕ} (c : Code) → Expression row ≡ opened c → looks_back_in row ≡ true → ⊥
never_back {row} c p b = let h = leb-true 128 row b in expression_by c p (λ e f n. omega arith) (λ e f n. omega arith) (λ o e f n. omega (arith, few_operations o)) (λ o e f n. omega (arith, few_singles o)) (λ e f n. omega arith)

-- No tree: too deep, past the end, or a byte that opens no tree of the sort.
module _ (s : List ℕ) (at d : ℕ) where
  pub deep_e : d ≡ 0 → parse_e d (drop at s) ≡ none
  unfolding parse_e
  deep_e z = rw z

  pub deep_c : d ≡ 0 → parse_c d (drop at s) ≡ none
  unfolding parse_c
  deep_c z = rw z

pub end_e : (s : List ℕ) (at d : ℕ) → length s ≤ at → parse_e d (drop at s) ≡ none
unfolding parse_e
end_e s at zero h = refl
end_e s at (suc d) h = rw (drop_of_length-le s h)

pub end_c : (s : List ℕ) (at d : ℕ) → length s ≤ at → parse_c d (drop at s) ≡ none
unfolding parse_c
end_c s at zero h = refl
end_c s at (suc d) h = rw (drop_of_length-le s h)

-- One level of the parser, after the code at a place.
module _ (s : List ℕ) (at d : ℕ) (ne : d ≡ 0 → ⊥) (lt : at < length s) where
  abbrev code : Code
  code = code_of (get_or s at 0)

  abbrev rest : List ℕ
  rest = drop (at + 1) s

  level_e : (m : ℕ) → d ≡ suc m → (c : Code) → code ≡ c → parse_e d (drop at s) ≡ expr_after (parse_e m) (parse_c m) c rest
  unfolding parse_e
  level_e m e c is = rw (drop-cons s at 0 lt, e, is, add-one at)

  level_c : (m : ℕ) → d ≡ suc m → (c : Code) → code ≡ c → parse_c d (drop at s) ≡ con_after (parse_e m) (parse_c m) c rest
  unfolding parse_c
  level_c m e c is = rw (drop-cons s at 0 lt, e, is, add-one at)

  after_e : (c : Code) → code ≡ c → parse_e d (drop at s) ≡ expr_after (parse_e (d - 1)) (parse_c (d - 1)) c rest
  after_e c is = level_e (d - 1) (omega arith) c is

  after_c : (c : Code) → code ≡ c → parse_c d (drop at s) ≡ con_after (parse_e (d - 1)) (parse_c (d - 1)) c rest
  after_c c is = level_c (d - 1) (omega arith) c is

  pub no_expression : (n : Node) → n ≡ opened code → ((row : ℕ) → n ≡ Expression row → ⊥) → parse_e d (drop at s) ≡ none
  no_expression n e h = go code refl (λ row z. h row (e ∙ z))
    where
      go : (c : Code) → code ≡ c → ((row : ℕ) → opened c ≡ Expression row → ⊥) → parse_e d (drop at s) ≡ none
      go (expression c) is h = absurd (h _ refl)
      go (constraint c) is h = after_e (constraint c) is
      go no_code is h = after_e no_code is

  pub no_constraint : (n : Node) → n ≡ opened code → ((row : ℕ) → n ≡ Constraint row → ⊥) → parse_c d (drop at s) ≡ none
  no_constraint n e h = go code refl (λ row z. h row (e ∙ z))
    where
      go : (c : Code) → code ≡ c → ((row : ℕ) → opened c ≡ Constraint row → ⊥) → parse_c d (drop at s) ≡ none
      go (expression c) is h = after_c (expression c) is
      go (constraint c) is h = absurd (h _ refl)
      go no_code is h = after_c no_code is

  module _ {row : ℕ} (p : Expression row ≡ opened code) where
    pub at_constant : follows_in row ≡ 9 → operator_in row ≡ 0 → parse_e d (drop at s) ≡ two_bytes (λ hi lo. constant (signed_word hi lo)) rest
    at_constant q r = after_e (expression a_constant) (expression_by code p (λ e f n. e) (λ e f n. absurd (omega arith)) (λ o e f n. absurd (omega arith)) (λ o e f n. absurd (omega arith)) (λ e f n. absurd (omega arith)))

    pub at_fluent : follows_in row ≡ 9 → (operator_in row ≡ 0 → ⊥) → parse_e d (drop at s) ≡ two_bytes fluent rest
    at_fluent q r = after_e (expression a_fluent) (expression_by code p (λ e f n. absurd (r n)) (λ e f n. e) (λ o e f n. absurd (omega arith)) (λ o e f n. absurd (omega arith)) (λ e f n. absurd (omega arith)))

    pub at_reified : follows_in row ≡ 7 → parse_e d (drop at s) ≡ operand reified (parse_c (d - 1)) rest
    at_reified q = after_e (expression a_reified) (expression_by code p (λ e f n. absurd (omega arith)) (λ e f n. absurd (omega arith)) (λ o e f n. absurd (omega arith)) (λ o e f n. absurd (omega arith)) (λ e f n. e))

    pub at_one : follows_in row ≡ 6 → parse_e d (drop at s) ≡ operand (one (single_at (operator_in row))) (parse_e (d - 1)) rest
    at_one q = after_e (expression (of_one (single_at (operator_in row)))) (expression_by code p (λ e f n. absurd (omega arith)) (λ e f n. absurd (omega arith)) (λ o e f n. absurd (omega arith)) (λ o e f n. e ∙ rw (n, single_back o)) (λ e f n. absurd (omega arith)))

    pub at_two : (follows_in row ≡ 9 → ⊥) → (follows_in row ≡ 7 → ⊥) → (follows_in row ≡ 6 → ⊥) → parse_e d (drop at s) ≡ operands (two (operation_at (operator_in row))) (parse_e (d - 1)) rest
    at_two q r m = after_e (expression (of_two (operation_at (operator_in row)))) (expression_by code p (λ e f n. absurd (q f)) (λ e f n. absurd (q f)) (λ o e f n. e ∙ rw (n, operation_back o)) (λ o e f n. absurd (m f)) (λ e f n. absurd (r f)))

  module _ {row : ℕ} (p : Constraint row ≡ opened code) where
    pub at_comparison : follows_in row ≡ 10 → parse_c d (drop at s) ≡ operands (compared (comparison_at (operator_in row))) (parse_e (d - 1)) rest
    at_comparison q = after_c (constraint (of_comparison (comparison_at (operator_in row)))) (constraint_by code p (λ o e f n. e ∙ rw (n, comparison_back o)) (λ o e f n. absurd (omega arith)) (λ e f n. absurd (omega arith)) (λ e f n. absurd (omega arith)) (λ e f n. absurd (omega arith)) (λ o e f n. absurd (omega arith)))

    pub at_occurrence : follows_in row ≡ 9 → parse_c d (drop at s) ≡ two_bytes occurs rest
    at_occurrence q = after_c (constraint an_occurrence) (constraint_by code p (λ o e f n. absurd (omega arith)) (λ o e f n. absurd (omega arith)) (λ e f n. absurd (omega arith)) (λ e f n. e) (λ e f n. absurd (omega arith)) (λ o e f n. absurd (omega arith)))

    pub at_truth : follows_in row ≡ 0 → parse_c d (drop at s) ≡ parsed always 1
    at_truth q = after_c (constraint a_truth) (constraint_by code p (λ o e f n. absurd (omega arith)) (λ o e f n. absurd (omega arith)) (λ e f n. absurd (omega arith)) (λ e f n. absurd (omega arith)) (λ e f n. e) (λ o e f n. absurd (omega arith)))

    pub at_negation : follows_in row ≡ 7 → looks_back_in row ≡ false → parse_c d (drop at s) ≡ operand negated (parse_c (d - 1)) rest
    at_negation q b = after_c (constraint a_negation) (let h = leb-false 128 row b in constraint_by code p (λ o e f n. absurd (omega arith)) (λ o e f n. absurd (omega arith)) (λ e f n. e) (λ e f n. absurd (omega arith)) (λ e f n. absurd (omega arith)) (λ o e f n. absurd (omega (arith, past_few o))))

    pub at_look_back : looks_back_in row ≡ true → parse_c d (drop at s) ≡ operand (look_back (look_back_at (operator_in row))) (parse_c (d - 1)) rest
    at_look_back b = after_c (constraint (a_look_back (look_back_at (operator_in row)))) (let h = leb-true 128 row b in constraint_by code p (λ o e f n. absurd (omega (arith, few_comparisons o))) (λ o e f n. absurd (omega (arith, few_junctions o))) (λ e f n. absurd (omega arith)) (λ e f n. absurd (omega arith)) (λ e f n. absurd (omega arith)) (λ o e f n. e ∙ rw (n, look_back_back o)))

    pub at_junction : (follows_in row ≡ 10 → ⊥) → (follows_in row ≡ 9 → ⊥) → (follows_in row ≡ 0 → ⊥) → (follows_in row ≡ 7 → ⊥) → parse_c d (drop at s) ≡ operands (joined (junction_at (operator_in row))) (parse_c (d - 1)) rest
    at_junction q r m k = after_c (constraint (of_junction (junction_at (operator_in row)))) (constraint_by code p (λ o e f n. absurd (q f)) (λ o e f n. e ∙ rw (n, junction_back o)) (λ e f n. absurd (k f)) (λ e f n. absurd (r f)) (λ e f n. absurd (m f)) (λ o e f n. absurd (k f)))

-- The two bytes after a code.
pub pair_short : (s : List ℕ) (at : ℕ) → length s - at < 3 → None ≡ pair_of (drop (at + 1) s)
pair_short s at h = go (drop (at + 1) s) (rw length-drop (omega arith))
  where
    go : (l : List ℕ) → length l < 2 → None ≡ pair_of l
    go [] h = refl
    go (a ∷ []) h = refl
    go (a ∷ b ∷ l) h = absurd (omega arith)

pub pair_long : (s : List ℕ) (at : ℕ) → 3 ≤ length s - at → Some (get_or s (at + 1) 0, get_or s (at + 2) 0) ≡ pair_of (drop (at + 1) s)
pair_long s at h =
    let e : suc (at + 1) ≡ at + 2 = omega arith in
    rw (drop-cons s (at + 1) 0 (omega arith), e, drop-cons s (at + 2) 0 (omega arith))

module _ {T : Type 0} (make : ℕ → ℕ → T) where
  pub no_pair : (l : List ℕ) → None ≡ pair_of l → two_bytes make l ≡ none
  no_pair [] e = refl
  no_pair (a ∷ []) e = refl
  no_pair (a ∷ b ∷ l) e = cc

  pub a_pair : {a b : ℕ} (l : List ℕ) → Some (a, b) ≡ pair_of l → two_bytes make l ≡ parsed (make a b) 3
  a_pair [] e = cc
  a_pair (a ∷ []) e = cc
  a_pair {a} {b} (x ∷ y ∷ l) e = let q : ◌≡◌ {A = ℕ × ℕ} (a, b) (x, y) = cc in sym (ap (λ (p : ℕ × ℕ). parsed (make p.0 p.1) 3) q)
