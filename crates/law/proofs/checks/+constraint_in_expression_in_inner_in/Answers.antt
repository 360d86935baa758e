-- The tree at a place, by the row of its code.
use Rattle.std.proofs.Common.{◌≡◌, sym, ◌∙◌, subst, ℕ, ◌≤◌, ◌<◌, List, length, take, get_or, arith}
use Rattle.bmap.specs.Code.{code_of}
use Rattle.law.specs.declared.table.Node.{Node}
use Rattle.law.specs.Table.{opened}
use Rattle.law.specs.Check.{passes_e, passes_c, back_at, Asks}
use Rattle.law.proofs.Trees.{deep_e, deep_c, end_e, end_c, no_expression, no_constraint}
use Rattle.law.proofs.CheckLaws.{nowhere, there, no_tree, inside, outside, code_at, check_leaf, check_reified, check_one, check_two, check_first}
use Rattle.law.proofs.CheckLaws.{check_compared, check_first_e, check_occurrence, check_truth, check_negation, check_look_back, check_barred, check_junction, check_first_c}
use Rattle.law.proofs.MayLaws.{asks_inside}
use Rattle.law.proofs.checks.+constraint_in_expression_in_inner_in.Goals as goal

-- what opens at a place of the first n bytes
opens_at : (s : List ℕ) (n : ℕ) → n ≤ length s → {at : ℕ} {x : Node} → at < n → x ≡ opened (code_of (get_or s at 0)) → x ≡ opened (code_of (get_or (take n s) at 0))
opens_at s n fits {at} h e = code_at s n fits (λ b. opened (code_of b)) at h e

pub constraint_in-returns-then-depth-eq0 : goal.constraint_in-returns-then-depth-eq0
constraint_in-returns-then-depth-eq0 t c = λ g asks.
    let a = c.args in
    let l = take a.n a.s.now in
    no_tree (passes_c g) a.at (deep_c l a.at a.depth c.if-depth-eq0.true)

pub constraint_in-returns-then-n-at : goal.constraint_in-returns-then-n-at
constraint_in-returns-then-n-at t c = λ g asks.
    let a = c.args in
    let l = take a.n a.s.now in
    no_tree (passes_c g) a.at (end_c l a.at a.depth (outside a.s.now a.n (omega arith) c.if-n-at.true))

pub constraint_in-returns-in_default : goal.constraint_in-returns-in_default
constraint_in-returns-in_default t c = λ g asks.
    let a = c.args in
    let l = take a.n a.s.now in
    no_tree (passes_c g) a.at (no_constraint l a.at a.depth c.if-depth-eq0.false (inside a.s.now a.n (omega arith) c.if-n-at.false) _ (opens_at a.s.now a.n (omega arith) c.if-n-at.false c.opens.ensures) c.in_default.not-Constraint)

pub constraint_in-returns-then-middle-eq-REFUSED : goal.constraint_in-returns-then-middle-eq-REFUSED
constraint_in-returns-then-middle-eq-REFUSED t c = λ g asks.
    let a = c.args in
    let l = take a.n a.s.now in
    check_first_e g l a.at a.depth c.if-depth-eq0.false (inside a.s.now a.n (omega arith) c.if-n-at.false) (opens_at a.s.now a.n (omega arith) c.if-n-at.false c.in-Constraint.ensures) (sym c.follows-operands.ensures ∙ c.if-operands-eq-EXPRESSIONS.true) (nowhere c.if-middle-eq-REFUSED.true ∙ c.expression_in-middle.ensures g asks)

pub constraint_in-returns-then-operands-eq-EXPRESSIONS : goal.constraint_in-returns-then-operands-eq-EXPRESSIONS
constraint_in-returns-then-operands-eq-EXPRESSIONS t c = λ g asks.
    let a = c.args in
    let l = take a.n a.s.now in
    c.expression_in.ensures g asks
    ∙ check_compared g l a.at a.depth c.if-depth-eq0.false (inside a.s.now a.n (omega arith) c.if-n-at.false) (opens_at a.s.now a.n (omega arith) c.if-n-at.false c.in-Constraint.ensures) (sym c.follows-operands.ensures ∙ c.if-operands-eq-EXPRESSIONS.true) (there _ c.if-middle-eq-REFUSED.false ∙ c.expression_in-middle.ensures g asks)

pub constraint_in-returns-then-operands-eq-PAIR : goal.constraint_in-returns-then-operands-eq-PAIR
constraint_in-returns-then-operands-eq-PAIR t c = λ g asks.
    let a = c.args in
    let l = take a.n a.s.now in
    c.leaf_at.ensures g asks
    ∙ check_occurrence g l a.at a.depth c.if-depth-eq0.false (inside a.s.now a.n (omega arith) c.if-n-at.false) (opens_at a.s.now a.n (omega arith) c.if-n-at.false c.in-Constraint.ensures) (sym c.follows-operands.ensures ∙ c.if-operands-eq-PAIR.true)

pub constraint_in-returns-then-operands-eq-NOTHING : goal.constraint_in-returns-then-operands-eq-NOTHING
constraint_in-returns-then-operands-eq-NOTHING t c = λ g asks.
    let a = c.args in
    let l = take a.n a.s.now in
    check_truth g l a.at a.depth c.if-depth-eq0.false (inside a.s.now a.n (omega arith) c.if-n-at.false) (opens_at a.s.now a.n (omega arith) c.if-n-at.false c.in-Constraint.ensures) (sym c.follows-operands.ensures ∙ c.if-operands-eq-NOTHING.true)

pub constraint_in-returns-then-back_passes : goal.constraint_in-returns-then-back_passes
constraint_in-returns-then-back_passes t c = λ g asks.
    let a = c.args in
    let l = take a.n a.s.now in
    c.constraint_in.ensures (back_at g) (subst (λ (m : ℕ). Asks m (back_at g)) (sym c.inside.ensures) (asks_inside g asks))
    ∙ check_look_back g l a.at a.depth c.if-depth-eq0.false (inside a.s.now a.n (omega arith) c.if-n-at.false) (opens_at a.s.now a.n (omega arith) c.if-n-at.false c.in-Constraint.ensures) (sym c.if-looks_back.ensures) (sym asks.back ∙ sym c.if-back_passes.ensures)

pub constraint_in-returns-then-looks_back : goal.constraint_in-returns-then-looks_back
constraint_in-returns-then-looks_back t c = λ g asks.
    let a = c.args in
    let l = take a.n a.s.now in
    check_barred g l a.at a.depth c.if-depth-eq0.false (inside a.s.now a.n (omega arith) c.if-n-at.false) (opens_at a.s.now a.n (omega arith) c.if-n-at.false c.in-Constraint.ensures) (sym c.if-looks_back.ensures) (sym asks.back ∙ sym c.if-back_passes.ensures)

pub constraint_in-returns-then-operands-eq-ONE_CONSTRAINT : goal.constraint_in-returns-then-operands-eq-ONE_CONSTRAINT
constraint_in-returns-then-operands-eq-ONE_CONSTRAINT t c = λ g asks.
    let a = c.args in
    let l = take a.n a.s.now in
    c.constraint_in-middle.ensures g asks
    ∙ check_negation g l a.at a.depth c.if-depth-eq0.false (inside a.s.now a.n (omega arith) c.if-n-at.false) (opens_at a.s.now a.n (omega arith) c.if-n-at.false c.in-Constraint.ensures) (sym c.follows-operands.ensures ∙ c.if-operands-eq-ONE_CONSTRAINT.true) (sym c.if-looks_back.ensures)

pub constraint_in-returns-then-middle-eq-REFUSED-2 : goal.constraint_in-returns-then-middle-eq-REFUSED-2
constraint_in-returns-then-middle-eq-REFUSED-2 t c = λ g asks.
    let a = c.args in
    let l = take a.n a.s.now in
    check_first_c g l a.at a.depth c.if-depth-eq0.false (inside a.s.now a.n (omega arith) c.if-n-at.false) (opens_at a.s.now a.n (omega arith) c.if-n-at.false c.in-Constraint.ensures)
    (λ e. c.if-operands-eq-EXPRESSIONS.false (c.follows-operands.ensures ∙ e)) (λ e. c.if-operands-eq-PAIR.false (c.follows-operands.ensures ∙ e)) (λ e. c.if-operands-eq-NOTHING.false (c.follows-operands.ensures ∙ e)) (λ e. c.if-operands-eq-ONE_CONSTRAINT.false (c.follows-operands.ensures ∙ e))
    (nowhere c.if-middle-eq-REFUSED-2.true ∙ c.constraint_in-middle.ensures g asks)

pub constraint_in-returns : goal.constraint_in-returns
constraint_in-returns t c = λ g asks.
    let a = c.args in
    let l = take a.n a.s.now in
    c.constraint_in-2.ensures g asks
    ∙ check_junction g l a.at a.depth c.if-depth-eq0.false (inside a.s.now a.n (omega arith) c.if-n-at.false) (opens_at a.s.now a.n (omega arith) c.if-n-at.false c.in-Constraint.ensures)
    (λ e. c.if-operands-eq-EXPRESSIONS.false (c.follows-operands.ensures ∙ e)) (λ e. c.if-operands-eq-PAIR.false (c.follows-operands.ensures ∙ e)) (λ e. c.if-operands-eq-NOTHING.false (c.follows-operands.ensures ∙ e)) (λ e. c.if-operands-eq-ONE_CONSTRAINT.false (c.follows-operands.ensures ∙ e))
    (there _ c.if-middle-eq-REFUSED-2.false ∙ c.constraint_in-middle.ensures g asks)

pub expression_in-returns-then-depth-eq0 : goal.expression_in-returns-then-depth-eq0
expression_in-returns-then-depth-eq0 t c = λ g asks.
    let a = c.args in
    let l = take a.n a.s.now in
    no_tree (passes_e g) a.at (deep_e l a.at a.depth c.if-depth-eq0.true)

pub expression_in-returns-then-n-at : goal.expression_in-returns-then-n-at
expression_in-returns-then-n-at t c = λ g asks.
    let a = c.args in
    let l = take a.n a.s.now in
    no_tree (passes_e g) a.at (end_e l a.at a.depth (outside a.s.now a.n (omega arith) c.if-n-at.true))

pub expression_in-returns-in_default : goal.expression_in-returns-in_default
expression_in-returns-in_default t c = λ g asks.
    let a = c.args in
    let l = take a.n a.s.now in
    no_tree (passes_e g) a.at (no_expression l a.at a.depth c.if-depth-eq0.false (inside a.s.now a.n (omega arith) c.if-n-at.false) _ (opens_at a.s.now a.n (omega arith) c.if-n-at.false c.opens.ensures) c.in_default.not-Expression)

pub expression_in-returns-then-follows-eq-PAIR : goal.expression_in-returns-then-follows-eq-PAIR
expression_in-returns-then-follows-eq-PAIR t c = λ g asks.
    let a = c.args in
    let l = take a.n a.s.now in
    c.leaf_at.ensures g asks
    ∙ check_leaf g l a.at a.depth c.if-depth-eq0.false (inside a.s.now a.n (omega arith) c.if-n-at.false) (opens_at a.s.now a.n (omega arith) c.if-n-at.false c.in-Expression.ensures) (sym c.follows.ensures ∙ c.if-follows-eq-PAIR.true)

pub inner_in-returns-then-operands-eq-ONE_CONSTRAINT : goal.inner_in-returns-then-operands-eq-ONE_CONSTRAINT
inner_in-returns-then-operands-eq-ONE_CONSTRAINT t c = λ g asks.
    let a = c.args in
    let l = take a.n a.s.now in
    c.constraint_in.ensures g asks
    ∙ check_reified g l a.at a.depth (λ e. omega (arith, c.requires.holds.deep)) (inside a.s.now a.n (omega arith) c.requires.holds.inside) (opens_at a.s.now a.n (omega arith) c.requires.holds.inside c.requires.holds.opens) (sym c.follows-operands.ensures ∙ c.if-operands-eq-ONE_CONSTRAINT.true)

pub inner_in-returns-then-operands-eq-ONE_EXPRESSION : goal.inner_in-returns-then-operands-eq-ONE_EXPRESSION
inner_in-returns-then-operands-eq-ONE_EXPRESSION t c = λ g asks.
    let a = c.args in
    let l = take a.n a.s.now in
    c.expression_in-middle.ensures g asks
    ∙ check_one g l a.at a.depth (λ e. omega (arith, c.requires.holds.deep)) (inside a.s.now a.n (omega arith) c.requires.holds.inside) (opens_at a.s.now a.n (omega arith) c.requires.holds.inside c.requires.holds.opens) (sym c.follows-operands.ensures ∙ c.if-operands-eq-ONE_EXPRESSION.true)

pub inner_in-returns-then-middle-eq-REFUSED : goal.inner_in-returns-then-middle-eq-REFUSED
inner_in-returns-then-middle-eq-REFUSED t c = λ g asks.
    let a = c.args in
    let l = take a.n a.s.now in
    check_first g l a.at a.depth (λ e. omega (arith, c.requires.holds.deep)) (inside a.s.now a.n (omega arith) c.requires.holds.inside) (opens_at a.s.now a.n (omega arith) c.requires.holds.inside c.requires.holds.opens) c.requires.holds.holds
    (λ e. c.if-operands-eq-ONE_CONSTRAINT.false (c.follows-operands.ensures ∙ e)) (λ e. c.if-operands-eq-ONE_EXPRESSION.false (c.follows-operands.ensures ∙ e))
    (nowhere c.if-middle-eq-REFUSED.true ∙ c.expression_in-middle.ensures g asks)

pub inner_in-returns : goal.inner_in-returns
inner_in-returns t c = λ g asks.
    let a = c.args in
    let l = take a.n a.s.now in
    c.expression_in.ensures g asks
    ∙ check_two g l a.at a.depth (λ e. omega (arith, c.requires.holds.deep)) (inside a.s.now a.n (omega arith) c.requires.holds.inside) (opens_at a.s.now a.n (omega arith) c.requires.holds.inside c.requires.holds.opens) c.requires.holds.holds
    (λ e. c.if-operands-eq-ONE_CONSTRAINT.false (c.follows-operands.ensures ∙ e)) (λ e. c.if-operands-eq-ONE_EXPRESSION.false (c.follows-operands.ensures ∙ e))
    (there _ c.if-middle-eq-REFUSED.false ∙ c.expression_in-middle.ensures g asks)
