-- What the tree at a place gives, by the row of its code.
use Rattle.std.proofs.Common.{sym, ap, ◌∙◌, ◌+◌, arith}
use Rattle.bmap.specs.Number.{value, with1, with2, operate, change, compare, join}
use Rattle.bmap.specs.Meaning.{eval_e, eval_c}
use Rattle.law.specs.Evaluate.{onward, history_of}
use Rattle.law.specs.Packed.{value_in, truth_in}
use Rattle.law.specs.Table.{look_back_at}
use Rattle.law.proofs.Trees.{deep_e, deep_c, end_e, end_c, no_expression, no_constraint}
use Rattle.law.proofs.PackedLaws.{there, ends_nowhere, ends_there}
use Rattle.law.proofs.Evals.{nothing_there, eval_leaf, eval_reified, eval_one, eval_two, eval_first}
use Rattle.law.proofs.Evals.{eval_compared, eval_first_e, eval_occurrence, eval_truth, eval_negation, eval_look_back, eval_junction, eval_first_c, first_position, next_position, onward_placed}
use Rattle.law.proofs.eval.+inner_value_so_far_truth_in_value_in.Goals as goal

pub inner_value-returns-then-operands-eq-ONE_CONSTRAINT : goal.inner_value-returns-then-operands-eq-ONE_CONSTRAINT
inner_value-returns-then-operands-eq-ONE_CONSTRAINT t c =
    let a = c.args in
    c.with_value.ensures ∙ onward_placed _ c.reified.ensures c.truth_of.ensures c.end_of.ensures ∙ ap (onward _) c.truth_in-t.ensures
    ∙ eval_reified a.s.now a.at a.depth a.history.now a.j (λ e. omega (arith, c.requires.holds.deep)) (omega arith) c.requires.holds.opens (sym c.follows-operands.ensures ∙ c.if-operands-eq-ONE_CONSTRAINT.true)

pub inner_value-returns-then-operands-eq-ONE_EXPRESSION : goal.inner_value-returns-then-operands-eq-ONE_EXPRESSION
inner_value-returns-then-operands-eq-ONE_EXPRESSION t c =
    let a = c.args in
    c.with_value-then-operands-eq-ONE_EXPRESSION.ensures ∙ onward_placed (with1 (change c.single.result)) c.change.ensures c.value_of.ensures c.end_of-then-operands-eq-ONE_EXPRESSION.ensures ∙ ap (onward (with1 (change c.single.result))) c.value_in-a.ensures
    ∙ rw (c.single.ensures, c.operator.ensures) (eval_one a.s.now a.at a.depth a.history.now a.j (λ e. omega (arith, c.requires.holds.deep)) (omega arith) c.requires.holds.opens (sym c.follows-operands.ensures ∙ c.if-operands-eq-ONE_EXPRESSION.true))

pub inner_value-returns-then-next-eq0 : goal.inner_value-returns-then-next-eq0
inner_value-returns-then-next-eq0 t c =
    let a = c.args in
    eval_first a.s.now a.at a.depth a.history.now a.j (λ e. omega (arith, c.requires.holds.deep)) (omega arith) c.requires.holds.opens c.requires.holds.tree
    (λ e. c.if-operands-eq-ONE_CONSTRAINT.false (c.follows-operands.ensures ∙ e)) (λ e. c.if-operands-eq-ONE_EXPRESSION.false (c.follows-operands.ensures ∙ e))
    (ends_nowhere (value_in c.value_in-a.result) c.end_of-next.ensures c.if-next-eq0.true ∙ c.value_in-a.ensures)

pub inner_value-returns : goal.inner_value-returns
inner_value-returns t c =
    let a = c.args in
    c.with_value-2.ensures ∙ onward_placed (with2 (operate c.operation.result) (value_in c.value_in-a.result)) (rw c.value_of-2.ensures at c.operate-v.ensures) c.value_of-3.ensures c.end_of-2.ensures ∙ ap (onward (with2 (operate c.operation.result) (value_in c.value_in-a.result))) c.value_in-b.ensures
    ∙ rw (c.operation.ensures, c.operator-2.ensures) (eval_two a.s.now a.at a.depth a.history.now a.j (λ e. omega (arith, c.requires.holds.deep)) (omega arith) c.requires.holds.opens c.requires.holds.tree
    (λ e. c.if-operands-eq-ONE_CONSTRAINT.false (c.follows-operands.ensures ∙ e)) (λ e. c.if-operands-eq-ONE_EXPRESSION.false (c.follows-operands.ensures ∙ e))
    (ends_there (value_in c.value_in-a.result) c.end_of-next.ensures c.if-next-eq0.false ∙ c.value_in-a.ensures))

pub so_far-loop-i-init : goal.so_far-loop-i-init
so_far-loop-i-init t c =
    let a = c.args in
    c.truth_in-all.ensures ∙ first_position (look_back_at a.n) a.depth a.s.now a.at a.history.now

pub so_far-loop-i-preserved : goal.so_far-loop-i-preserved
so_far-loop-i-preserved t c =
    let a = c.args in
    next_position (look_back_at a.n) a.depth a.s.now a.at a.history.now c.loop-i.all c.truth_in-here.result c.with_truth-all.result c.loop-i.i c.loop-i.invariant c.truth_in-here.ensures (c.with_truth-all.ensures ∙ onward_placed _ (rw (c.truth_of.ensures, c.joins_by.ensures) at c.join-t.ensures) c.truth_of-in-loop-i.ensures c.end_of.ensures)

pub truth_in-returns-then-depth-eq0 : goal.truth_in-returns-then-depth-eq0
truth_in-returns-then-depth-eq0 t c =
    let a = c.args in
    nothing_there (λ t. eval_c t (history_of a.history.now) a.j) a.at (deep_c a.s.now a.at a.depth c.if-depth-eq0.true)

pub truth_in-returns-then-at-ge-HELD : goal.truth_in-returns-then-at-ge-HELD
truth_in-returns-then-at-ge-HELD t c =
    let a = c.args in
    nothing_there (λ t. eval_c t (history_of a.history.now) a.j) a.at (end_c a.s.now a.at a.depth (omega arith))

pub truth_in-returns-in_default : goal.truth_in-returns-in_default
truth_in-returns-in_default t c =
    let a = c.args in
    nothing_there (λ t. eval_c t (history_of a.history.now) a.j) a.at (no_constraint a.s.now a.at a.depth c.if-depth-eq0.false (omega arith) _ c.opens.ensures c.in_default.not-Constraint)

pub truth_in-returns-then-next-eq0 : goal.truth_in-returns-then-next-eq0
truth_in-returns-then-next-eq0 t c =
    let a = c.args in
    eval_first_e a.s.now a.at a.depth a.history.now a.j c.if-depth-eq0.false (omega arith) c.in-Constraint.ensures (sym c.follows-operands.ensures ∙ c.if-operands-eq-EXPRESSIONS.true) (ends_nowhere (value_in c.value_in-a.result) c.end_of-next.ensures c.if-next-eq0.true ∙ c.value_in-a.ensures)

pub truth_in-returns-then-operands-eq-EXPRESSIONS : goal.truth_in-returns-then-operands-eq-EXPRESSIONS
truth_in-returns-then-operands-eq-EXPRESSIONS t c =
    let a = c.args in
    c.with_truth.ensures ∙ onward_placed (with2 (λ x y. value (compare c.comparison.result x y)) (value_in c.value_in-a.result)) (rw c.value_of.ensures at c.compare-t.ensures) c.value_of-then-operands-eq-EXPRESSIONS.ensures c.end_of.ensures ∙ ap (onward (with2 (λ x y. value (compare c.comparison.result x y)) (value_in c.value_in-a.result))) c.value_in-b.ensures
    ∙ rw (c.comparison.ensures, c.operator.ensures) (eval_compared a.s.now a.at a.depth a.history.now a.j c.if-depth-eq0.false (omega arith) c.in-Constraint.ensures (sym c.follows-operands.ensures ∙ c.if-operands-eq-EXPRESSIONS.true) (ends_there (value_in c.value_in-a.result) c.end_of-next.ensures c.if-next-eq0.false ∙ c.value_in-a.ensures))

pub truth_in-returns-then-operands-eq-PAIR : goal.truth_in-returns-then-operands-eq-PAIR
truth_in-returns-then-operands-eq-PAIR t c =
    let a = c.args in
    c.occurrence_in.ensures ∙ eval_occurrence a.s.now a.at a.depth a.history.now a.j c.if-depth-eq0.false (omega arith) c.in-Constraint.ensures (sym c.follows-operands.ensures ∙ c.if-operands-eq-PAIR.true)

pub truth_in-returns-then-operands-eq-NOTHING : goal.truth_in-returns-then-operands-eq-NOTHING
truth_in-returns-then-operands-eq-NOTHING t c =
    let a = c.args in
    c.with_truth-then-operands-eq-NOTHING.ensures ∙ sym (there _ (a.at + 1) (λ e. omega arith)) ∙ eval_truth a.s.now a.at a.depth a.history.now a.j c.if-depth-eq0.false (omega arith) c.in-Constraint.ensures (sym c.follows-operands.ensures ∙ c.if-operands-eq-NOTHING.true)

pub truth_in-returns-then-looks_back : goal.truth_in-returns-then-looks_back
truth_in-returns-then-looks_back t c =
    let a = c.args in
    c.so_far.ensures ∙ rw c.operator-then-looks_back.ensures (eval_look_back a.s.now a.at a.depth a.history.now a.j c.if-depth-eq0.false (omega arith) c.in-Constraint.ensures (sym c.if-looks_back.ensures))

pub truth_in-returns-then-operands-eq-ONE_CONSTRAINT : goal.truth_in-returns-then-operands-eq-ONE_CONSTRAINT
truth_in-returns-then-operands-eq-ONE_CONSTRAINT t c =
    let a = c.args in
    c.with_truth-then-operands-eq-ONE_CONSTRAINT.ensures ∙ onward_placed _ c.negate.ensures c.truth_of.ensures c.end_of-then-operands-eq-ONE_CONSTRAINT.ensures ∙ ap (onward _) c.truth_in-a.ensures
    ∙ eval_negation a.s.now a.at a.depth a.history.now a.j c.if-depth-eq0.false (omega arith) c.in-Constraint.ensures (sym c.follows-operands.ensures ∙ c.if-operands-eq-ONE_CONSTRAINT.true) (sym c.if-looks_back.ensures)

pub truth_in-returns-then-next-eq0-2 : goal.truth_in-returns-then-next-eq0-2
truth_in-returns-then-next-eq0-2 t c =
    let a = c.args in
    eval_first_c a.s.now a.at a.depth a.history.now a.j c.if-depth-eq0.false (omega arith) c.in-Constraint.ensures
    (λ e. c.if-operands-eq-EXPRESSIONS.false (c.follows-operands.ensures ∙ e)) (λ e. c.if-operands-eq-PAIR.false (c.follows-operands.ensures ∙ e)) (λ e. c.if-operands-eq-NOTHING.false (c.follows-operands.ensures ∙ e)) (λ e. c.if-operands-eq-ONE_CONSTRAINT.false (c.follows-operands.ensures ∙ e))
    (ends_nowhere (truth_in c.truth_in-a.result) c.end_of-next-2.ensures c.if-next-eq0-2.true ∙ c.truth_in-a.ensures)

pub truth_in-returns : goal.truth_in-returns
truth_in-returns t c =
    let a = c.args in
    c.with_truth-2.ensures ∙ onward_placed (with2 (λ x y. value (join c.junction.result x y)) (truth_in c.truth_in-a.result)) (rw c.truth_of-2.ensures at c.join-t.ensures) c.truth_of-3.ensures c.end_of-2.ensures ∙ ap (onward (with2 (λ x y. value (join c.junction.result x y)) (truth_in c.truth_in-a.result))) c.truth_in-b.ensures
    ∙ rw (c.junction.ensures, c.operator-2.ensures) (eval_junction a.s.now a.at a.depth a.history.now a.j c.if-depth-eq0.false (omega arith) c.in-Constraint.ensures
    (λ e. c.if-operands-eq-EXPRESSIONS.false (c.follows-operands.ensures ∙ e)) (λ e. c.if-operands-eq-PAIR.false (c.follows-operands.ensures ∙ e)) (λ e. c.if-operands-eq-NOTHING.false (c.follows-operands.ensures ∙ e)) (λ e. c.if-operands-eq-ONE_CONSTRAINT.false (c.follows-operands.ensures ∙ e))
    (ends_there (truth_in c.truth_in-a.result) c.end_of-next-2.ensures c.if-next-eq0-2.false ∙ c.truth_in-a.ensures))

pub value_in-returns-then-depth-eq0 : goal.value_in-returns-then-depth-eq0
value_in-returns-then-depth-eq0 t c =
    let a = c.args in
    nothing_there (λ t. eval_e t (history_of a.history.now) a.j) a.at (deep_e a.s.now a.at a.depth c.if-depth-eq0.true)

pub value_in-returns-then-at-ge-HELD : goal.value_in-returns-then-at-ge-HELD
value_in-returns-then-at-ge-HELD t c =
    let a = c.args in
    nothing_there (λ t. eval_e t (history_of a.history.now) a.j) a.at (end_e a.s.now a.at a.depth (omega arith))

pub value_in-returns-in_default : goal.value_in-returns-in_default
value_in-returns-in_default t c =
    let a = c.args in
    nothing_there (λ t. eval_e t (history_of a.history.now) a.j) a.at (no_expression a.s.now a.at a.depth c.if-depth-eq0.false (omega arith) _ c.opens.ensures c.in_default.not-Expression)

pub value_in-returns-then-follows-eq-PAIR : goal.value_in-returns-then-follows-eq-PAIR
value_in-returns-then-follows-eq-PAIR t c =
    let a = c.args in
    c.leaf_in.ensures ∙ eval_leaf a.s.now a.at a.depth a.history.now a.j c.if-depth-eq0.false (omega arith) c.in-Expression.ensures (sym c.follows.ensures ∙ c.if-follows-eq-PAIR.true)
