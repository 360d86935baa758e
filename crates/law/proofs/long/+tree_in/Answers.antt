-- The tree at a place, by the row of its code.
use Rattle.std.proofs.Common.{sym, ap, ◌∙◌, subst, ℕ}
use Rattle.law.specs.Check.{Asks, back_at, checked_of}
use Rattle.law.proofs.MayLaws.{asks_inside}
use Rattle.law.proofs.LongLaws.{long_deep, long_end, long_none, long_truth, long_short, long_passes, long_fails, long_back, long_barred, long_one, long_two, long_first}
use Rattle.law.proofs.long.+tree_in.Goals as goal

pub returns-then-depth-eq0 : goal.returns-then-depth-eq0
returns-then-depth-eq0 t c = λ g asks.
    let a = c.args in
    long_deep a.wanted g a.s.now a.at a.depth c.if-depth-eq0.true

pub returns-then-s-at : goal.returns-then-s-at
returns-then-s-at t c = λ g asks.
    let a = c.args in
    long_end a.wanted g a.s.now a.at a.depth c.if-s-at.true

pub returns-in_err-row : goal.returns-in_err-row
returns-in_err-row t c = λ g asks.
    let a = c.args in
    ap checked_of c.from_residual.ensures ∙ long_none a.wanted g a.s.now a.at a.depth c.if-depth-eq0.false c.if-s-at.false c.in_err-row.ensures

pub returns-then-follows-eq-NOTHING : goal.returns-then-follows-eq-NOTHING
returns-then-follows-eq-NOTHING t c = λ g asks.
    let a = c.args in
    long_truth a.wanted g a.s.now a.at a.depth c.if-depth-eq0.false c.if-s-at.false c.in_ok-row.ensures (sym c.follows.ensures ∙ c.if-follows-eq-NOTHING.true)

pub returns-in_err-a : goal.returns-in_err-a
returns-in_err-a t c = λ g asks.
    let a = c.args in
    ap checked_of c.from_residual-in_err-a.ensures ∙ long_short a.wanted g a.s.now a.at a.depth c.if-depth-eq0.false c.if-s-at.false c.in_ok-row.ensures (sym c.follows-2.ensures ∙ c.if-follows-eq-PAIR.true) c.in_err-a.ensures

pub returns-then-leaf_passes : goal.returns-then-leaf_passes
returns-then-leaf_passes t c = λ g asks.
    let a = c.args in
    long_passes a.wanted g a.s.now a.at a.depth c.if-depth-eq0.false c.if-s-at.false c.in_ok-row.ensures (sym c.follows-2.ensures ∙ c.if-follows-eq-PAIR.true) c.in_ok-a.ensures (sym (c.if-leaf_passes.ensures g asks))

pub returns-then-follows-eq-PAIR : goal.returns-then-follows-eq-PAIR
returns-then-follows-eq-PAIR t c = λ g asks.
    let a = c.args in
    long_fails a.wanted g a.s.now a.at a.depth c.if-depth-eq0.false c.if-s-at.false c.in_ok-row.ensures (sym c.follows-2.ensures ∙ c.if-follows-eq-PAIR.true) c.in_ok-a.ensures (sym (c.if-leaf_passes.ensures g asks))

pub returns-then-back_passes : goal.returns-then-back_passes
returns-then-back_passes t c = λ g asks.
    let a = c.args in
    c.tree_in.ensures (back_at g) (subst (λ (m : ℕ). Asks m (back_at g)) (sym c.inside.ensures) (asks_inside g asks))
    ∙ long_back a.wanted g a.s.now a.at a.depth c.if-depth-eq0.false c.if-s-at.false c.in_ok-row.ensures (sym c.if-looks_back.ensures) (sym asks.back ∙ sym c.if-back_passes.ensures)

pub returns-then-looks_back : goal.returns-then-looks_back
returns-then-looks_back t c = λ g asks.
    let a = c.args in
    long_barred a.wanted g a.s.now a.at a.depth c.if-depth-eq0.false c.if-s-at.false c.in_ok-row.ensures (sym c.if-looks_back.ensures) (sym asks.back ∙ sym c.if-back_passes.ensures)

pub returns-then-count-eq1 : goal.returns-then-count-eq1
returns-then-count-eq1 t c = λ g asks.
    let a = c.args in
    c.tree_in-middle.ensures g asks
    ∙ long_one a.wanted g a.s.now a.at a.depth c.if-depth-eq0.false c.if-s-at.false c.in_ok-row.ensures c.sort-operands.ensures (sym c.if-looks_back.ensures) (sym c.count.ensures ∙ c.if-count-eq1.true)

pub returns-in_err-middle : goal.returns-in_err-middle
returns-in_err-middle t c = λ g asks.
    let a = c.args in
    ap checked_of c.from_residual-in_err-middle.ensures ∙ long_first a.wanted g a.s.now a.at a.depth c.if-depth-eq0.false c.if-s-at.false c.in_ok-row.ensures c.sort-operands.ensures
    (λ e. c.if-follows-eq-NOTHING.false (c.follows.ensures ∙ e)) (λ e. c.if-follows-eq-PAIR.false (c.follows-2.ensures ∙ e)) (λ e. c.if-count-eq1.false (c.count.ensures ∙ e))
    (c.in_err-middle.ensures g asks)

pub returns : goal.returns
returns t c = λ g asks.
    let a = c.args in
    c.tree_in-2.ensures g asks
    ∙ long_two a.wanted g a.s.now a.at a.depth c.if-depth-eq0.false c.if-s-at.false c.in_ok-row.ensures c.sort-operands.ensures
    (λ e. c.if-follows-eq-NOTHING.false (c.follows.ensures ∙ e)) (λ e. c.if-follows-eq-PAIR.false (c.follows-2.ensures ∙ e)) (λ e. c.if-count-eq1.false (c.count.ensures ∙ e))
    (c.in_ok-middle.ensures g asks)
