use mathlib.Core.Path.{sym, ap, ◌∙◌}
use Rattle.std.proofs.lemmas.Bool.{false≢true}
use borrow.Author.Tests.{not-false, not-true}
use Rattle.supplement.specs.declared.under.Under.{Under}
use Rattle.supplement.proofs.Accepted.{under_none}
use Rattle.judge.specs.Prepared.{Accepted}
use Rattle.judge.proofs.IndexLaws.{is_under, domain_here, in_force, in_limits}
use Rattle.judge.proofs.CallLaws.{call_short, call_none, call_judged}
use Rattle.judge.proofs.judgement.judge_found.Goals as goal

pub returns-then-levels-lt-LEVELS-clause-levels_after : goal.returns-then-levels-lt-LEVELS-clause-levels_after
returns-then-levels-lt-LEVELS-clause-levels_after c = λ found. (call_short c.args.store.now c.args.supplement.now c.args.sheet.now c.args.levels.now c.if-levels-lt-LEVELS.true).0

pub returns-then-levels-lt-LEVELS-clause-states : goal.returns-then-levels-lt-LEVELS-clause-states
returns-then-levels-lt-LEVELS-clause-states c = λ found. (call_short c.args.store.now c.args.supplement.now c.args.sheet.now c.args.levels.now c.if-levels-lt-LEVELS.true).1

pub returns-then-not-under-clause-levels_after : goal.returns-then-not-under-clause-levels_after
returns-then-not-under-clause-levels_after c = λ found.
    (call_none c.args.store.now c.args.supplement.now c.args.sheet.now c.args.levels.now c.if-levels-lt-LEVELS.false (under_none c.args.store.now c.args.supplement.now (sym (ap (λ (u : Under). u.ok) found) ∙ not-true c.args.under.ok c.if-not-under.true))).0

pub returns-then-not-under-clause-states : goal.returns-then-not-under-clause-states
returns-then-not-under-clause-states c = λ found.
    (call_none c.args.store.now c.args.supplement.now c.args.sheet.now c.args.levels.now c.if-levels-lt-LEVELS.false (under_none c.args.store.now c.args.supplement.now (sym (ap (λ (u : Under). u.ok) found) ∙ not-true c.args.under.ok c.if-not-under.true))).1

pub returns-then-not-keeps_limits-clause-levels_after : goal.returns-then-not-keeps_limits-clause-levels_after
returns-then-not-keeps_limits-clause-levels_after c = λ found.
    let accepted : Accepted c.args.store.now c.args.supplement.now c.args.under = record { found = found; ok = not-false c.args.under.ok c.if-not-under.false } in
    absurd (false≢true (sym c.if-not-keeps_limits.true ∙ c.keeps_limits.ensures.1 (in_limits (is_under _ _ accepted))))

pub returns-then-not-keeps_limits-clause-states : goal.returns-then-not-keeps_limits-clause-states
returns-then-not-keeps_limits-clause-states c = λ found.
    let accepted : Accepted c.args.store.now c.args.supplement.now c.args.under = record { found = found; ok = not-false c.args.under.ok c.if-not-under.false } in
    absurd (false≢true (sym c.if-not-keeps_limits.true ∙ c.keeps_limits.ensures.1 (in_limits (is_under _ _ accepted))))

pub returns-clause-levels_after : goal.returns-clause-levels_after
returns-clause-levels_after c = λ found.
    let accepted : Accepted c.args.store.now c.args.supplement.now c.args.under = record { found = found; ok = not-false c.args.under.ok c.if-not-under.false } in
    let here = is_under c.args.store.now c.args.supplement.now accepted in
    c.judge_by.ensures.levels_after (domain_here here) (in_force here accepted) ∙ (call_judged c.args.store.now c.args.supplement.now c.args.sheet.now c.args.levels.now here c.if-levels-lt-LEVELS.false).0

pub returns-clause-states : goal.returns-clause-states
returns-clause-states c = λ found.
    let accepted : Accepted c.args.store.now c.args.supplement.now c.args.under = record { found = found; ok = not-false c.args.under.ok c.if-not-under.false } in
    let here = is_under c.args.store.now c.args.supplement.now accepted in
    c.judge_by.ensures.states (domain_here here) (in_force here accepted) ∙ (call_judged c.args.store.now c.args.supplement.now c.args.sheet.now c.args.levels.now here c.if-levels-lt-LEVELS.false).1
