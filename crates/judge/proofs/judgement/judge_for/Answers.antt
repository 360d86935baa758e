use mathlib.Core.Path.{sym, ap, ◌∙◌}
use mathlib.Core.List.{[]}
use borrow.Author.Tests.{not-false, not-true}
use Rattle.supplement.specs.declared.under.Under.{Under}
use Rattle.supplement.proofs.Accepted.{under_none}
use Rattle.judge.specs.Prepared.{Accepted}
use Rattle.judge.proofs.IndexLaws.{is_under, domain_here, in_force, in_limits}
use Rattle.judge.proofs.CallLaws.{for_short, for_none, for_other, for_judged}
use Rattle.judge.proofs.judgement.judge_for.Goals as goal

pub returns-then-levels-lt-LEVELS : goal.returns-then-levels-lt-LEVELS
returns-then-levels-lt-LEVELS c = let short = for_short c.args.agents c.args.store.now c.args.sheet.now c.args.levels.now c.if-levels-lt-LEVELS.true in record { levels_after = short.0; states = short.1 }

pub returns-then-not-under : goal.returns-then-not-under
returns-then-not-under c =
    let none = for_none c.args.agents c.args.store.now c.args.sheet.now c.args.levels.now c.if-levels-lt-LEVELS.false (under_none c.args.store.now [] (sym (ap (λ (u : Under). u.ok) c.index_of-under.ensures) ∙ not-true c.index_of-under.result.ok c.if-not-under.true)) in
    record { levels_after = none.0; states = none.1 }

pub returns-then-under-agents : goal.returns-then-under-agents
returns-then-under-agents c =
    let accepted : Accepted c.args.store.now [] c.index_of-under.result = record { found = c.index_of-under.ensures; ok = not-false c.index_of-under.result.ok c.if-not-under.false } in
    let here = is_under c.args.store.now [] {u = c.index_of-under.result} accepted in
    let other = for_other c.args.agents c.args.store.now c.args.sheet.now c.args.levels.now c.if-levels-lt-LEVELS.false here c.if-under-agents.true in
    record { levels_after = other.0; states = other.1 }

pub judge_by-requires : goal.judge_by-requires
judge_by-requires c =
    let accepted : Accepted c.args.store.now [] c.index_of-under.result = record { found = c.index_of-under.ensures; ok = not-false c.index_of-under.result.ok c.if-not-under.false } in
    let here = is_under c.args.store.now [] {u = c.index_of-under.result} accepted in
    record { limits = in_limits here; room = c.if-levels-lt-LEVELS.false }

pub returns : goal.returns
returns c =
    let accepted : Accepted c.args.store.now [] c.index_of-under.result = record { found = c.index_of-under.ensures; ok = not-false c.index_of-under.result.ok c.if-not-under.false } in
    let here = is_under c.args.store.now [] {u = c.index_of-under.result} accepted in
    let called = for_judged c.args.agents c.args.store.now c.args.sheet.now c.args.levels.now c.if-levels-lt-LEVELS.false here c.if-under-agents.false in
    record {
      levels_after = c.judge_by.ensures.levels_after (domain_here here) (in_force here accepted) ∙ called.0;
      states = c.judge_by.ensures.states (domain_here here) (in_force here accepted) ∙ called.1;
    }
