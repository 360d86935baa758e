use Prim.Native.Nat.{◌+◌}
use mathlib.Core.Path.{◌≡◌, refl, sym, ap, ◌∙◌}
use native.Mathlib.Omega.{arith}
use borrow.Author.Rules.{rules}
use Rattle.std.specs.Prelude.{Err}
use Rattle.bmap.specs.Domain.{concurrency}
use Rattle.bmap.specs.Meaning.{History}
use Rattle.bmap.specs.Judge.{history}
use Rattle.judge.specs.Answer.{pass_of}
use Rattle.judge.specs.States.{states_of}
use Rattle.judge.proofs.LandingLaws.{range_count}
use Rattle.judge.proofs.StepLaws.{seen_all, barred_entries, allowed_laws}
use Rattle.judge.proofs.steps.check_acts.Goals as goal

pub returns-in_err-check_entries : goal.returns-in_err-check_entries
returns-in_err-check_entries c = λ d n sheet names p acts acted.
    let past : History = history d sheet (states_of c.args.plan.now.counts.fluents (c.args.step.j + 1) c.args.history.now) in
    let seen = seen_all d sheet c.args.plan.now.counts.fluents c.args.history.now c.args.step.j (omega (arith, c.requires.step)) (range_count d c.args.plan.now.fluents c.args.plan.now.counts.fluents p.ranged) acted in
    let agents = sym acts.agents ∙ ap pass_of c.in_ok-step.was in
    let entries = sym (c.check_entries.ensures d past n names p.lawful p.ordered.executable p.owned acts seen) in
    let e : c.from_residual-in_err-check_entries.result ≡ Err c.in_err-check_entries.field-0.0 = search rules in
    ap pass_of e ∙ barred_entries d past c.args.step.j names agents (entries ∙ ap pass_of c.in_err-check_entries.was)

pub returns : goal.returns
returns c = λ d n sheet names p acts acted.
    let past : History = history d sheet (states_of c.args.plan.now.counts.fluents (c.args.step.j + 1) c.args.history.now) in
    let seen = seen_all d sheet c.args.plan.now.counts.fluents c.args.history.now c.args.step.j (omega (arith, c.requires.step)) (range_count d c.args.plan.now.fluents c.args.plan.now.counts.fluents p.ranged) acted in
    let agents = sym acts.agents ∙ ap pass_of c.in_ok-step.was in
    let entries = sym (c.check_entries.ensures d past n names p.lawful p.ordered.executable p.owned acts seen) in
    allowed_laws d past c.args.step.j names agents (entries ∙ ap pass_of c.in_ok-check_entries.was)
    (c.check_in_step.ensures d past concurrency n refl p.lawful p.ordered.concurrency seen)
