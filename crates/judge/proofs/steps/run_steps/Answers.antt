use Prim.Native.Nat.{ℕ, ◌+◌, ◌-◌, ◌*◌, ◌≤◌}
use mathlib.Core.Path.{◌≡◌, refl, sym, ap, subst, ◌∙◌}
use mathlib.Core.List.{List, []}
use native.Mathlib.Omega.{arith}
use lib.ListN.{length, take, drop}
use borrow.Author.Rules.{rules}
use lib.Seq.{length-take-le}
use Rattle.bmap.specs.Domain.{Domain, Names, State}
use Rattle.bmap.specs.Sheet.{rows}
use Rattle.bmap.specs.Judge.{history, landed, step, carried, accepted}
use Rattle.law.specs.Evaluate.{row_size}
use Rattle.judge.specs.Answer.{pass_of}
use Rattle.judge.specs.States.{state_at, states_of, leaving, marks_from}
use Rattle.judge.specs.Landing.{Laid, Landed, allowed}
use Rattle.judge.specs.Told.{Acts, Acted}
use Rattle.judge.specs.Prepared.{Planned}
use Rattle.judge.proofs.StateLaws.{state_kept, states_kept, states_more, between_blank}
use Rattle.judge.proofs.StepLaws.{step_barred, step_on}
use Rattle.judge.proofs.RunLaws.{Going, entries_many, entered_first, broken_through, broken_judged, acted_kept, acted_more, row_names, row_on, row_there, row_left, carried_end, carried_stop, carried_on, rest_is}
use Rattle.judge.proofs.steps.run_steps.Goals as goal
use Rattle.judge.proofs.steps.run_steps.Goals.{After-check_acts}

-- what is so of a step once its names and its laws were asked
module _ (c : After-check_acts) (d : Domain) (l : ℕ) where
  abbrev agents : ℕ
  agents = c.args.plan.now.counts.agents

  abbrev width : ℕ
  width = c.args.plan.now.counts.fluents

  abbrev sheet : List Names
  sheet = rows agents c.args.n c.args.sheet.now

  abbrev names : Names
  names = take agents c.loop-j.rest.now

  abbrev states : List State
  states = states_of width (c.loop-j.j + 1) c.mark_step.new.history

  record Told : Type 0 where
    going : Going d agents c.args.n width sheet (states_of width 1 c.args.history.now) c.loop-j.j c.loop-j.history c.loop-j.levels c.loop-j.acting c.loop-j.before.now c.loop-j.rest.now
    who : Acts d names c.acting_in-acting.result
    few : length d.entries ≤ 64
    acted : Acted d sheet c.mark_step.new.history (c.loop-j.j + 1)
    run : carried d sheet 0 (states_of width 1 c.args.history.now) sheet ≡ carried d sheet c.loop-j.j states (rows agents (c.args.n - c.loop-j.j) c.loop-j.rest.now)
    allowing : pass_of c.check_acts.result ≡ allowed d (history d sheet states) c.loop-j.j names

  told_to : Planned d c.args.held.now l c.args.plan.now → Told
  told_to p =
      let going = c.loop-j.invariant.1 d l p in
      let many : length d.entries ≡ c.args.plan.now.counts.entries = entries_many d c.args.plan.now.entries c.args.plan.now.counts.entries p.entered in
      let few : length d.entries ≤ 64 = omega (arith, c.requires.limits.entries) in
      let who : Acts d names c.acting_in-acting.result =
      c.acting_in-acting.ensures d (let long : length c.args.plan.now.entries ≡ 64 = search rules in entered_first d c.args.plan.now.entries c.args.plan.now.counts.entries (omega (arith, c.requires.limits.entries)) p.entered) (length-take-le agents c.loop-j.rest.now (row_there agents c.args.n c.loop-j.j c.loop-j.rest.now c.loop-j-test.true c.loop-j.invariant.0.whole) ∙ sym p.agents) going.last in
      let acted : Acted d sheet c.mark_step.new.history (c.loop-j.j + 1) =
      acted_more d sheet c.loop-j.j c.loop-j.history c.mark_step.new.history names c.acting_in-acting.result.entries few c.mark_step.ensures.kept.before
      (row_names agents c.args.n c.loop-j.j c.loop-j.rest.now c.loop-j-test.true sheet going.left) who.occurring (λ e q. c.mark_step.ensures.marks c.loop-j.invariant.0.blank e (omega arith)) going.acted in
      record {
        going = going;
        who = who;
        few = few;
        acted = acted;
        run = going.run
            ∙ ap (λ (k : List State). carried d sheet c.loop-j.j k (rows agents (c.args.n - c.loop-j.j) c.loop-j.rest.now)) (sym (states_kept width (marks_from c.loop-j.j) (c.loop-j.j + 1) c.loop-j.history c.mark_step.new.history c.mark_step.ensures.kept.before c.requires.limits.fluents (omega arith)));
        allowing = c.check_acts.ensures d l sheet names p who acted;
      }

pub returns-in-Err : goal.returns-in-Err
returns-in-Err c = record {
  through = broken_through c.loop-j.j _ c.broken.result c.broken.ensures c.loop-j-test.true;
  judged = λ d l p.
      let told = told_to (goal.at.returns-in-Err c).After-check_acts d l p in
      broken_judged c.loop-j.j _ c.broken.result c.broken.ensures c.args.plan.now.counts.fluents c.mark_step.new.history
      (told.run ∙ carried_stop c.args.plan.now.counts.agents d (rows c.args.plan.now.counts.agents c.args.n c.args.sheet.now) c.args.n c.loop-j.j (states_of c.args.plan.now.counts.fluents (c.loop-j.j + 1) c.mark_step.new.history) c.loop-j.rest.now c.loop-j-test.true c.check_acts.result []
      (step_barred d (rows c.args.plan.now.counts.agents c.args.n c.args.sheet.now) (states_of c.args.plan.now.counts.fluents (c.loop-j.j + 1) c.mark_step.new.history) c.loop-j.j (take c.args.plan.now.counts.agents c.loop-j.rest.now) c.check_acts.result told.allowing [] c.in-Err.is) c.in-Err.is refl);
}

pub returns-in-Err-land : goal.returns-in-Err-land
returns-in-Err-land c = record {
  through = broken_through c.loop-j.j _ c.broken-in-Err-land.result c.broken-in-Err-land.ensures c.loop-j-test.true;
  judged = λ d l p.
      let told = told_to (goal.at.returns-in-Err-land c).After-check_acts d l p in
      let landing : Landed c.land.result c.args.plan.now.counts.fluents c.land.new.new (state_at c.args.plan.now.counts.fluents c.land.new.history (c.loop-j.j + 1)) (landed d (rows c.args.plan.now.counts.agents c.args.n c.args.sheet.now) (states_of c.args.plan.now.counts.fluents (c.loop-j.j + 1) c.mark_step.new.history) c.loop-j.j (take c.args.plan.now.counts.agents c.loop-j.rest.now)) =
      c.land.ensures.landed d l (rows c.args.plan.now.counts.agents c.args.n c.args.sheet.now) (take c.args.plan.now.counts.agents c.loop-j.rest.now) p told.who.occurring told.acted
      (subst (Laid c.args.plan.now.counts.fluents c.loop-j.levels []) (sym (state_kept c.args.plan.now.counts.fluents (marks_from c.loop-j.j) c.loop-j.j c.loop-j.history c.mark_step.new.history c.mark_step.ensures.kept.before (omega (arith, c.requires.limits.fluents)))) told.going.present) in
      let stepping : leaving c.land.result (state_at c.args.plan.now.counts.fluents c.land.new.history (c.loop-j.j + 1)) ≡ step d (rows c.args.plan.now.counts.agents c.args.n c.args.sheet.now) (states_of c.args.plan.now.counts.fluents (c.loop-j.j + 1) c.mark_step.new.history) c.loop-j.j (take c.args.plan.now.counts.agents c.loop-j.rest.now) =
      landing.leaves ∙ step_on d (rows c.args.plan.now.counts.agents c.args.n c.args.sheet.now) (states_of c.args.plan.now.counts.fluents (c.loop-j.j + 1) c.mark_step.new.history) c.loop-j.j (take c.args.plan.now.counts.agents c.loop-j.rest.now) c.check_acts.result told.allowing c.in_default.is in
      broken_judged c.loop-j.j _ c.broken-in-Err-land.result c.broken-in-Err-land.ensures c.args.plan.now.counts.fluents c.land.new.history
      (told.run ∙ carried_stop c.args.plan.now.counts.agents d (rows c.args.plan.now.counts.agents c.args.n c.args.sheet.now) c.args.n c.loop-j.j (states_of c.args.plan.now.counts.fluents (c.loop-j.j + 1) c.mark_step.new.history) c.loop-j.rest.now c.loop-j-test.true c.land.result (state_at c.args.plan.now.counts.fluents c.land.new.history (c.loop-j.j + 1)) stepping c.in-Err-land.is
      (states_kept c.args.plan.now.counts.fluents (row_size * (c.loop-j.j + 1)) (c.loop-j.j + 1) c.mark_step.new.history c.land.new.history c.land.ensures.kept.before c.requires.limits.fluents (omega arith)));
}

pub loop-j-preserved : goal.loop-j-preserved
loop-j-preserved c =
    let kept = c.land.ensures.kept in
    let part : take (length c.loop-j.rest.now - c.args.plan.now.counts.agents) (drop c.args.plan.now.counts.agents c.loop-j.rest.now) ≡ drop c.args.plan.now.counts.agents c.loop-j.rest.now = rest_is c.args.plan.now.counts.agents c.loop-j.rest.now in (
      record {
        whole = ap length part ∙ row_left c.args.plan.now.counts.agents c.args.n c.loop-j.j c.loop-j.rest.now c.loop-j-test.true c.loop-j.invariant.0.whole;
        blank = between_blank (row_size * (c.loop-j.j + 1)) (marks_from (c.loop-j.j + 1)) c.mark_step.new.history c.land.new.history kept (row_size * (c.loop-j.j + 1)) (omega arith) (between_blank (marks_from c.loop-j.j) (row_size * (c.loop-j.j + 1)) c.loop-j.history c.mark_step.new.history c.mark_step.ensures.kept (marks_from c.loop-j.j) (omega arith) c.loop-j.invariant.0.blank);
      },
      λ d l p.
          let told = told_to (goal.at.loop-j-preserved c).After-check_acts d l p in
          let landing : Landed c.land.result c.args.plan.now.counts.fluents c.land.new.new (state_at c.args.plan.now.counts.fluents c.land.new.history (c.loop-j.j + 1)) (landed d (rows c.args.plan.now.counts.agents c.args.n c.args.sheet.now) (states_of c.args.plan.now.counts.fluents (c.loop-j.j + 1) c.mark_step.new.history) c.loop-j.j (take c.args.plan.now.counts.agents c.loop-j.rest.now)) =
          c.land.ensures.landed d l (rows c.args.plan.now.counts.agents c.args.n c.args.sheet.now) (take c.args.plan.now.counts.agents c.loop-j.rest.now) p told.who.occurring told.acted
          (subst (Laid c.args.plan.now.counts.fluents c.loop-j.levels []) (sym (state_kept c.args.plan.now.counts.fluents (marks_from c.loop-j.j) c.loop-j.j c.loop-j.history c.mark_step.new.history c.mark_step.ensures.kept.before (omega (arith, c.requires.limits.fluents)))) told.going.present) in
          let stepping : leaving c.land.result (state_at c.args.plan.now.counts.fluents c.land.new.history (c.loop-j.j + 1)) ≡ step d (rows c.args.plan.now.counts.agents c.args.n c.args.sheet.now) (states_of c.args.plan.now.counts.fluents (c.loop-j.j + 1) c.mark_step.new.history) c.loop-j.j (take c.args.plan.now.counts.agents c.loop-j.rest.now) =
          landing.leaves ∙ step_on d (rows c.args.plan.now.counts.agents c.args.n c.args.sheet.now) (states_of c.args.plan.now.counts.fluents (c.loop-j.j + 1) c.mark_step.new.history) c.loop-j.j (take c.args.plan.now.counts.agents c.loop-j.rest.now) c.check_acts.result told.allowing c.in_default.is in
          record {
            acted = acted_kept d (rows c.args.plan.now.counts.agents c.args.n c.args.sheet.now) (c.loop-j.j + 1) (row_size * (c.loop-j.j + 1)) c.mark_step.new.history c.land.new.history told.few (omega arith) kept.before told.acted;
            left = row_on c.args.plan.now.counts.agents c.args.n c.loop-j.j c.loop-j.rest.now c.loop-j-test.true (rows c.args.plan.now.counts.agents c.args.n c.args.sheet.now) told.going.left ∙ ap (rows c.args.plan.now.counts.agents (c.args.n - (c.loop-j.j + 1))) (sym part);
            run = told.run ∙ (carried_on c.args.plan.now.counts.agents d (rows c.args.plan.now.counts.agents c.args.n c.args.sheet.now) c.args.n c.loop-j.j (states_of c.args.plan.now.counts.fluents (c.loop-j.j + 1) c.mark_step.new.history) c.loop-j.rest.now c.loop-j-test.true c.land.result (state_at c.args.plan.now.counts.fluents c.land.new.history (c.loop-j.j + 1)) stepping c.in_default-land.is
                (states_more c.args.plan.now.counts.fluents c.loop-j.j c.mark_step.new.history c.land.new.history kept.before c.requires.limits.fluents)
                ∙ ap (λ (r : List ℕ). carried d (rows c.args.plan.now.counts.agents c.args.n c.args.sheet.now) (c.loop-j.j + 1) (states_of c.args.plan.now.counts.fluents (c.loop-j.j + 1 + 1) c.land.new.history) (rows c.args.plan.now.counts.agents (c.args.n - (c.loop-j.j + 1)) r)) (sym part));
            present = landing.levels c.in_default-land.is;
            last = λ q. told.who;
          },
    )

pub returns : goal.returns
returns c = let z : c.loop-j.j ≡ c.args.n = omega arith in record {
  through = record { most = omega arith; all = λ e. refl };
  judged = λ d l p.
      sym ((c.loop-j.invariant.1 d l p).run ∙ (carried_end c.args.plan.now.counts.agents d (rows c.args.plan.now.counts.agents c.args.n c.args.sheet.now) c.args.n c.loop-j.j (states_of c.args.plan.now.counts.fluents (c.loop-j.j + 1) c.loop-j.history) c.loop-j.rest.now c.loop-j-test.false
      ∙ ap (λ (k : ℕ). record { states = states_of c.args.plan.now.counts.fluents (k + 1) c.loop-j.history; verdict = accepted }) z));
}
