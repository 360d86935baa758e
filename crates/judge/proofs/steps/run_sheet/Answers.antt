use Prim.Native.Nat.{ℕ, ◌+◌}
use mathlib.Core.Path.{◌≡◌, refl, sym, ap, subst, ◌∙◌}
use mathlib.Core.List.{List, [], ◌∷◌}
use native.Mathlib.Omega.{arith}
use Rattle.bmap.specs.Domain.{Domain, Names, State, static}
use Rattle.bmap.specs.Domain as domain
use Rattle.bmap.specs.Sheet.{rows}
use Rattle.bmap.specs.Judge.{pass, history, start_of, carried, all_hold}
use Rattle.judge.specs.Answer.{pass_of, verdict_of}
use Rattle.judge.specs.States.{states_of}
use Rattle.judge.specs.Prepared.{judged_of}
use Rattle.judge.specs.declared.verdict.Judged.{Judged}
use Rattle.judge.proofs.StateLaws.{states_one, starts_taken}
use Rattle.judge.proofs.RunLaws.{rows_length}
use Rattle.judge.proofs.JudgeLaws.{started, start_blank, judge_start, judge_broken, judge_goal, judge_accepted}
use Rattle.judge.proofs.LandingLaws.{range_count}
use Rattle.judge.proofs.StepLaws.{seen_at}
use lib.ListN.{length, drop}
use lib.Seq.{length-take-le}
use borrow.Author.Rules.{rules}
use Rattle.bmap.specs.Limits.{most_fluents}
use mathlib.Core.Bool.{false}
use Rattle.judge.specs.Told.{Seen}
use Rattle.judge.specs.Prepared.{Planned}
use Rattle.judge.proofs.steps.run_sheet.Goals as goal
use Rattle.judge.proofs.steps.run_sheet.Goals.{After-run_steps-judged}

pub returns-in-Err : goal.returns-in-Err
unfolding states_of
returns-in-Err c = record {
  few = omega (arith, ap (λ (r : Judged). r.states) c.broken.ensures);
  judged = λ d l p.
      let one : states_of c.args.plan.now.counts.fluents 1 c.put_start.new.history ≡ start_of d ∷ [] =
      states_one c.args.plan.now.counts.fluents c.put_start.new.history (starts_taken c.args.plan.now.counts.fluents c.args.plan.now.fluents c.put_start.new.history (let long : length c.args.plan.now.fluents ≡ most_fluents = search rules in omega (arith, c.requires.limits.fluents)) c.put_start.ensures.state ∙ sym (started d c.args.plan.now.fluents c.args.plan.now.counts.fluents p.ranged)) in
      let static_laws : all_hold static 6 d (history d (rows c.args.plan.now.counts.agents c.args.n c.args.sheet.now) (start_of d ∷ [])) 0 ≡ pass_of c.check_laws.result =
      sym (c.check_laws.ensures d (history d (rows c.args.plan.now.counts.agents c.args.n c.args.sheet.now) (start_of d ∷ [])) static l refl p.lawful p.ordered.fixed
      (seen_at d (rows c.args.plan.now.counts.agents c.args.n c.args.sheet.now) c.args.plan.now.counts.fluents c.put_start.new.history 0 (omega arith) (range_count d c.args.plan.now.fluents c.args.plan.now.counts.fluents p.ranged) one)) in
      ap (λ (r : Judged). judged_of c.args.plan.now.counts.fluents r c.put_start.new.history) c.broken.ensures ∙ judge_start d (rows c.args.plan.now.counts.agents c.args.n c.args.sheet.now) (static_laws ∙ ap pass_of c.in-Err.is);
}

pub run_steps-judged-requires : goal.run_steps-judged-requires
run_steps-judged-requires c = let pre = c.requires in record {
  limits = pre.limits;
  steps = pre.steps;
  whole = pre.whole;
  blank = start_blank c.args.plan.now.counts.fluents c.args.history.now c.put_start.new.history pre.limits.fluents
      (let long : length c.args.plan.now.fluents ≡ most_fluents = search rules in subst (λ (k : ℕ). drop k c.put_start.new.history ≡ drop k c.args.history.now) (length-take-le c.args.plan.now.counts.fluents c.args.plan.now.fluents (omega (arith, pre.limits.fluents))) c.put_start.ensures.rest) pre.blank;
}

-- what is so once the steps were run
module _ (c : After-run_steps-judged) (d : Domain) (l : ℕ) where
  abbrev agents : ℕ
  agents = c.args.plan.now.counts.agents

  abbrev width : ℕ
  width = c.args.plan.now.counts.fluents

  abbrev sheet : List Names
  sheet = rows agents c.args.n c.args.sheet.now

  -- the states reached so far, where there are so many
  abbrev reached : ℕ → List State
  reached k = states_of width k c.run_steps-judged.new.history

  record Gone : Type 0 where
    holds : all_hold static 6 d (history d sheet (start_of d ∷ [])) 0 ≡ pass
    steps : judged_of width c.run_steps-judged.result c.run_steps-judged.new.history ≡ carried d sheet 0 (start_of d ∷ []) sheet
    -- the goal laws may be read, if all steps were gone
    seen : {states : List State} → reached (c.args.n + 1) ≡ states → Seen false d (history d sheet states) c.run_steps-judged.new.history c.args.n

  gone_by : Planned d c.args.held.now l c.args.plan.now → Gone
  gone_by p =
      let count : length d.fluents ≡ width = range_count d c.args.plan.now.fluents width p.ranged in
      let one : states_of width 1 c.put_start.new.history ≡ start_of d ∷ [] = states_one width c.put_start.new.history (starts_taken width c.args.plan.now.fluents c.put_start.new.history (let long : length c.args.plan.now.fluents ≡ most_fluents = search rules in omega (arith, c.requires.limits.fluents)) c.put_start.ensures.state ∙ sym (started d c.args.plan.now.fluents width p.ranged)) in
      record {
        holds = sym (c.check_laws.ensures d (history d sheet (start_of d ∷ [])) static l refl p.lawful p.ordered.fixed (seen_at d sheet width c.put_start.new.history 0 (omega arith) count one)) ∙ ap pass_of c.in_default.is;
        steps = c.run_steps-judged.ensures.judged d l p ∙ ap (λ (h : List State). carried d sheet 0 h sheet) one;
        seen = λ e. seen_at d sheet width c.run_steps-judged.new.history c.args.n (omega (arith, c.requires.steps)) count e;
      }

pub returns-in_default-verdict : goal.returns-in_default-verdict
returns-in_default-verdict c = record {
  few = omega (arith, c.run_steps-judged.ensures.through.most, c.requires.steps);
  judged = λ d l p.
      let g = gone_by (goal.at.returns-in_default-verdict c).After-run_steps-judged d l p in
      judge_broken d (rows c.args.plan.now.counts.agents c.args.n c.args.sheet.now) g.holds g.steps (ap verdict_of c.in_default-verdict.is);
}

pub returns-in-Err-check_laws : goal.returns-in-Err-check_laws
returns-in-Err-check_laws c = record {
  few = omega (arith, ap (λ (r : Judged). r.states) c.broken-in-Err-check_laws.ensures, c.requires.steps);
  judged = λ d l p.
      let g = gone_by (goal.at.returns-in-Err-check_laws c).After-run_steps-judged d l p in
      let sheet : List Names = rows c.args.plan.now.counts.agents c.args.n c.args.sheet.now in
      let accepted = ap verdict_of c.in-Accepted.is in
      let all_steps : c.run_steps-judged.result.states ≡ c.args.n + 1 = c.run_steps-judged.ensures.through.all accepted in
      ap (λ (r : Judged). judged_of c.args.plan.now.counts.fluents r c.run_steps-judged.new.history) c.broken-in-Err-check_laws.ensures
      ∙ judge_goal d (rows c.args.plan.now.counts.agents c.args.n c.args.sheet.now) g.holds
      (sym (ap (λ (k : ℕ). record { states = states_of c.args.plan.now.counts.fluents k c.run_steps-judged.new.history; verdict = verdict_of c.run_steps-judged.result.verdict }) all_steps) ∙ g.steps) accepted
      (sym (rows_length c.args.plan.now.counts.agents c.args.n c.args.sheet.now))
      (sym (c.check_laws-2.ensures d _ domain.goal l refl p.lawful p.ordered.goal (g.seen refl)) ∙ ap pass_of c.in-Err-check_laws.is);
}

pub returns : goal.returns
returns c = record {
  few = omega (arith, c.run_steps-judged.ensures.through.most, c.requires.steps);
  judged = λ d l p.
      let g = gone_by (goal.at.returns c).After-run_steps-judged d l p in
      let accepted = ap verdict_of c.in-Accepted.is in
      let all_steps : c.run_steps-judged.result.states ≡ c.args.n + 1 = c.run_steps-judged.ensures.through.all accepted in
      judge_accepted d (rows c.args.plan.now.counts.agents c.args.n c.args.sheet.now) g.holds g.steps accepted
      (sym (rows_length c.args.plan.now.counts.agents c.args.n c.args.sheet.now))
      (sym (c.check_laws-2.ensures d _ domain.goal l refl p.lawful p.ordered.goal (g.seen (sym (ap (λ (k : ℕ). states_of c.args.plan.now.counts.fluents k c.run_steps-judged.new.history) all_steps)))) ∙ ap pass_of c.in_default-check_laws.is);
}
