use borrow.Author.Rules.{rules}
use mathlib.Core.Path.{sym}
use lib.ListN.{length}
use Rattle.bmap.specs.Domain.{Domain}
use Rattle.judge.specs.Prepared.{Governs, judged_of}
use Rattle.law.specs.Evaluate.{history_size}
use Rattle.judge.proofs.StateLaws.{states_length, past_states}
use Rattle.judge.proofs.JudgeLaws.{blank_zeros}
use Rattle.judge.proofs.CallLaws.{whole, by_uneven, by_long, by_steps}
use Rattle.judge.proofs.judgement.judge_by.Goals as goal

pub returns-then-sheet-agents-ne0-clause-levels_after : goal.returns-then-sheet-agents-ne0-clause-levels_after
returns-then-sheet-agents-ne0-clause-levels_after c = λ d f. (by_uneven d c.args.under.index.counts.agents c.args.sheet.now c.args.levels.now c.if-sheet-agents-ne0.true).0

pub returns-then-sheet-agents-ne0-clause-states : goal.returns-then-sheet-agents-ne0-clause-states
returns-then-sheet-agents-ne0-clause-states c = λ d f. (by_uneven d c.args.under.index.counts.agents c.args.sheet.now c.args.levels.now c.if-sheet-agents-ne0.true).1

pub returns-then-n-gt-STEPS-clause-levels_after : goal.returns-then-n-gt-STEPS-clause-levels_after
returns-then-n-gt-STEPS-clause-levels_after c = λ d f. (by_long d c.args.under.index.counts.agents c.args.sheet.now c.args.levels.now c.if-sheet-agents-ne0.false c.if-n-gt-STEPS.true).0

pub returns-then-n-gt-STEPS-clause-states : goal.returns-then-n-gt-STEPS-clause-states
returns-then-n-gt-STEPS-clause-states c = λ d f. (by_long d c.args.under.index.counts.agents c.args.sheet.now c.args.levels.now c.if-sheet-agents-ne0.false c.if-n-gt-STEPS.true).1

pub judge_steps-judged-requires : goal.judge_steps-judged-requires
judge_steps-judged-requires c = record {
  limits = c.requires.limits;
  steps = c.if-n-gt-STEPS.false;
  whole = whole (length c.args.sheet.now) c.args.under.index.counts.agents c.if-sheet-agents-ne0.false;
  blank = λ i h. blank_zeros history_size i;
}

pub returns : goal.returns
returns c =
    let judged = λ (d : Domain) (f : Governs c.args.store.now c.args.supplement.now c.args.under d).
    by_steps d c.args.under.index.counts.agents c.args.sheet.now c.args.levels.now (judged_of c.args.under.index.counts.fluents c.judge_steps-judged.result c.judge_steps-judged.new.history) c.copy_states.new.levels c.judge_steps-judged.result.states (sym (states_length _ _ _))
    c.if-sheet-agents-ne0.false c.if-n-gt-STEPS.false (c.judge_steps-judged.ensures.judged d f) c.copy_states.ensures in
    record {
      levels_after = λ d f. (judged d f).0;
      states = λ d f. (judged d f).1;
      bounded = record {
        few = c.judge_steps-judged.ensures.few;
        past = past_states _ _ c.judge_steps-judged.new.history _ _ c.judge_steps-judged.ensures.few c.requires.limits.fluents (search rules) c.copy_states.ensures;
      };
    }
