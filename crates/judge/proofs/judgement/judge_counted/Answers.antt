use mathlib.Core.Path.{◌∙◌}
use Rattle.supplement.proofs.Theorems.{empty_changes_nothing}
use Rattle.judge.proofs.CallLaws.{states_alike}
use Rattle.judge.proofs.judgement.judge_counted.Goals as goal

pub returns : goal.returns
returns c = let judged = c.judge_under_counted.ensures in record {
  levels_after = judged.levels_after ∙ empty_changes_nothing.judged c.args.store.now c.args.sheet.now c.args.levels.now 0;
  states = judged.states ∙ states_alike c.args.store.now c.args.sheet.now c.args.levels.now;
}
