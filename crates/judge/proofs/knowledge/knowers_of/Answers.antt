use mathlib.Core.Path.{refl, ◌∙◌}
use lib.ListN.{length, get_or}
use lib.Dec.{eqb}
use Rattle.index.specs.Index.{no_knowledge}
use Rattle.judge.proofs.MaskLaws.{union_none, union_more}
use Rattle.judge.proofs.knowledge.knowers_of.Goals as goal

pub loop-i-init : goal.loop-i-init
loop-i-init c = union_none _ _ _

pub loop-i-preserved : goal.loop-i-preserved
loop-i-preserved c = c.taken_in-agents.ensures ∙ union_more (λ k. eqb (get_or c.args.knowledge.now k no_knowledge).fluent c.args.f) (λ k. (get_or c.args.knowledge.now k no_knowledge).knowers) (length c.args.knowledge.now) c.loop-i.i c.loop-i-test.true c.loop-i.auto.i c.loop-i.invariant refl
