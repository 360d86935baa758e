use Prim.Native.Nat.{ℕ}
use mathlib.Core.Path.{sym, ap, ◌∙◌}
use Rattle.bmap.specs.Domain.{has}
use Rattle.bmap.specs.Judge.{each_from, placed}
use Rattle.judge.proofs.LoopLaws.{ends, stops, on, each_on, each_stop, each_none}
use Rattle.judge.proofs.CheckLaws.{placed_idle, placed_if}
use Rattle.judge.proofs.checks.check_agents.Goals as goal
use Rattle.judge.proofs.checks.check_agents.Goals.{else-names-a-ne0-via-then-names-a-ne0+else-not-has, else-names-a-ne0-via-else-names-a-ne0}

pub returns-then-not-has : goal.returns-then-not-has
returns-then-not-has c = λ d b. let f = placed d c.args.names.now in sym (c.loop-a.invariant d b ∙ stops (λ i l. each_from i f l) c.args.names.now 0 c.loop-a.a c.loop-a-test.true
    (each_stop f c.loop-a.a _ _ (placed_if d c.args.names.now c.args.agents c.loop-a.a b c.loop-a-test.true c.if-names-a-ne0.true (c.has.ensures ∙ ap (λ (m : ℕ). has m c.loop-a.a) c.from.ensures) (c.if-not-has.true))))

pub loop-a-preserved : goal.loop-a-preserved
loop-a-preserved c = λ d b. let f = placed d c.args.names.now in
    c.loop-a.invariant d b ∙ on (λ i l. each_from i f l) c.args.names.now 0 c.loop-a.a c.loop-a-test.true (each_on f c.loop-a.a _ _ (elim c.else-names-a-ne0.branch [
      | else-names-a-ne0-via-then-names-a-ne0+else-not-has w ↦ placed_if d c.args.names.now c.args.agents c.loop-a.a b c.loop-a-test.true w.if-names-a-ne0.true (w.has.ensures ∙ ap (λ (m : ℕ). has m c.loop-a.a) w.from.ensures) w.if-not-has.false
      | else-names-a-ne0-via-else-names-a-ne0 w ↦ placed_idle d c.args.names.now c.args.agents c.loop-a.a w.if-names-a-ne0.false
    ]))

pub returns : goal.returns
returns c = λ d b. let f = placed d c.args.names.now in sym (c.loop-a.invariant d b ∙ (ends (λ i l. each_from i f l) c.args.names.now 0 c.loop-a.a c.loop-a-test.false ∙ each_none f c.loop-a.a))
