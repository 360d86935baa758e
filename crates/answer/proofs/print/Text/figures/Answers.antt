use Rattle.std.proofs.Common.{arith, subst}
use Rattle.bmap.specs.Plain.{flat, numbers}
use Rattle.bmap.specs.Sheet.{rows}
use Rattle.answer.specs.States.{rows_of}
use Rattle.answer.specs.Put.{Put}
use Rattle.answer.proofs.PutLaws.{put_nothing, put_then}
use Rattle.answer.proofs.FiguresLaws.{lines_none, lines_more}
use Rattle.answer.proofs.print.Text.figures.Goals as goal

pub returns-then-states-eq0 : goal.returns-then-states-eq0
unfolding rows
returns-then-states-eq0 c = rw c.if-states-eq0.true (subst (λ l. Put c.args.self.now l c.args.self.now) (lines_none c.args.states.now.fluents) (put_nothing _ (omega arith)))

pub loop-fluent-init : goal.loop-fluent-init
unfolding flat numbers
loop-fluent-init c = (omega arith, put_nothing _ (omega arith))

pub loop-fluent-preserved : goal.loop-fluent-preserved
loop-fluent-preserved c = (
  omega arith,
  subst (λ l. Put c.args.self.now l c.fluent.new.self) (lines_more _ (rows_of c.args.states.now)) (put_then c.loop-fluent.invariant.1 (c.fluent.ensures.put _ c.figures_of.ensures)),
)
