use Rattle.std.proofs.Common.{arith}
use Rattle.bmap.specs.Sheet.{rows}
use Rattle.bmap.specs.Program.{state_lines}
use Rattle.answer.proofs.PutLaws.{put_nothing, states_more}
use Rattle.answer.proofs.print.Text.states.Goals as goal

pub loop-k-init : goal.loop-k-init
unfolding rows state_lines
loop-k-init c = (omega arith, put_nothing _ (omega arith))

pub loop-k-preserved : goal.loop-k-preserved
loop-k-preserved c = (omega arith, states_more _ _ _ c.loop-k.invariant.1 c.state.ensures.put)
