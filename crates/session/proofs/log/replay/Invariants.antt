use Rattle.session.specs.Log.{Reached}
use Rattle.session.proofs.log.replay.Given as goal

abbrev pub invariant-loop-k : goal.invariant-loop-k
invariant-loop-k l = Reached l.s.agents l.k l.s.log l.sheet
