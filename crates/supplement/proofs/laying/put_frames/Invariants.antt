use Rattle.supplement.proofs.PuttingLaws.{Putting}
use Rattle.supplement.proofs.laying.put_frames.Given as goal

abbrev pub invariant-loop-n : goal.invariant-loop-n
invariant-loop-n l = Putting l.lower l.low l.upper l.high l.initial.res l.res l.used l.n
