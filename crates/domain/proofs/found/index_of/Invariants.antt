use Rattle.std.proofs.Common.{◌-◌, length}
use Rattle.domain.proofs.Held.{Held}
use Rattle.domain.proofs.found.index_of.Given as goal

abbrev pub invariant-loop-size : goal.invariant-loop-size
invariant-loop-size l = Held l.store l.progress l.at

abbrev pub decreases-loop-size : goal.decreases-loop-size
decreases-loop-size l = length l.store - l.at
