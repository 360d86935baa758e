use Prim.Native.Nat.{◌*◌, ◌≤◌}
use Rattle.bmap.specs.Limits.{most_fluents}
use Rattle.judge.proofs.StateLaws.{Closed}
use Rattle.judge.proofs.states.copy_states.Given as goal

abbrev pub invariant-loop-k : goal.invariant-loop-k
invariant-loop-k l = (l.at ≤ most_fluents * l.k) × Closed l.w l.k l.initial.history l.history l.at
