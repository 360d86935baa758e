use Rattle.domain.proofs.WriterLaws.{Writes}
use lib.ListN.{length}
use Prim.Native.Nat.{◌-◌}
use Rattle.domain.proofs.writer.write_lines.Given as goal

abbrev pub invariant-loop-size : goal.invariant-loop-size
invariant-loop-size l = Writes l.store l.initial.text l.text l.at l.used

abbrev pub decreases-loop-size : goal.decreases-loop-size
decreases-loop-size l = length l.store - l.at
