use Rattle.domain.proofs.WriterLaws.{Enough}
use Rattle.domain.specs.Write.{lines_from, lines_in}
use lib.ListN.{length}
use lib.Dec.{leb}
use mathlib.Core.Path.{◌≡◌}
use Prim.Native.Nat.{ℕ, ◌-◌}
use Rattle.domain.proofs.writer.lines_fit.Given as goal

abbrev pub invariant-loop-size : goal.invariant-loop-size
invariant-loop-size l = (looks : ℕ) × (Enough l.store l.at looks × (leb (length (lines_in l.store)) l.room ≡ leb (length (lines_from looks l.store l.at)) l.left))

abbrev pub decreases-loop-size : goal.decreases-loop-size
decreases-loop-size l = length l.store - l.at
