use mathlib.Core.Path.{◌≡◌}
use lib.ListN.{length}
use Rattle.bmap.specs.Limits.{most_entries}
use Rattle.judge.proofs.OwnLaws.{OwnsSoFar}
use Rattle.judge.proofs.reading.all_own.Given as goal

abbrev pub invariant-loop-l : goal.invariant-loop-l
invariant-loop-l l = (length l.own ≡ most_entries) × OwnsSoFar l.owners (length l.owners) l.l l.own
