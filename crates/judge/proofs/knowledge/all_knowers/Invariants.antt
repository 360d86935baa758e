use Prim.Native.Nat.{ℕ, ◌<◌}
use mathlib.Core.Path.{◌≡◌}
use lib.ListN.{length, get_or}
use Rattle.bmap.specs.Limits.{most_fluents}
use Rattle.judge.specs.Told.{knowers_of}
use Rattle.judge.proofs.knowledge.all_knowers.Given as goal

abbrev pub invariant-loop-f : goal.invariant-loop-f
invariant-loop-f l = (length l.table ≡ most_fluents) × ((k : ℕ) → k < l.f → get_or l.table k 0 ≡ knowers_of l.knowledge k)
