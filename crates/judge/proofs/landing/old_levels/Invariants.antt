use Prim.Native.Nat.{ℕ, ◌<◌}
use mathlib.Core.Path.{◌≡◌}
use lib.IntN.{pos}
use lib.ListN.{length, get_or}
use Rattle.bmap.specs.Limits.{most_fluents}
use Rattle.law.specs.Evaluate.{cell_at}
use Rattle.judge.proofs.landing.old_levels.Given as goal

abbrev pub invariant-loop-f : goal.invariant-loop-f
invariant-loop-f l = (length l.new ≡ most_fluents) × ((k : ℕ) → k < l.f → get_or l.new k (pos 0) ≡ cell_at l.history l.j k)
