use Prim.Native.Nat.{◌-◌}
use mathlib.Core.Path.{◌≡◌}
use lib.ListN.{length}
use Rattle.judge.specs.Masks.{joins_at, crew_at, mask_from, union_from}
use Rattle.judge.proofs.acting.who_acts.Given as goal

abbrev pub invariant-loop-i : goal.invariant-loop-i
invariant-loop-i l = (l.occurring ≡ mask_from (joins_at l.names l.entries) l.i (length l.entries - l.i)) × (l.agents ≡ union_from (joins_at l.names l.entries) (crew_at l.entries) l.i (length l.entries - l.i))
