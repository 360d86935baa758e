use Prim.Native.Nat.{ℕ, ◌<◌}
use mathlib.Core.Path.{◌≡◌}
use Rattle.std.specs.Prelude.{None}
use lib.ListN.{length, get_or}
use Rattle.bmap.specs.Limits.{most_laws}
use Rattle.bmap.specs.Domain.{Domain}
use Rattle.index.specs.Index.{law_number}
use Rattle.judge.specs.Told.{Lawful, Knowing, owner_of}
use Rattle.judge.proofs.knowledge.all_owners.Given as goal

abbrev pub invariant-loop-i : goal.invariant-loop-i
invariant-loop-i l = (length l.owners ≡ most_laws) × ((d : Domain) → Lawful d l.held l.n → Knowing d l.table l.entries l.agents → (k : ℕ) → k < l.i → get_or l.owners k None ≡ owner_of d (law_number d k))
