use Prim.Native.Nat.{◌-◌}
use mathlib.Core.Path.{◌≡◌}
use lib.ListN.{length}
use Rattle.judge.specs.Masks.{mask_from}
use Rattle.judge.proofs.KnowledgeLaws.{shared}
use Rattle.judge.proofs.knowledge.known_to.Given as goal

abbrev pub invariant-loop-f : goal.invariant-loop-f
invariant-loop-f l = l.mask ≡ mask_from (shared l.crew l.table) l.f (length l.table - l.f)
