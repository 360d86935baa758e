use Prim.Native.Nat.{◌-◌}
use mathlib.Core.Path.{◌≡◌}
use lib.ListN.{length, get_or}
use lib.Dec.{eqb}
use Rattle.index.specs.Index.{no_knowledge}
use Rattle.judge.specs.Masks.{union_from}
use Rattle.judge.proofs.knowledge.knowers_of.Given as goal

abbrev pub invariant-loop-i : goal.invariant-loop-i
invariant-loop-i l = l.agents ≡ union_from (λ k. eqb (get_or l.knowledge k no_knowledge).fluent l.f) (λ k. (get_or l.knowledge k no_knowledge).knowers) l.i (length l.knowledge - l.i)
