use mathlib.Core.Path.{◌≡◌}
use mathlib.Core.Bool.{true}
use Prim.Native.Nat.{◌-◌}
use lib.ListN.{length}
use Rattle.index.specs.Index.{domain_of}
use Rattle.supplement.proofs.UnderLaws.{Passing}
use Rattle.supplement.proofs.under.places_of.Given as goal

abbrev pub invariant-loop-size : goal.invariant-loop-size
invariant-loop-size l = record {
  ok : l.under.ok ≡ true;
  index : l.under.index ≡ l.index;
  passing : Passing (domain_of l.store l.index) l.supplement l.under.over l.at;
}

abbrev pub decreases-loop-size : goal.decreases-loop-size
decreases-loop-size l = length l.supplement - l.at
