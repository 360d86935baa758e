-- What is judged: the domain of a store, the laws that a supplement gives it, and what was found of the two.
use Rattle.std.specs.Prelude.{ℕ, ◌≡◌, List}
use Rattle.bmap.specs.Refusal.{got}
use Rattle.bmap.specs.Domain.{Domain}
use Rattle.bmap.specs.Store.{domain_in}
use Rattle.bmap.specs.Supplement.{Replacement, supplement_in}
use Rattle.supplement.specs.Under.{under_in}
use Rattle.supplement.specs.declared.under.Under.{Under}

pub record Speaks (store supplement : List ℕ) (u : Under) (d : Domain) (s : List Replacement) : Type 0 where
  pub domain : domain_in store ≡ got d
  pub accepted : supplement_in d supplement ≡ got s
  pub found : u ≡ under_in store supplement
