-- No number of an accepted supplement lies beyond the laws that a domain may have. Assumes nothing.
use Prim.Native.Nat.{ℕ, ◌≤◌}
use native.Mathlib.Omega.{arith}
use mathlib.Core.Path.{◌≡◌, refl}
use mathlib.Core.List.{List}
use mathlib.Core.Option.{Option, none, some}
use lib.ListN.{length}
use Rattle.bmap.specs.Limits.{most_laws}
use Rattle.bmap.specs.Refusal.{got}
use Rattle.bmap.specs.Domain.{Domain}
use Rattle.bmap.specs.Store.{domain_in}
use Rattle.bmap.specs.Supplement.{Replacement, replacement_of, supplement_in}
use Rattle.domain.proofs.Accepted.{domained}
use Rattle.theorems.proofs.LayingLaws.{Within}
use Rattle.supplement.proofs.Passes.{found_fits}
use Rattle.supplement.proofs.Accepted.{supplemented}

pub few_laws : (store : List ℕ) (d : Domain) → domain_in store ≡ got d → length d.laws ≤ most_laws
few_laws store d g = (domained store d g).all.stands.few.laws

pub accepted_within : (store supplement : List ℕ) (d : Domain) (s : List Replacement) → domain_in store ≡ got d → supplement_in d supplement ≡ got s → Within s
accepted_within store supplement d s g e n h = go (replacement_of s n) refl
  where
    go : (o : Option Replacement) → replacement_of s n ≡ o → o ≡ none
    go none q = refl
    go (some r) q =
        let f = found_fits d s n r (supplemented d supplement s e).all.fit q in
        absurd (omega (arith, f.has, f.fits.number, few_laws store d g, h))
