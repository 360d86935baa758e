-- The law in force: which bytes of which store.
use Rattle.std.specs.Prelude.{ℕ, ◌+◌, ◌-◌, ◌≡◌, List, [], eqb, length, get_or, Result, Ok, Err}
use Rattle.std.specs.Borrow.{Bor}
use Rattle.bmap.specs.Plain.{if_else}
use Rattle.bmap.specs.Refusal.{Answer, got, refused, then, number_of}
use Rattle.bmap.specs.declared.refusal.Refusal.{Refusal}
use Rattle.bmap.specs.Supplement.{Where, in_domain, in_supplement, Part, bytes_there}
use Rattle.index.specs.Place.{StandsAt}
use Rattle.supplement.specs.declared.force.LawPlace.{LawPlace}
use Rattle.supplement.specs.declared.force.LawPlace.TheVariants.{InDomain, InSupplement}

-- ---- a part of one of two stores

-- in which of them, from which place on, and how many bytes
pub record Stretch : Type 0 where
  pub stands : Where
  pub size : ℕ

abbrev pub stretch : LawPlace → Stretch
stretch (InDomain at size) = record { stands = in_domain at; size = size }
stretch (InSupplement at size) = record { stands = in_supplement at; size = size }

-- what an answer says
abbrev pub placed : Result LawPlace Refusal → Answer Stretch
placed (Ok place) = got (stretch place)
placed (Err why) = refused (number_of why)

-- that of a part
abbrev pub stretch_of : Answer Part → Answer Stretch
stretch_of a = then a (λ p. got (record { stands = p.stands; size = length p.bytes }))

-- r is these bytes of the store where they stand
abbrev pub StandsIn : Where → Bor (List ℕ) → Bor (List ℕ) → List ℕ → Bor (List ℕ) → Type 0
StandsIn (in_domain at) store supplement bytes r = StandsAt store at bytes r
StandsIn (in_supplement at) store supplement bytes r = StandsAt supplement at bytes r

abbrev pub bytes_in : Stretch → List ℕ → List ℕ → List ℕ
bytes_in x store supplement = bytes_there x.stands x.size store supplement

-- "handed out as the bytes where they already stand": contents and place; "a refusal gives no bytes"
abbrev pub InForce : Answer Part → Bor (List ℕ) → Bor (List ℕ) → Bor (List ℕ) → Type 0
InForce (got p) store supplement r = StandsIn p.stands store supplement p.bytes r
InForce (refused n) store supplement r = r.now ≡ []

-- ---- a law's payload, by the place of its frame and by that of the count of the frame that replaces it, 0 for none

abbrev pub stretch_at : List ℕ → ℕ → List ℕ → ℕ → Stretch
stretch_at store frame supplement over =
    if_else (eqb over 0) (record { stands = in_domain (frame + 2); size = get_or store (frame + 1) 0 })
    (record { stands = in_supplement (over + 3); size = get_or supplement over 0 - 2 })

-- of law i
abbrev pub law_stretch : List ℕ → List ℕ → List ℕ → List ℕ → ℕ → Stretch
law_stretch store laws supplement over i = stretch_at store (get_or laws i 0) supplement (get_or over i 0)

abbrev pub payload_of : List ℕ → List ℕ → List ℕ → List ℕ → ℕ → List ℕ
payload_of store laws supplement over i = bytes_in (law_stretch store laws supplement over i) store supplement
