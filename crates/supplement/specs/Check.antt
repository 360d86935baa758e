-- What the check of one frame asks of the domain, and of the replacements before it.
use Rattle.std.specs.Prelude.{ℕ, ◌+◌, ◌-◌, ◌<◌, ◌≡◌, Bool, List, map, eqb, get_or, set, take, drop, Result, Ok, Err}
use Rattle.std.proofs.Math.Option.{Option, none, some}
use Rattle.bmap.specs.Plain.{both, either, implies, numbers}
use Rattle.bmap.specs.Limits.{most_laws}
use Rattle.bmap.specs.Refusal.{Answer, got, refused, then, number_of}
use Rattle.bmap.specs.Line.{Frame, executable_kind, effect_kind}
use Rattle.bmap.specs.Domain.{Domain}
use Rattle.bmap.specs.Payload.{byte, law_in}
use Rattle.bmap.specs.Accept.{counts_of}
use Rattle.bmap.specs.Supplement.{Replacement, replaces, Where, in_domain, in_supplement, Part, replacement_part, law_numbered}
use Rattle.bmap.specs.declared.limits.Counts.{Counts}
use Rattle.bmap.specs.declared.refusal.Refusal.{Refusal}
use Rattle.index.specs.Index.{frame_bytes}

-- the frames at these places of a store are the laws of the domain
pub record LawsStand (d : Domain) (store : List ℕ) (n : Counts) (laws : List ℕ) : Type 0 where
  pub counts : counts_of d ≡ n
  pub law : (i : ℕ) → i < n.laws → law_in n (byte (frame_bytes store (get_or laws i 0)) 0) (drop 2 (frame_bytes store (get_or laws i 0))) ≡ law_numbered d i

-- `stands_for`, asked of the frame of a domain's law and of a replacement's payload
abbrev pub has_entry : ℕ → Bool
has_entry kind = either (eqb kind executable_kind) (eqb kind effect_kind)

abbrev pub stands_in : List ℕ → List ℕ → Bool
stands_in frame p = both (eqb (byte p 1) (byte frame 0)) (implies (has_entry (byte frame 0)) (eqb (byte p 2) (byte frame 2)))

-- the place of the count of the frame that replaces a law, three bytes before the law's payload; 0 where none does: before a count stands a kind
abbrev pub place_in : Where → ℕ
place_in (in_domain at) = at
place_in (in_supplement at) = at

abbrev pub count_place : Option Part → ℕ
count_place none = 0
count_place (some p) = place_in p.stands - 3

-- of each law number
unfoldable pub over_of : List Replacement → List ℕ
over_of s = map (λ n. count_place (replacement_part 0 s n)) (numbers 0 most_laws)

-- ---- a frame more

-- a check's answer: the number of the law that the frame replaces
abbrev pub number_taken : Answer Replacement → Answer ℕ
number_taken a = then a (λ r. got (replaces r))

-- the frame of so many bytes at a place
abbrev pub frame_there : List ℕ → ℕ → ℕ → Frame
frame_there s at size = record { kind = get_or s at 0; payload = take (at + size - (at + 2)) (drop (at + 2) s) }

-- the places after a frame, where it is taken
abbrev pub noted : Result (Unit {0}) Refusal → List ℕ → Answer (List ℕ)
noted (Ok done) over = got over
noted (Err why) over = refused (number_of why)

-- that of a frame at a place: its count stands after its kind
abbrev pub noted_at : List ℕ → ℕ → Answer Replacement → Answer (List ℕ)
noted_at over at a = then a (λ r. got (set over (replaces r) (at + 1)))
