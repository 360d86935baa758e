-- Document 02, K8: one supplement laid over another.
use Rattle.std.specs.Prelude.{ℕ, List, [], ◌∷◌, map, leb, length}
use Rattle.std.proofs.Math.Option.{Option, none, some}
use Rattle.bmap.specs.Plain.{maybe, flat, numbers}
use Rattle.bmap.specs.Limits.{most_laws, supplement_size}
use Rattle.bmap.specs.Refusal.{Answer, got, refused, need, then}
use Rattle.bmap.specs.Line.{stored}
use Rattle.bmap.specs.Buffer.{Written, padded}
use Rattle.bmap.specs.Store.{domain_in}
use Rattle.bmap.specs.Supplement.{Replacement, replacement_of, supplement_in}

-- ---- supplements

-- "ordered by law number": of each law number in turn what was found, where something was
abbrev pub listed : Option Replacement → List Replacement
listed none = []
listed (some r) = r ∷ []

unfoldable pub by_number : (ℕ → Option Replacement) → List Replacement
by_number found = flat (map (λ n. listed (found n)) (numbers 0 most_laws))

-- "once ordered": of an accepted one the same replacements
unfoldable pub ordered : List Replacement → List Replacement
ordered s = by_number (replacement_of s)

-- "Laying one over another keeps each law number of either, the upper one winning"
abbrev pub winning : List Replacement → List Replacement → ℕ → Option Replacement
winning lower upper n = maybe (replacement_of upper n) (replacement_of lower n) some

-- "the result is ordered by law number"
unfoldable pub laid : List Replacement → List Replacement → List Replacement
laid lower upper = by_number (winning lower upper)

-- ---- their stores

-- the frames end to end
abbrev pub bytes_of : List Replacement → List ℕ
bytes_of s = flat (map (λ (r : Replacement). stored r.frame) s)

-- "zeros after, its bytes used returned"; refusals "leave the result buffer untouched"
abbrev pub into_result : List ℕ → Answer (List Replacement) → Written
into_result result (refused n) = record { answer = refused n; buffer = result }
into_result result (got s) = record { answer = got (length (bytes_of s)); buffer = padded (length result) (bytes_of s) }

-- "Both are supplements to one domain"; "15 for the domain or for either supplement store"
abbrev pub both_laid : List ℕ → List ℕ → List ℕ → Answer (List Replacement)
both_laid store lower upper =
    then (domain_in store) (λ d.
    then (supplement_in d lower) (λ l.
    then (supplement_in d upper) (λ u. got (laid l u))))

-- "Refusals: 10 for a result buffer under 16,000 bytes, then 15"
unfoldable pub lay_supplements : List ℕ → List ℕ → List ℕ → List ℕ → Written
lay_supplements store lower upper result =
    into_result result (need (leb supplement_size (length result)) 10 (both_laid store lower upper))

-- what "only orders it" says of a store: its supplement, once ordered, in such a buffer
unfoldable pub order_supplement : List ℕ → List ℕ → List ℕ → Written
order_supplement store supplement result =
    into_result result
    (need (leb supplement_size (length result)) 10
    (then (domain_in store) (λ d. then (supplement_in d supplement) (λ s. got (ordered s)))))
