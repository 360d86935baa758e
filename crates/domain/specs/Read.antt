-- What the domain reader answers.
use Rattle.std.specs.Prelude.{ℕ, ◌≡◌, Option as Maybe, None, Some, Result, Ok, Err, List, [], ◌∷◌, map, length, take}
use Rattle.bmap.specs.Plain.{flat}
use Rattle.bmap.specs.Refusal.{Answer, got, refused, Reading, read, refused_at, afterwards}
use Rattle.bmap.specs.Line.{Frame}
use Rattle.bmap.specs.Domain.{Domain}
use Rattle.bmap.specs.Store.{frames_of, stored_of, reading, read_domain}
use Rattle.bmap.specs.declared.refusal.Refusal.{Refusal}
use Rattle.bmap.specs.declared.refusal.ReadError.{ReadError}
use Rattle.index.specs.declared.Index.{Index}
pub use Rattle.line.specs.Read.{reading_of}
use Rattle.domain.specs.Found.{law_places, index_with, found_in}
use Rattle.domain.specs.declared.reader.ReadFound.{ReadFound}

-- a reading without the index, and the index alone
abbrev pub used_of : Result ReadFound ReadError → Result ℕ ReadError
used_of (Ok r) = Ok r.used
used_of (Err e) = Err e

-- so many bytes are kept
abbrev pub kept_of : Result ReadFound ReadError → ℕ
kept_of (Ok r) = r.used
kept_of (Err e) = 0

abbrev pub index_in : Result ReadFound ReadError → Maybe Index
index_in (Ok r) = Some r.index
index_in (Err e) = None

-- what a reader has found: of a text that is read, what is found in the store that it leaves; of a refused one nothing
abbrev pub found_after : Reading ℕ → List ℕ → Maybe Index
found_after (read used) store = found_in store
found_after (refused_at m line) store = None

-- the reader's answer, the store that it leaves, and what it has found
pub record FoundRead (text store : List ℕ) (r : Result ReadFound ReadError) (after : List ℕ) : Type 0 where
  pub answer : reading_of (used_of r) ≡ (read_domain text store).answer
  pub buffer : after ≡ (read_domain text store).buffer
  pub found : index_in r ≡ found_after (read_domain text store).answer (read_domain text store).buffer

-- ---- within the reader

-- what is refused of a line
abbrev pub on_line : {A : Type 0} → Result A Refusal → ℕ → Result A ReadError
on_line (Ok a) line = Ok a
on_line (Err refusal) line = Err (record { refusal = refusal; line = line })

-- the frames of a text, end to end
unfoldable pub bytes_in : List ℕ → List ℕ
bytes_in text = flat (map stored_of (frames_of text))

-- how many bytes they are, where the text is read
unfoldable pub used_in : List ℕ → Reading ℕ
used_in text = afterwards (reading text) (λ d. read (length (bytes_in text)))

-- where it is read, they stand at the front
abbrev pub Front : List ℕ → Reading ℕ → List ℕ → Type 0
Front bytes (read n) store = take n store ≡ bytes
Front bytes (refused_at m line) store = Unit {0}

-- the frames that are any
abbrev pub frames_among : List (Answer Frame) → List Frame
frames_among [] = []
frames_among (got f ∷ l) = f ∷ frames_among l
frames_among (refused m ∷ l) = frames_among l

-- the places of the laws' frames, where the first frame of a text stands at a place
abbrev pub places_from : ℕ → List ℕ → List ℕ
places_from at text = law_places at (frames_among (frames_of text))

-- what is found on the way: the index of the domain that is read, with the places of its laws
abbrev pub found_reading : List ℕ → Reading Domain → Maybe Index
found_reading places (read d) = Some (index_with d places)
found_reading places (refused_at m line) = None

-- what the lines of a text come to
pub record LinesRead (text : List ℕ) (r : Result ReadFound ReadError) (after : List ℕ) : Type 0 where
  pub used : reading_of (used_of r) ≡ used_in text
  pub front : Front (bytes_in text) (reading_of (used_of r)) after
  pub found : index_in r ≡ found_reading (places_from 0 text) (reading text)
