-- What the supplement reader answers, and what it has found.
use Rattle.std.specs.Prelude.{ℕ, ◌≡◌, Result, Ok, Err, List, [], length}
use Rattle.bmap.specs.Refusal.{got, refused, Reading, read, refused_at, afterwards}
use Rattle.bmap.specs.Domain.{Domain}
use Rattle.bmap.specs.Store.{frames_of}
use Rattle.bmap.specs.Supplement.{Replacement, supplement_from, read_supplement}
use Rattle.bmap.specs.declared.refusal.Refusal.{Refusal}
use Rattle.bmap.specs.declared.refusal.ReadError.{ReadError}
use Rattle.index.specs.declared.Index.{Index}
use Rattle.domain.specs.Found.{found_in}
use Rattle.domain.specs.Read.{reading_of, bytes_in, Front}
use Rattle.supplement.specs.Under.{index_found, under_of, under_in}
use Rattle.supplement.specs.declared.reader.ReadUnder.{ReadUnder}
use Rattle.supplement.specs.declared.under.Under.{Under}

-- what a reader has found: of a text that is read, what is found in the two stores; of a refused one the domain's index
abbrev pub under_after : Reading ℕ → List ℕ → List ℕ → Under
under_after (read used) store supplement = under_in store supplement
under_after (refused_at m line) store supplement = under_of (index_found (found_in store)) (refused m)

-- the reader's answer, the buffer that it leaves, and what it has found
pub record UnderRead (store text lent : List ℕ) (r : ReadUnder) (after : List ℕ) : Type 0 where
  pub answer : reading_of r.answer ≡ (read_supplement store text lent).answer
  pub buffer : after ≡ (read_supplement store text lent).buffer
  pub under : r.under ≡ under_after (read_supplement store text lent).answer store (read_supplement store text lent).buffer

-- ---- within the reader

-- how many bytes of a store are used, where a text is a supplement of the domain
unfoldable pub used_under : Domain → List ℕ → Reading ℕ
used_under d text = afterwards (supplement_from d [] (frames_of text)) (λ s. read (length (bytes_in text)))

-- what is found on the way
abbrev pub under_reading : Index → Reading (List Replacement) → Under
under_reading x (read s) = under_of x (got s)
under_reading x (refused_at m line) = under_of x (refused m)

-- a refusal, by what was found of the domain
pub record RefusedAt (x : Index) (why : Refusal) (line : ℕ) (r : ReadUnder) : Type 0 where
  pub answer : r.answer ≡ Err (record { refusal = why; line = line })
  pub under : (n : ℕ) → r.under ≡ under_of x (refused n)

-- what the lines of a text come to, by what was found of the domain
pub record LinesUnder (d : Domain) (u : Under) (text : List ℕ) (r : Result ℕ ReadError) (u' : Under) (after : List ℕ) : Type 0 where
  pub used : reading_of r ≡ used_under d text
  pub front : Front (bytes_in text) (reading_of r) after
  pub index : u'.index ≡ u.index
  pub under : (used : ℕ) → r ≡ Ok used → u' ≡ under_reading u.index (supplement_from d [] (frames_of text))
