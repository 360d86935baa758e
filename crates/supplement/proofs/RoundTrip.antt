-- There and back: the store that the reader leaves is the supplement that it read, and the lines of its frames are the text. Assumes nothing.
use Prim.Native.Nat.{ℕ, suc, ◌≤◌}
use native.Mathlib.Omega.{arith}
use mathlib.Core.Path.{◌≡◌, refl, sym, ap, ◌∙◌}
use mathlib.Core.List.{List, [], ◌∷◌, ◌++◌}
use lib.Dec.{eqb}
use lib.ListN.{length}
use borrow.Author.Tests.{eqb-true}
use Rattle.bmap.specs.Limits.{supplement_size}
use Rattle.bmap.specs.Refusal.{Answer, got, known, then, Reading, read, refused_at, afterwards}
use Rattle.bmap.specs.Line.{Frame}
use Rattle.bmap.specs.Domain.{Domain}
use Rattle.bmap.specs.Buffer.{padded, Filled, fill}
use Rattle.bmap.specs.Store.{frames_of, what_was_read, domain_in, text_of}
use Rattle.bmap.specs.Supplement.{Replacement, replacement_in, supplement_from, read_supplement, supplement_in}
use Rattle.line.proofs.Answers.{need_got, then_got_inv, at_line_read}
use Rattle.domain.specs.Read.{bytes_in}
use Rattle.domain.proofs.IntoStore.{fill_left}
use Rattle.domain.proofs.RoundTrip.{First, TextFrames, text_frames, text_again, frames_again}
use Rattle.domain.specs.Found.{found_in}
use Rattle.supplement.specs.Under.{index_found, under_of, under_in}
use Rattle.supplement.specs.Read.{under_after, under_reading}
use Rattle.supplement.proofs.ReaderLaws.{read_in_room}

-- the kind of every frame of a supplement is AF
replaces_kind : (d : Domain) (earlier : List Replacement) (f : Frame) (r : Replacement) → replacement_in d earlier f ≡ got r → f.kind ≡ 0xAF
unfolding replacement_in
replaces_kind d earlier f r e = eqb-true f.kind 0xAF (need_got (eqb f.kind 0xAF) 3 _ r e).0

-- a line that is read is such a frame's
read_first : (d : Domain) (s earlier : List Replacement) (a : Answer Frame) (l : List (Answer Frame)) → supplement_from d earlier (a ∷ l) ≡ read s
    → First (λ (before : List Replacement) rest. supplement_from d before rest ≡ read s) a l
unfolding supplement_from
read_first d s earlier a l e =
    let (r, y, t) = at_line_read (suc (length earlier)) (then a (replacement_in d earlier)) (λ r. supplement_from d (earlier ++ (r ∷ [])) l) s e in
    let (f, is, g) = then_got_inv a (replacement_in d earlier) r y in
    let k = replaces_kind d earlier f r g in
    record { frame = f; is = is; some_kind = λ z. omega arith; next = earlier ++ (r ∷ []); goes_on = t }

module _ (store text buffer : List ℕ) (d : Domain) (s : List Replacement) (g : domain_in store ≡ got d) (e : supplement_from d [] (frames_of text) ≡ read s)
    (h : supplement_size ≤ length buffer) where
  frames : TextFrames text
  frames = text_frames (λ (before : List Replacement) rest. supplement_from d before rest ≡ read s) (read_first d s) [] text e

  left : (read_supplement store text buffer).buffer ≡ padded (length buffer) (bytes_in text)
  left = fill_left (bytes_in text) (length buffer) (read_supplement store text buffer) (supplement_from d [] (frames_of text)) (read_in_room store text buffer h d g) s e

  pub left_supplement : supplement_in d (read_supplement store text buffer).buffer ≡ got s
  unfolding supplement_in
  left_supplement =
      rw (left, frames_again text frames (length buffer))
      (ap (λ (r : Reading (List Replacement)). known 15 (what_was_read r)) (ap (supplement_from d []) (sym frames.are) ∙ e))

  pub left_lines : text_of (read_supplement store text buffer).buffer ≡ text
  left_lines = ap text_of left ∙ text_again text frames (length buffer)

-- what was found on the way is what is found in the two stores
module _ (store text buffer : List ℕ) (d : Domain) (g : domain_in store ≡ got d) (h : supplement_size ≤ length buffer) where
  abbrev left_buffer : List ℕ
  left_buffer = (read_supplement store text buffer).buffer

  answers : {r : Reading (List Replacement)} → supplement_from d [] (frames_of text) ≡ r
      → (read_supplement store text buffer).answer ≡ (fill (length buffer) (afterwards r (λ s. read (record { count = length (bytes_in text); bytes = bytes_in text })))).answer
  answers e =
      ap (λ (f : Filled). f.answer) (read_in_room store text buffer h d g)
      ∙ ap (λ (q : Reading (List Replacement)). (fill (length buffer) (afterwards q (λ s. read (record { count = length (bytes_in text); bytes = bytes_in text })))).answer) e

  pub under_after_lem : under_reading (index_found (found_in store)) (supplement_from d [] (frames_of text)) ≡ under_after (read_supplement store text buffer).answer store left_buffer
  unfolding under_in
  under_after_lem = go (supplement_from d [] (frames_of text)) refl
    where
      go : (r : Reading (List Replacement)) → supplement_from d [] (frames_of text) ≡ r → under_reading (index_found (found_in store)) r ≡ under_after (read_supplement store text buffer).answer store left_buffer
      go (read s) e =
          sym (ap (λ (a : Reading ℕ). under_after a store left_buffer) (answers e)
          ∙ ap (λ (a : Answer Domain). under_of (index_found (found_in store)) (then a (λ d. supplement_in d left_buffer))) g
          ∙ ap (under_of (index_found (found_in store))) (left_supplement store text buffer d s g e h))
      go (refused_at m line) e = sym (ap (λ (a : Reading ℕ). under_after a store left_buffer) (answers e))
