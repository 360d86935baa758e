-- What reading the line at the front of a text answers, and the bytes that it leaves.
use Rattle.std.specs.Prelude.{ℕ, zero, suc, ◌+◌, ◌*◌, ◌≡◌, Bool, true, false, Option as Maybe, None, Some, Result, Ok, Err, List, [], ◌∷◌, eqb, leb, length, replicate}
use Rattle.std.proofs.Math.Option.{Option, none, some}
use Rattle.bmap.specs.Plain.{both, if_else, maybe}
use Rattle.bmap.specs.Limits.{frame_size}
use Rattle.bmap.specs.Refusal.{Answer, got, refused, then, number_of, Reading, read, refused_at}
use Rattle.bmap.specs.Line.{Line, Frame, lines_of, digit, decode, stored}
use Rattle.bmap.specs.Buffer.{over}
use Rattle.bmap.specs.declared.refusal.Refusal.{Refusal}
use Rattle.bmap.specs.declared.refusal.ReadError.{ReadError}
use Rattle.line.specs.declared.read.FirstFrame.{FirstFrame}

-- what an answer says: no line, the refusal's number, or what was taken
abbrev pub said : Result (Maybe FirstFrame) Refusal → Option (Answer FirstFrame)
said (Ok None) = none
said (Ok (Some f)) = some (got f)
said (Err r) = some (refused (number_of r))

-- of a line that decodes: its frame's bytes, and its characters with the LF
abbrev pub taken : Line → Answer FirstFrame
taken l = then (decode l) (λ f. got (record { bytes = length (stored f); characters = suc (length l.digits) }))

abbrev pub first_of : List Line → Option (Answer FirstFrame)
first_of [] = none
first_of (l ∷ lines) = some (taken l)

-- 10 where a frame might have no room
unfoldable pub line_read : List ℕ → List ℕ → Option (Answer FirstFrame)
line_read text out = if_else (leb frame_size (length out)) (first_of (lines_of text)) (some (refused 10))

-- what a reader of lines answers: how much it read, or the refusal's number and its line
abbrev pub reading_of : Result ℕ ReadError → Reading ℕ
reading_of (Ok n) = read n
reading_of (Err e) = refused_at (number_of e.refusal) e.line

-- a frame's payload, if the frame is of this kind and its payload has so many bytes
abbrev pub such_payload : ℕ → ℕ → Answer Frame → Option (List ℕ)
such_payload kind size (got f) = if_else (both (eqb f.kind kind) (eqb (length f.payload) size)) (some f.payload) none
such_payload kind size (refused n) = none

abbrev pub first_such : ℕ → ℕ → List Line → Option (List ℕ)
first_such kind size [] = none
first_such kind size (l ∷ lines) = such_payload kind size (decode l)

-- such a payload of the first line
unfoldable pub first_payload : ℕ → ℕ → List ℕ → Option (List ℕ)
first_payload kind size text = first_such kind size (lines_of text)

-- whether there is one of as many bytes as `out` has; they are left there, or zeros
pub record PayloadRead (kind : ℕ) (text entry exit : List ℕ) (r : Bool) : Type 0 where
  pub answer : r ≡ maybe (first_payload kind (length entry) text) false (λ p. true)
  pub left : exit ≡ maybe (first_payload kind (length entry) text) (replicate (length entry) 0) (λ p. p)

-- ---- the bytes

-- the byte that two digits spell
abbrev pub pair : ℕ → ℕ → Answer ℕ
pair a b = then (digit a) (λ hi. then (digit b) (λ lo. got (hi * 16 + lo)))

-- the bytes that the pairs of digits at the front spell, up to the first pair that is none; at most so many
abbrev pub and_then : Answer ℕ → List ℕ → List ℕ
and_then (got b) l = b ∷ l
and_then (refused n) l = []

unfoldable pub spelt : ℕ → List ℕ → List ℕ
spelt zero s = []
spelt (suc most) [] = []
spelt (suc most) (a ∷ []) = []
spelt (suc most) (a ∷ b ∷ s) = and_then (pair a b) (spelt most s)

-- they stand at the front; after 10 every byte is kept
unfoldable pub bytes_read : List ℕ → List ℕ → List ℕ
bytes_read text out = if_else (leb frame_size (length out)) (over (spelt frame_size text) out) out
