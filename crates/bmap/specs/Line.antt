-- Hex lines, and the frames that they decode to.
use Rattle.std.specs.Prelude.{ℕ, ◌+◌, ◌*◌, ◌-◌, ◌/◌, ◌%◌, Bool, true, false, List, [], ◌∷◌, ◌++◌, eqb, leb, ltb, length}
use Rattle.bmap.specs.Plain.{both, if_else}
use Rattle.bmap.specs.Limits.{most_payload}
use Rattle.bmap.specs.Refusal.{Answer, got, refused, need, then}

-- a text's line, with or without its LF
pub record Line : Type 0 where
  pub digits : List ℕ
  pub ended : Bool

abbrev pub line_feed : ℕ
line_feed = 10

abbrev pub empty_line : Line
empty_line = record { digits = []; ended = true }

-- a character before the first of the lines, where there is one
abbrev pub before : ℕ → List Line → List Line
before c [] = record { digits = c ∷ []; ended = false } ∷ []
before c (l ∷ lines) = record { digits = c ∷ l.digits; ended = l.ended } ∷ lines

unfoldable pub lines_of : List ℕ → List Line
lines_of [] = []
lines_of (c ∷ rest) = if_else (eqb c line_feed) (empty_line ∷ lines_of rest) (before c (lines_of rest))

-- the line as it stands in its text
abbrev pub line_text : Line → List ℕ
line_text l = l.digits ++ if_else l.ended (line_feed ∷ []) []

-- a word's characters, and what a text starts with
unfoldable pub starts_with : List ℕ → List ℕ → Bool
starts_with [] s = true
starts_with (c ∷ word) [] = false
starts_with (c ∷ word) (d ∷ s) = both (eqb d c) (starts_with word s)

-- a line, its LF with it, that starts with a word
abbrev pub starts : List ℕ → Line → Bool
starts word l = starts_with word (line_text l)

-- "digits 0-9 A-F"
unfoldable pub digit : ℕ → Answer ℕ
digit c =
    if_else (both (leb 48 c) (leb c 57)) (got (c - 48))
    (if_else (both (leb 65 c) (leb c 70)) (got (c - 55)) (refused 1))

-- "an even … count of digits"
unfoldable pub bytes : List ℕ → Answer (List ℕ)
bytes [] = got []
bytes (a ∷ []) = refused 1
bytes (a ∷ b ∷ rest) = then (digit a) (λ hi. then (digit b) (λ lo. then (bytes rest) (λ l. got ((hi * 16 + lo) ∷ l))))

-- the kinds of frames, each once
abbrev pub agents_kind : ℕ
agents_kind = 0xA1

abbrev pub fluent_kind : ℕ
fluent_kind = 0xA2

abbrev pub knowledge_kind : ℕ
knowledge_kind = 0xA3

abbrev pub entry_kind : ℕ
entry_kind = 0xA4

abbrev pub executable_kind : ℕ
executable_kind = 0xA5

abbrev pub effect_kind : ℕ
effect_kind = 0xA6

abbrev pub static_kind : ℕ
static_kind = 0xA7

abbrev pub concurrency_kind : ℕ
concurrency_kind = 0xA8

abbrev pub goal_kind : ℕ
goal_kind = 0xA9

abbrev pub supplement_kind : ℕ
supplement_kind = 0xAF

abbrev pub step_kind : ℕ
step_kind = 0xB1

pub record Frame : Type 0 where
  pub kind : ℕ
  pub payload : List ℕ

-- "It decodes to a kind byte, a count byte n (0 to 120) and exactly n payload bytes"
unfoldable pub framed : List ℕ → Answer Frame
framed [] = refused 1
framed (kind ∷ []) = refused 2
framed (kind ∷ n ∷ payload) =
    need (both (leb n most_payload) (eqb n (length payload))) 2 (got (record { kind = kind; payload = payload }))

-- "A line is an even, non-zero count of digits 0-9 A-F, then LF"
unfoldable pub decode : Line → Answer Frame
decode l = need l.ended 1 (then (bytes l.digits) framed)

-- ---- and back

abbrev pub stored : Frame → List ℕ
stored f = f.kind ∷ length f.payload ∷ f.payload

unfoldable pub digit_for : ℕ → ℕ
digit_for d = if_else (ltb d 10) (d + 48) (d + 55)

unfoldable pub hex : List ℕ → List ℕ
hex [] = []
hex (b ∷ l) = digit_for (b / 16) ∷ digit_for (b % 16) ∷ hex l

unfoldable pub line_for : Frame → List ℕ
line_for f = hex (stored f) ++ (line_feed ∷ [])

-- the characters of a line whose payload has so many bytes: two for each byte, kind and count among them, and the LF
abbrev pub line_size : ℕ → ℕ
line_size payload = 2 * payload + 5
