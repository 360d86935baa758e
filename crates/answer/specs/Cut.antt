-- Where an input is cut into the texts of its parts.
use Rattle.std.specs.Prelude.{ℕ, Result, Ok, Err, ◌≤◌, ◌<◌, ◌≡◌, Bool, true, not, List, [], ◌∷◌, T, eqb, length, take, drop}
use Rattle.bmap.specs.Plain.{both}
use Rattle.bmap.specs.Limits.{most_input}
use Rattle.bmap.specs.Refusal.{number_of}
use Rattle.bmap.specs.declared.refusal.ReadError.{ReadError}
use Rattle.bmap.specs.Line.{lines_of, line_feed, starts_with}
use Rattle.bmap.specs.Program.{sheet_mark, supplement_mark, split}
use Rattle.answer.specs.declared.cut.Cut.{Cut}

-- no character of the word but its last is LF
unfoldable pub feeds_last : List ℕ → Bool
feeds_last [] = true
feeds_last (c ∷ []) = true
feeds_last (c ∷ d ∷ word) = both (not (eqb c line_feed)) (feeds_last (d ∷ word))

-- so that a line can start with it
abbrev pub InLine : List ℕ → Type 0
InLine word = T (feeds_last word)

-- a place, and the number of lines before it: those before the first line that starts so, and those from it on
pub record CutIn (word input : List ℕ) (at lines : ℕ) : Type 0 where
  pub within : at ≤ length input
  pub before : lines_of (take at input) ≡ (split word (lines_of input)).before
  pub from : lines_of (drop at input) ≡ (split word (lines_of input)).from
  pub count : lines ≡ length (split word (lines_of input)).before
  pub stands : at < length input → starts_with word (drop at input) ≡ true

-- an input cut at its sheet, or refused by 18
abbrev pub SheetIn : List ℕ → Result Cut ReadError → Type 0
SheetIn input (Ok cut) = (length input ≤ most_input) × CutIn sheet_mark input cut.at cut.lines
SheetIn input (Err e) = (most_input < length input) × (number_of e.refusal ≡ 18) × (e.line ≡ 0)

-- an input that is not refused by 18, cut at its sheet, and what is before that at its supplement
pub record CutTwice (input : List ℕ) (supplement sheet : Cut) : Type 0 where
  pub short : length input ≤ most_input
  pub outer : CutIn sheet_mark input sheet.at sheet.lines
  pub inner : CutIn supplement_mark (take sheet.at input) supplement.at supplement.lines
