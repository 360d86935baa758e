-- A report under way: what its sheets so far have come to, and what is still to be read.
use Rattle.std.specs.Prelude.{ℕ, Option, None, Some, Result, Ok, Err, ◌+◌, ◌*◌, ◌≤◌, ◌<◌, ◌≡◌, true, false, List, [], ◌∷◌, ◌++◌, map, ℤ, length, drop}
use Rattle.bmap.specs.Plain.{flat, those}
use Rattle.bmap.specs.Limits.{most_steps, most_sheets, levels_size}
use Rattle.bmap.specs.Refusal.{Reading, read, refused_at, number_of}
use Rattle.bmap.specs.Line.{Line, lines_of, starts_with, decode}
use Rattle.bmap.specs.Domain.{Domain, Names}
use Rattle.bmap.specs.Buffer.{over}
use Rattle.bmap.specs.Sheet.{rows, steps_from}
use Rattle.bmap.specs.Judge as paper
use Rattle.bmap.specs.Program.{refused_text}
use Rattle.bmap.specs.Report.{sheet_begins, texts_of, sheets_from, is_accepted, accepts, breaks, states_of, report_text}
use Rattle.bmap.specs.declared.limits.Counts.{Counts}
use Rattle.bmap.specs.declared.refusal.ReadError.{ReadError}
use Rattle.answer.specs.Room.{output_size, Few}
use Rattle.answer.specs.Cut.{CutIn}
use Rattle.answer.specs.declared.cut.Cut.{Cut}
use Rattle.answer.specs.declared.morning.Morning.{Morning}
use Rattle.answer.specs.declared.print.Text.{Text}
use Rattle.answer.specs.Put.{HasRoom}

-- the levels of the most sheets
abbrev pub states_size : ℕ
states_size = most_sheets * levels_size

-- ---- one sheet

-- its steps are judged and accepted: so many states stand at the front of the levels
pub record Accepts (d : Domain) (sheet : Reading (List Names)) (levels : List ℤ) (states : ℕ) (left : List ℤ) : Type 0 where
  pub steps : List Names
  pub reads : sheet ≡ read steps
  pub verdict : is_accepted (paper.judge d steps).verdict ≡ true
  pub count : states ≡ length (paper.judge d steps).states
  pub levels_are : left ≡ over (flat (paper.judge d steps).states) levels

-- they are judged and broken
pub record Breaks (d : Domain) (sheet : Reading (List Names)) : Type 0 where
  pub steps : List Names
  pub reads : sheet ≡ read steps
  pub verdict : is_accepted (paper.judge d steps).verdict ≡ false

-- what a sheet's text comes to
abbrev pub ComesTo : Domain → List ℕ → List ℤ → Result (Option ℕ) ReadError → List ℤ → Type 0
ComesTo d text levels (Ok (Some states)) left = Accepts d (steps_from d.agents [] (map decode (lines_of text))) levels states left
ComesTo d text levels (Ok None) left = Breaks d (steps_from d.agents [] (map decode (lines_of text)))
ComesTo d text levels (Err e) left = steps_from d.agents [] (map decode (lines_of text)) ≡ refused_at (number_of e.refusal) e.line

-- no more states than the longest sheet has, no line beyond the text
abbrev pub Modest : List ℕ → Result (Option ℕ) ReadError → Type 0
Modest text (Ok (Some states)) = states ≤ most_steps + 1
Modest text (Ok None) = Unit {0}
Modest text (Err e) = e.line ≤ length text

-- ---- the sheets so far

-- the next B000 line, or the input's end; no more than the limits allow
pub record Underway (input : List ℕ) (m : Morning) : Type 0 where
  pub within : m.at ≤ length input
  pub begins : m.at < length input → starts_with sheet_begins (drop m.at input) ≡ true
  pub lines : m.lines ≤ m.at
  pub sheets : m.accepted + m.broken ≤ most_sheets
  pub few : m.states ≤ (m.accepted + m.broken) * (most_steps + 1)

-- what the sheet that begins there asks for: the domain's counts within their limits, and room for its states
pub record Ready (counts : Counts) (input : List ℕ) (m : Morning) (levels : List ℤ) : Type 0 where
  pub few : Few counts
  pub underway : Underway input m
  pub begun : m.at < length input
  pub room : states_size ≤ length levels

-- what the sheets of a domain ask for: their first place, and room for every output
pub record Opened (counts : Counts) (input : List ℕ) (first : Cut) (text : Text) : Type 0 where
  pub few : Few counts
  pub cut : CutIn sheet_begins input first.at first.lines
  pub room : HasRoom text output_size

-- what is counted and kept is that of the sheets judged
pub record Kept (width : ℕ) (judged : List paper.Judged) (m : Morning) (levels : List ℤ) : Type 0 where
  pub accepted : m.accepted ≡ length (those accepts judged)
  pub broken : m.broken ≡ length (those breaks judged)
  pub states : rows width m.states levels ≡ states_of judged

-- ---- what is still to be read

-- the texts of the sheets in lines of which the first, where there is one, begins a sheet
abbrev pub sheet_texts : List Line → List (List Line)
sheet_texts [] = []
sheet_texts (l ∷ lines) = (texts_of lines).domain ∷ (texts_of lines).sheets

-- the report, where some sheets are judged and those after them are read
abbrev pub reported_after : Domain → List paper.Judged → Reading (List (List Names)) → List ℕ
reported_after d judged (read sheets) = report_text d (judged ++ map (paper.judge d) sheets)
reported_after d judged (refused_at n line) = refused_text n line

-- the same, from the input's lines on
abbrev pub report_from : Domain → List paper.Judged → ℕ → List Line → List ℕ
report_from d judged lines rest = reported_after d judged (sheets_from d.agents (length judged) lines (sheet_texts rest))

-- one sheet more is judged, and the report is that of the sheets with it and of the rest
pub record GoesOn (d : Domain) (width : ℕ) (input : List ℕ) (judged : List paper.Judged) (m : Morning) (new : Morning) (left : List ℤ) : Type 0 where
  pub sheet : paper.Judged
  pub kept : Kept width (judged ++ (sheet ∷ [])) new left
  pub report : report_from d judged m.lines (lines_of (drop m.at input)) ≡ report_from d (judged ++ (sheet ∷ [])) new.lines (lines_of (drop new.at input))

-- what the next sheet comes to
abbrev pub NextIs : Domain → ℕ → List ℕ → List paper.Judged → Morning → Result Morning ReadError → List ℤ → Type 0
NextIs d width input judged m (Ok new) left = GoesOn d width input judged m new left
NextIs d width input judged m (Err e) left = report_from d judged m.lines (lines_of (drop m.at input)) ≡ refused_text (number_of e.refusal) e.line

abbrev pub NextUnderway : List ℕ → Morning → Result Morning ReadError → Type 0
NextUnderway input m (Ok new) = Underway input new × (m.at < new.at)
NextUnderway input m (Err e) = Unit {0}
