-- Document 02, K1: the program `report`, "morning figures over many sheets": its input's bytes to its output's bytes.
use Rattle.std.specs.Prelude.{ℕ, suc, ◌+◌, Bool, true, false, not, List, [], ◌∷◌, ◌++◌, map, leb, ltb, ℤ, pos, ◌+ℤ◌, length, get_or}
use Rattle.std.specs.Int.Signed.{le_z}
use Rattle.bmap.specs.Plain.{if_else, any, those, flat, numbers, text}
use Rattle.bmap.specs.Limits.{most_input, most_sheets}
use Rattle.bmap.specs.Refusal.{got, need, Reading, read, refused_at, at_line, afterwards}
use Rattle.bmap.specs.Line.{Line, lines_of, line_text, starts, decode}
use Rattle.bmap.specs.Domain.{Domain, Names, State}
use Rattle.bmap.specs.Accept.{taken}
use Rattle.bmap.specs.Sheet.{steps_from}
use Rattle.bmap.specs.Judge.{Verdict, accepted, broken, Judged, judge}
use Rattle.bmap.specs.Program.{decimal, decimal_z, line_of, refused_text}

-- ---- the input

-- "input is a domain, then sheets, each begun by a line of exactly B000 and LF": a line that starts with these characters has no others,
-- since LF is its last
abbrev pub sheet_begins : List ℕ
sheet_begins = text "B000\n"

-- the lines before the first such line, and those after each of them up to the next: it is in no text itself
pub record Texts : Type 0 where
  pub domain : List Line
  pub sheets : List (List Line)

-- a line, and the texts of those after it
abbrev pub line_before : Line → Texts → Texts
line_before l t =
    if_else (starts sheet_begins l) (record { domain = []; sheets = t.domain ∷ t.sheets })
    (record { domain = l ∷ t.domain; sheets = t.sheets })

unfoldable pub texts_of : List Line → Texts
texts_of [] = record { domain = []; sheets = [] }
texts_of (l ∷ lines) = line_before l (texts_of lines)

-- how many bytes a text has
abbrev pub text_size : List Line → ℕ
text_size lines = length (flat (map line_text lines))

module _ {A : Type 0} where
  -- "18 (line 0) holds for the domain's text and for each sheet's text by itself, before the others of that text"
  abbrev pub unless_long : List Line → Reading A → Reading A
  unless_long lines r = if_else (leb (text_size lines) most_input) r (refused_at 18 0)

  -- "lines counted from the input's first": a text's reading, after so many lines
  abbrev pub from_input : ℕ → Reading A → Reading A
  from_input lines (read a) = read a
  from_input lines (refused_at n line) = refused_at n (lines + line)

-- "19 for a 41st sheet, at its B000 line, before all else of it": a sheet's text, after so many sheets and lines
abbrev pub next_sheet : ℕ → ℕ → ℕ → List Line → Reading (List Names)
next_sheet agents sheets lines t =
    at_line (suc lines) (need (ltb sheets most_sheets) 19 (got (tt {0}))) (λ _.
    unless_long t (from_input (suc lines) (steps_from agents [] (map decode t))))

-- "The first refusal in input order"
unfoldable pub sheets_from : ℕ → ℕ → ℕ → List (List Line) → Reading (List (List Names))
sheets_from agents sheets lines [] = read []
sheets_from agents sheets lines (t ∷ texts) =
    afterwards (next_sheet agents sheets lines t) (λ steps.
    afterwards (sheets_from agents (suc sheets) (suc lines + length t) texts) (λ others. read (steps ∷ others)))

-- ---- the figures

abbrev pub is_accepted : Verdict → Bool
is_accepted accepted = true
is_accepted (broken kind k n) = false

abbrev pub accepts : Judged → Bool
accepts j = is_accepted j.verdict

abbrev pub breaks : Judged → Bool
breaks j = not (accepts j)

-- "over all states of all accepted sheets"
abbrev pub states_of : List Judged → List State
states_of judged = flat (map (λ (j : Judged). j.states) (those accepts judged))

-- a fluent's values
abbrev pub values_of : ℕ → List State → List ℤ
values_of f states = map (λ (s : State). get_or s f (pos 0)) states

-- of z and those after it
unfoldable pub lowest_of : ℤ → List ℤ → ℤ
lowest_of z [] = z
lowest_of z (y ∷ l) = lowest_of (if_else (le_z z y) z y) l

unfoldable pub highest_of : ℤ → List ℤ → ℤ
highest_of z [] = z
highest_of z (y ∷ l) = highest_of (if_else (le_z y z) z y) l

unfoldable pub sum_of : List ℤ → ℤ
sum_of [] = pos 0
sum_of (z ∷ l) = z +ℤ sum_of l

-- ---- the output

-- "a line SHEETS with the count of accepted and of broken sheets"
abbrev pub sheets_line : List Judged → List ℕ
sheets_line judged = line_of (text "SHEETS") (decimal (length (those accepts judged)) ∷ decimal (length (those breaks judged)) ∷ [])

-- "a line F with its number, lowest value, highest value, sum and count of values": none without a value
abbrev pub figures_line : ℕ → List ℤ → List ℕ
figures_line f [] = []
figures_line f (z ∷ l) =
    line_of (text "F") (decimal f ∷ decimal_z (lowest_of z l) ∷ decimal_z (highest_of z l) ∷ decimal_z (sum_of (z ∷ l)) ∷ decimal (length (z ∷ l)) ∷ [])

-- "it then prints for each fluent"
abbrev pub figures_lines : ℕ → List State → List ℕ
figures_lines fluents states = flat (map (λ f. figures_line f (values_of f states)) (numbers 0 fluents))

-- "If any was accepted"
abbrev pub report_text : Domain → List Judged → List ℕ
report_text d judged = sheets_line judged ++ if_else (any accepts judged) (figures_lines (length d.fluents) (states_of judged)) []

-- "the REFUSED line alone"
abbrev pub reported_by : Domain → Reading (List (List Names)) → List ℕ
reported_by d (read sheets) = report_text d (map (judge d) sheets)
reported_by d (refused_at n line) = refused_text n line

abbrev pub reported_on : Texts → Reading Domain → List ℕ
reported_on t (read d) = reported_by d (sheets_from d.agents 0 (length t.domain) t.sheets)
reported_on t (refused_at n line) = refused_text n line

abbrev pub report_on : Texts → List ℕ
report_on t = reported_on t (unless_long t.domain (taken (map decode t.domain)))

unfoldable pub report : List ℕ → List ℕ
report input = report_on (texts_of (lines_of input))
