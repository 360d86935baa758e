-- K1: the bytes after `report_input` change no report. Assumes nothing.
use Prim.Native.Nat.{ℕ, zero, suc, ◌+◌, ◌*◌, ◌≤◌, zero-le, suc-le-suc}
use native.Mathlib.Omega.{arith}
use native.Mathlib.Decide.{ℕ_discrete, dec_lt}
use mathlib.Core.Path.{◌≡◌, refl, sym, ap, ◌∙◌}
use mathlib.Core.Bool.{Bool, true, false}
use mathlib.Core.List.{List, [], ◌∷◌, ◌++◌, map, append-nil}
use lib.Dec.{eqb}
use lib.ListN.{length, take, length-append}
use lib.Seq.{take_all, length-take-le}
use borrow.Author.Tests.{eqb-true, eq-eqb, ne_eqb, lt-leb, lt-ltb, le-ltb}
use Rattle.bmap.proofs.PlainLaws.{both_true}
use Rattle.bmap.proofs.LineLaws.{lines_text}
use Rattle.bmap.specs.Plain.{if_else, flat, text}
use Rattle.bmap.specs.Limits.{most_input, most_sheets, begins_size, report_input}
use Rattle.bmap.specs.Refusal.{Reading, read, refused_at, afterwards}
use Rattle.bmap.specs.Line.{Line, line_feed, before, lines_of, line_text, starts_with, starts, decode}
use Rattle.bmap.specs.Domain.{Domain, Names}
use Rattle.bmap.specs.Accept.{taken}
use Rattle.bmap.specs.Report.{sheet_begins, Texts, line_before, texts_of, text_size, unless_long, next_sheet, sheets_from, reported_by, reported_on, report_on, report}
use Rattle.bmap.specs.Theorems.{RestUnread}

-- ---- lines without LF within

-- characters, none of them LF
abbrev NoFeed : List ℕ → Type 0
NoFeed [] = Unit {0}
NoFeed (c ∷ s) = (c ≡ line_feed → ⊥) × NoFeed s

-- lines whose digits are such characters
abbrev Whole : List Line → Type 0
Whole [] = Unit {0}
Whole (l ∷ lines) = NoFeed l.digits × Whole lines

-- a character other than LF before them leaves them so
whole_before : (c : ℕ) (lines : List Line) → (c ≡ line_feed → ⊥) → Whole lines → Whole (before c lines)
whole_before c [] e w = ((e, tt), tt)
whole_before c (l ∷ lines) e w = ((e, w.0), w.1)

-- a text's lines are such lines
lines_whole : (s : List ℕ) → Whole (lines_of s)
unfolding lines_of
lines_whole [] = tt
lines_whole (c ∷ s) = elim (ℕ_discrete c line_feed) [
  | yes e ↦ rw (eq-eqb c line_feed e) (tt, lines_whole s)
  | no e ↦ rw (ne_eqb c line_feed e) (whole_before c (lines_of s) e (lines_whole s))
]

-- ---- the line B000

-- a line that starts with a word and LF has the word's length, and ends
word_line : (word digits : List ℕ) (ended : Bool) → NoFeed digits
    → starts_with (word ++ (line_feed ∷ [])) (digits ++ if_else ended (line_feed ∷ []) []) ≡ true → (length digits ≡ length word) × (ended ≡ true)
unfolding starts_with
word_line [] [] true n e = (refl, refl)
word_line [] [] false n e = absurd cc
word_line [] (d ∷ digits) ended n e = absurd (n.0 (eqb-true d line_feed (both_true (eqb d line_feed) true e).0))
word_line (w ∷ word) [] false n e = absurd cc
word_line (w ∷ []) [] true n e = absurd (let y = (both_true (eqb line_feed w) false e).1 in cc)
word_line (w ∷ v ∷ word) [] true n e = absurd (let y = (both_true (eqb line_feed w) false e).1 in cc)
word_line (w ∷ word) (d ∷ digits) ended n e =
    let rest = word_line word digits ended n.1 (both_true (eqb d w) (starts_with (word ++ (line_feed ∷ [])) (digits ++ if_else ended (line_feed ∷ []) [])) e).1 in
    (ap suc rest.0, rest.1)

-- the B000 line has four digits, and ends
mark_line : (l : Line) → NoFeed l.digits → starts sheet_begins l ≡ true → (length l.digits ≡ 4) × (l.ended ≡ true)
unfolding text
mark_line l n e = word_line (66 ∷ 48 ∷ 48 ∷ 48 ∷ []) l.digits l.ended n e

-- and so many bytes
mark_size : (l : Line) → NoFeed l.digits → starts sheet_begins l ≡ true → length (line_text l) ≡ begins_size
mark_size l n e = length-append l.digits (if_else l.ended (line_feed ∷ []) []) ∙ rw ((mark_line l n e).0, (mark_line l n e).1)

-- a line that does not end is no such line
open_line : (digits : List ℕ) → NoFeed digits → starts sheet_begins (record { digits = digits; ended = false }) ≡ false
open_line digits n = go (starts sheet_begins (record { digits = digits; ended = false })) refl
  where
    go : (t : Bool) → starts sheet_begins (record { digits = digits; ended = false }) ≡ t → t ≡ false
    go false e = refl
    go true e = sym (mark_line (record { digits = digits; ended = false }) n e).1

-- ---- the bytes of texts

-- a text's bytes are its first line's and the others'
size_more : (l : Line) (lines : List Line) → text_size (l ∷ lines) ≡ length (line_text l) + text_size lines
unfolding flat
size_more l lines = length-append (line_text l) (flat (map line_text lines))

-- the bytes of sheets' texts, each after its B000 line
unfoldable sheets_size : List (List Line) → ℕ
sheets_size [] = 0
sheets_size (t ∷ texts) = begins_size + text_size t + sheets_size texts

-- and of a domain's text before them
abbrev texts_size : Texts → ℕ
texts_size t = text_size t.domain + sheets_size t.sheets

-- a line's bytes, B000 or not, are added
line_size_lem : (l : Line) (t : Texts) → NoFeed l.digits → texts_size (line_before l t) ≡ length (line_text l) + texts_size t
unfolding flat sheets_size
line_size_lem l t n = go (starts sheet_begins l) refl
  where
    go : (b : Bool) → starts sheet_begins l ≡ b
        → texts_size (if_else b (record { domain = []; sheets = t.domain ∷ t.sheets }) (record { domain = l ∷ t.domain; sheets = t.sheets })) ≡ length (line_text l) + texts_size t
    go true e = omega (arith, mark_size l n e)
    go false e = omega (arith, size_more l t.domain)

-- the texts and the B000 lines are the whole
texts_size_lem : (lines : List Line) → Whole lines → texts_size (texts_of lines) ≡ text_size lines
unfolding flat texts_of sheets_size
texts_size_lem [] w = refl
texts_size_lem (l ∷ lines) w = line_size_lem l (texts_of lines) w.0 ∙ omega (arith, texts_size_lem lines w.1, size_more l lines)

-- an input's texts and B000 lines have its bytes
input_size : (s : List ℕ) → texts_size (texts_of (lines_of s)) ≡ length s
input_size s = texts_size_lem (lines_of s) (lines_whole s) ∙ ap length (lines_text s)

-- ---- the lines of a text that is cut

-- they are the whole text's, up to one that may be cut itself
data CutLines : List Line → List Line → Type 0 where
  none : {lines : List Line} → CutLines [] lines
  part : {digits : List ℕ} {l : Line} {lines : List Line} → length digits ≤ length l.digits → CutLines (record { digits = digits; ended = false } ∷ []) (l ∷ lines)
  same : {l : Line} {short lines : List Line} → CutLines short lines → CutLines (l ∷ short) (l ∷ lines)

-- one character before both
cut_before : (c : ℕ) (short lines : List Line) → CutLines short lines → CutLines (before c short) (before c lines)
cut_before c short lines (none {lines = []}) = part (suc-le-suc zero-le)
cut_before c short lines (none {lines = l ∷ ls}) = part (suc-le-suc zero-le)
cut_before c short lines (part h) = part (suc-le-suc h)
cut_before c short lines (same h) = same h

-- the first so many bytes of a text have its lines, cut
cut_lines : (n : ℕ) (s : List ℕ) → CutLines (lines_of (take n s)) (lines_of s)
unfolding lines_of
cut_lines zero s = none
cut_lines (suc n) [] = none
cut_lines (suc n) (c ∷ s) = elim (ℕ_discrete c line_feed) [
  | yes e ↦ rw (eq-eqb c line_feed e) (same (cut_lines n s))
  | no e ↦ rw (ne_eqb c line_feed e) (cut_before c (lines_of (take n s)) (lines_of s) (cut_lines n s))
]

-- ---- the texts of an input that is cut

-- a text and those after it: they are the whole input's, up to the last, which may have the digits of a B000 line more than there
data CutTexts : List Line → List (List Line) → List Line → List (List Line) → Type 0 where
  last : (cut t : List Line) {more : List (List Line)} → text_size cut ≤ text_size t + 4 → CutTexts cut [] t more
  next : {t cut u : List Line} {short more : List (List Line)} → CutTexts cut short u more → CutTexts t (cut ∷ short) t (u ∷ more)

-- the same of a domain's text and the sheets'
abbrev Cut : Texts → Texts → Type 0
Cut short t = CutTexts short.domain short.sheets t.domain t.sheets

-- one line before the first text of both
line_first : (l : Line) (cut t : List Line) (short more : List (List Line)) → CutTexts cut short t more → CutTexts (l ∷ cut) short (l ∷ t) more
line_first l cut t short more (last _ _ h) = last (l ∷ cut) (l ∷ t) (omega (arith, size_more l cut, size_more l t))
line_first l cut t short more (next h) = next h

-- one line before both
cut_same : (l : Line) (short t : Texts) → Cut short t → Cut (line_before l short) (line_before l t)
cut_same l short t c = go (starts sheet_begins l)
  where
    go : (b : Bool)
        → Cut (if_else b (record { domain = []; sheets = short.domain ∷ short.sheets }) (record { domain = l ∷ short.domain; sheets = short.sheets }))
        (if_else b (record { domain = []; sheets = t.domain ∷ t.sheets }) (record { domain = l ∷ t.domain; sheets = t.sheets }))
    go true = next c
    go false = line_first l short.domain t.domain short.sheets t.sheets c

-- a line that is cut, and nothing after it
cut_part : (digits : List ℕ) (l : Line) (t : Texts) → NoFeed digits → NoFeed l.digits → length digits ≤ length l.digits
    → Cut (line_before (record { digits = digits; ended = false }) (record { domain = []; sheets = [] })) (line_before l t)
unfolding flat
cut_part digits l t m n h = rw (open_line digits m) (go (starts sheet_begins l) refl)
  where
    size : text_size (record { digits = digits; ended = false } ∷ []) ≡ length digits
    size = ap length (append-nil (digits ++ []) ∙ append-nil digits)

    go : (b : Bool) → starts sheet_begins l ≡ b
        → Cut (record { domain = record { digits = digits; ended = false } ∷ []; sheets = [] })
        (if_else b (record { domain = []; sheets = t.domain ∷ t.sheets }) (record { domain = l ∷ t.domain; sheets = t.sheets }))
    go true e = last (record { digits = digits; ended = false } ∷ []) [] (omega (arith, size, (mark_line l n e).0))
    go false e = last (record { digits = digits; ended = false } ∷ []) (l ∷ t.domain) (omega (arith, size, size_more l t.domain, length-append l.digits (if_else l.ended (line_feed ∷ []) [])))

-- lines that are cut make texts that are cut
cut_texts : (short lines : List Line) → Whole short → Whole lines → CutLines short lines → Cut (texts_of short) (texts_of lines)
unfolding flat texts_of
cut_texts short lines v w none = last [] (texts_of lines).domain (omega arith)
cut_texts short lines v w (part {digits} {l} {lines = ls} h) = cut_part digits l (texts_of ls) v.0 w.0 h
cut_texts short lines v w (same {l} {short = s} {lines = ls} c) = cut_same l (texts_of s) (texts_of ls) (cut_texts s ls v.1 w.1 c)

-- so do the first so many bytes of an input
cut_input : (n : ℕ) (s : List ℕ) → Cut (texts_of (lines_of (take n s))) (texts_of (lines_of s))
cut_input n s = cut_texts (lines_of (take n s)) (lines_of s) (lines_whole (take n s)) (lines_whole s) (cut_lines n s)

-- ---- what is read of them

module _ (agents : ℕ) where
  -- after so many sheets, each of which may have been as long as is allowed: the last is too long, or one too many, wherever it is reached
  sheets_agree : (sheets lines : ℕ) (cut t : List Line) (short more : List (List Line)) → CutTexts cut short t more
      → most_sheets * (begins_size + most_input) + begins_size ≤ sheets_size (cut ∷ short) + sheets * (begins_size + most_input)
      → sheets_from agents sheets lines (cut ∷ short) ≡ sheets_from agents sheets lines (t ∷ more)
  unfolding sheets_from sheets_size
  sheets_agree sheets lines cut t short more (last _ _ h) b = elim (dec_lt sheets most_sheets) [
    | yes k ↦ rw (lt-ltb sheets most_sheets k, lt-leb (text_size cut) most_input (omega arith), lt-leb (text_size t) most_input (omega arith))
    | no k ↦ rw (le-ltb sheets most_sheets (omega arith))
  ]
  sheets_agree sheets lines cut t short more (next {cut = c} {u} {short = s} {more = m} h) b = elim (dec_lt sheets most_sheets) [
    | yes k ↦ elim (dec_lt most_input (text_size t)) [
      | yes long ↦ rw (lt-ltb sheets most_sheets k, lt-leb (text_size t) most_input long)
      | no long ↦
          ap (λ (r : Reading (List (List Names))). afterwards (next_sheet agents sheets lines t) (λ steps. afterwards r (λ others. read (steps ∷ others))))
          (sheets_agree (suc sheets) (suc lines + length t) c u s m h (omega arith))
    ]
    | no k ↦ rw (le-ltb sheets most_sheets (omega arith))
  ]

-- one domain's text, read or refused
same_domain : (t : List Line) (short more : List (List Line)) (r : Reading Domain) → ((agents : ℕ) → sheets_from agents 0 (length t) short ≡ sheets_from agents 0 (length t) more)
    → reported_on (record { domain = t; sheets = short }) r ≡ reported_on (record { domain = t; sheets = more }) r
same_domain t short more (read d) agree = ap (reported_by d) (agree d.agents)
same_domain t short more (refused_at n line) agree = refl

-- the domain's text is too long, or the sheets after it have the bytes that decide
texts_agree : (cut t : List Line) (short more : List (List Line)) → CutTexts cut short t more → report_input ≤ text_size cut + sheets_size short
    → report_on (record { domain = cut; sheets = short }) ≡ report_on (record { domain = t; sheets = more })
unfolding sheets_size
texts_agree cut t short more (last _ _ h) b = rw (lt-leb (text_size cut) most_input (omega arith), lt-leb (text_size t) most_input (omega arith))
texts_agree cut t short more (next {cut = c} {u} {short = s} {more = m} h) b = elim (dec_lt most_input (text_size t)) [
  | yes long ↦ rw (lt-leb (text_size t) most_input long)
  | no long ↦ same_domain t short more (unless_long t (taken (map decode t))) (λ agents. sheets_agree agents 0 (length t) c u s m h (omega arith))
]

-- what is read decides: an input that is longer is cut, any other is read whole
pub rest_unread : RestUnread
unfolding report
rest_unread input = elim (dec_lt report_input (length input)) [
  | yes long ↦
      let short : Texts = texts_of (lines_of (take report_input input)) in
      let t : Texts = texts_of (lines_of input) in
      let size : texts_size short ≡ report_input = input_size (take report_input input) ∙ length-take-le report_input input (omega arith) in
      texts_agree short.domain t.domain short.sheets t.sheets (cut_input report_input input) (omega arith)
  | no long ↦ ap report (take_all report_input input (omega arith))
]
