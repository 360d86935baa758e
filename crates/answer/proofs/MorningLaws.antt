-- A report, sheet by sheet: what the texts say of the next, and what is kept of it. Assumes nothing.
use Prim.Native.Nat.{ℕ, suc, ◌+◌, ◌-◌, ◌*◌, ◌≤◌, ◌<◌}
use mathlib.Core.Path.{◌≡◌, refl, sym, ap, ◌∙◌, subst}
use mathlib.Core.Bool.{Bool, true, false, not}
use mathlib.Core.List.{List, [], ◌∷◌, ◌++◌, map, map-append, append-nil, append_assoc}
use native.Mathlib.Omega.{arith}
use native.Mathlib.Numerals.{add-one}
use lib.IntN.{ℤ}
use lib.ListN.{length, take, drop, length-append, length-drop, take-append-drop, drop_of_length-le}
use Rattle.std.specs.Prelude.{Option, Some, None, Result, Ok, Err}
use lib.Seq.{take_all, drop-drop, length-take-le}
use borrow.Author.Tests.{le-leb, lt-leb, lt-ltb, le-ltb}
use Rattle.bmap.specs.Limits.{store_size, most_fluents, levels_size, most_input, most_sheets}
use Rattle.bmap.specs.declared.refusal.Refusal.{Refusal}
use Rattle.bmap.specs.declared.refusal.ReadError.{ReadError}
use Rattle.bmap.specs.Accept.{taken}
use Rattle.bmap.specs.Store.{domain_in, reading}
use Rattle.domain.specs.Read as domains
use Rattle.domain.specs.declared.reader.ReadFound.{ReadFound}
use Rattle.supplement.specs.Under.{under_in}
use Rattle.supplement.specs.declared.under.Under.{Under}
use Rattle.supplement.proofs.Theorems.{empty_changes_nothing}
use Rattle.bmap.specs.Supplement.{Replacement, replaced, supplement_in, judge_under}
use Rattle.bmap.specs.Verdict as call
use Rattle.judge.specs.Answer.{verdict_of, counted_of, states_counted, states_written_under}
use Rattle.judge.specs.declared.verdict.Fault.{Fault}
use Rattle.judge.specs.declared.verdict.Verdict.TheVariants.{Accepted, Broken}
use Rattle.judge.specs.declared.verdict.Judged.{Judged}
use Rattle.sheet.specs.Step.{outcome}
use Rattle.answer.proofs.ProgramLaws.{domain_refused, domain_kept, product_most, lines_most, lines_small, StepsRead, judged, counted, verdict_is, refused_not}
use Rattle.bmap.specs.Plain.{either, if_else, any, those, flat, text}
use Rattle.bmap.specs.Refusal.{got, number_of, Reading, read, refused_at, afterwards}
use Rattle.bmap.specs.Line.{Line, lines_of, starts_with, starts, decode}
use Rattle.bmap.specs.Domain.{Domain, Names, State}
use Rattle.bmap.specs.Sheet.{rows, steps_from}
use Rattle.bmap.specs.Judge.{judge}
use Rattle.bmap.specs.Judge as paper
use Rattle.bmap.specs.Program.{decimal, line_of, refused_text, Parts, split}
use Rattle.bmap.specs.Report.{is_accepted, sheet_begins, Texts, texts_of, text_size, sheets_from, accepts, breaks, states_of, report_text, reported_by, reported_on, report, sheets_line, figures_lines}
use Rattle.bmap.proofs.LineLaws.{lines_text, word_first}
use Rattle.bmap.proofs.PlainLaws.{flat_one, one_in, one_out}
use Rattle.sheet.proofs.RoundTrip.{Rows, rows_front, rows_alike, rows_after}
use Rattle.answer.specs.declared.morning.Morning.{Morning}
use Rattle.answer.specs.Cut.{CutIn}
use Rattle.answer.specs.declared.print.Text.{Text}
use Rattle.answer.specs.Put.{Put, PutOr}
use Rattle.answer.specs.Speaks.{Speaks}
use Rattle.answer.specs.States.{most_states}
use Rattle.answer.proofs.PutLaws.{put_then}
use Rattle.answer.proofs.FiguresLaws.{lines_none}
use Rattle.answer.proofs.StatesLaws.{judge_whole}
use Rattle.answer.specs.Morning.{Accepts, Breaks, ComesTo, Modest, Underway, Kept, sheet_texts, reported_after, report_from}

-- ---- one sheet

module _ (store supplement sheet s : List ℕ) (levels : List ℤ) {after : List ℤ} (r : Result Judged Refusal)
    (told : ◌≡◌ {A = call.Judgement} (record { answer = counted_of r; levels = after }) (judge_under store supplement sheet levels)) (room : levels_size ≤ length levels)
    (d : Domain) (l : List Replacement) (domain : domain_in store ≡ got d) (accepted : supplement_in d supplement ≡ got l) (k : StepsRead d.agents s sheet) where
  pub not_refused : (why : Refusal) → r ≡ Err why → ⊥
  not_refused why e = refused_not store supplement sheet levels r told room d l k.steps domain accepted k.names why e

  module _ (j : Judged) (e : r ≡ Ok j) (count : states_counted r ≡ states_written_under store supplement sheet levels) where
    verdict_as : (judge (replaced l d) k.steps).verdict ≡ verdict_of j.verdict
    verdict_as = sym (verdict_is store supplement sheet levels r told room d l k.steps domain accepted k.names j e count)

    pub sheet_accepted : j.verdict ≡ Accepted → Accepts (replaced l d) (outcome (replaced l d).agents s) levels j.states after
    unfolding replaced
    sheet_accepted f = record {
      steps = k.steps;
      reads = k.reads;
      verdict = ap is_accepted (verdict_as ∙ ap verdict_of f);
      count = counted store supplement sheet levels r told room d l k.steps domain accepted k.names j e count;
      levels_are = ap (λ (x : call.Judgement). x.levels) (judged store supplement sheet levels r told room d l k.steps domain accepted k.names);
    }

    pub sheet_broken : {f : Fault} {step number : ℕ} → j.verdict ≡ Broken f step number → Breaks (replaced l d) (outcome (replaced l d).agents s)
    unfolding replaced
    sheet_broken f = record { steps = k.steps; reads = k.reads; verdict = ap is_accepted (verdict_as ∙ ap verdict_of f) }

-- what a text comes to, by the sheet's answer
pub came_to : {A E : Type 0} (r : Result A E) {o a : A} → r ≡ Ok o → o ≡ a → r ≡ Ok a
came_to r e f = e ∙ ap Ok f

module _ (d : Domain) (s : List ℕ) (levels left : List ℤ) {r : Result (Option ℕ) ReadError} where
  pub as_accepted : {k : ℕ} → r ≡ Ok (Some k) → ComesTo d s levels r left → Accepts d (outcome d.agents s) levels k left
  as_accepted e x = subst (λ o. ComesTo d s levels o left) e x

  pub as_broken : r ≡ Ok None → ComesTo d s levels r left → Breaks d (outcome d.agents s)
  as_broken e x = subst (λ o. ComesTo d s levels o left) e x

pub modest_states : (s : List ℕ) {r : Result (Option ℕ) ReadError} {k : ℕ} → r ≡ Ok (Some k) → Modest s r → k ≤ 65
modest_states s e x = subst (Modest s) e x

-- ---- the texts

-- the domain's lines are those before the first B000 line, and the sheets' those from it on
domain_lines : (lines : List Line) → (texts_of lines).domain ≡ (split sheet_begins lines).before
unfolding texts_of split
domain_lines [] = refl
domain_lines (l ∷ lines) = go (starts sheet_begins l) (domain_lines lines)
  where
    go : (b : Bool) → (texts_of lines).domain ≡ (split sheet_begins lines).before
        → (if_else {A = Texts} b (record { domain = []; sheets = (texts_of lines).domain ∷ (texts_of lines).sheets }) (record { domain = l ∷ (texts_of lines).domain; sheets = (texts_of lines).sheets })).domain
        ≡ (if_else {A = Parts} b (record { before = []; from = l ∷ lines }) (record { before = l ∷ (split sheet_begins lines).before; from = (split sheet_begins lines).from })).before
    go true e = refl
    go false e = ap (λ (ls : List Line). l ∷ ls) e

sheets_lines : (lines : List Line) → (texts_of lines).sheets ≡ sheet_texts (split sheet_begins lines).from
unfolding texts_of split
sheets_lines [] = refl
sheets_lines (l ∷ lines) = go (starts sheet_begins l) (sheets_lines lines)
  where
    go : (b : Bool) → (texts_of lines).sheets ≡ sheet_texts (split sheet_begins lines).from
        → (if_else {A = Texts} b (record { domain = []; sheets = (texts_of lines).domain ∷ (texts_of lines).sheets }) (record { domain = l ∷ (texts_of lines).domain; sheets = (texts_of lines).sheets })).sheets
        ≡ sheet_texts (if_else {A = Parts} b (record { before = []; from = l ∷ lines }) (record { before = l ∷ (split sheet_begins lines).before; from = (split sheet_begins lines).from })).from
    go true e = refl
    go false e = e

-- a sheet's B000 line, and the lines after it
begun : (s : List ℕ) → starts_with sheet_begins s ≡ true → lines_of s ≡ record { digits = text "B000"; ended = true } ∷ lines_of (drop 5 s)
unfolding text lines_of
begun s t = ap lines_of (word_first sheet_begins s t)

-- ---- what the next text says

-- one sheet more is judged
report_more : (d : Domain) (judged : List paper.Judged) (steps : List Names) (r : Reading (List (List Names)))
    → reported_after d judged (afterwards r (λ others. read (steps ∷ others))) ≡ reported_after d (judged ++ (judge d steps ∷ [])) r
report_more d judged steps (read sheets) = ap (report_text d) (sym (append_assoc judged (judge d steps ∷ []) (map (judge d) sheets)))
report_more d judged steps (refused_at n line) = refl

module _ (d : Domain) (judged : List paper.Judged) (lines : ℕ) (t : List Line) (later : List (List Line)) where
  abbrev reported : List ℕ
  reported = reported_after d judged (sheets_from d.agents (length judged) lines (t ∷ later))

  too_many : most_sheets ≤ length judged → reported ≡ refused_text 19 (suc lines)
  unfolding sheets_from
  too_many h = rw (le-ltb (length judged) most_sheets h)

  module _ (h : length judged < most_sheets) where
    too_long : most_input < text_size t → reported ≡ refused_text 18 0
    unfolding sheets_from
    too_long g = rw (lt-ltb (length judged) most_sheets h, lt-leb (text_size t) most_input g)

    module _ (g : text_size t ≤ most_input) where
      turned : {n line : ℕ} → steps_from d.agents [] (map decode t) ≡ refused_at n line → reported ≡ refused_text n (suc lines + line)
      unfolding sheets_from
      turned e = rw (lt-ltb (length judged) most_sheets h, le-leb (text_size t) most_input g, e)

      judged_on : (steps : List Names) → steps_from d.agents [] (map decode t) ≡ read steps
          → reported ≡ reported_after d (judged ++ (judge d steps ∷ [])) (sheets_from d.agents (length (judged ++ (judge d steps ∷ []))) (suc lines + length t) later)
      unfolding sheets_from
      judged_on steps e =
          rw (lt-ltb (length judged) most_sheets h, le-leb (text_size t) most_input g, e)
          (report_more d judged steps (sheets_from d.agents (suc (length judged)) (suc lines + length t) later)
          ∙ ap (λ n. reported_after d (judged ++ (judge d steps ∷ [])) (sheets_from d.agents n (suc lines + length t) later)) (sym (length-append judged (judge d steps ∷ []) ∙ add-one (length judged))))

-- ---- the sheet at a place of the input

module _ (d : Domain) (input : List ℕ) (judged : List paper.Judged) (at lines : ℕ) (begins : starts_with sheet_begins (drop at input) ≡ true) where
  -- the lines after its B000 line
  abbrev after_line : List Line
  after_line = lines_of (drop (at + 5) input)

  begun_here : report_from d judged lines (lines_of (drop at input)) ≡ reported_after d judged (sheets_from d.agents (length judged) lines ((texts_of after_line).domain ∷ (texts_of after_line).sheets))
  begun_here =
      ap (λ (ls : List Line). report_from d judged lines ls) (begun (drop at input) begins)
      ∙ ap (λ (s : List ℕ). reported_after d judged (sheets_from d.agents (length judged) lines ((texts_of (lines_of s)).domain ∷ (texts_of (lines_of s)).sheets))) (drop-drop 5 at input)

  pub one_too_many : most_sheets ≤ length judged → report_from d judged lines (lines_of (drop at input)) ≡ refused_text 19 (lines + 1)
  one_too_many h = begun_here ∙ too_many d judged lines (texts_of after_line).domain (texts_of after_line).sheets h ∙ ap (refused_text 19) (sym (add-one lines))

module _ (d : Domain) (input : List ℕ) (judged : List paper.Judged) (at lines : ℕ) (begins : starts_with sheet_begins (drop at input) ≡ true)
    {rest : List ℕ} {size count : ℕ} (e : rest ≡ drop (at + 5) input) (cut : CutIn sheet_begins rest size count) where
  -- its text, and those after it
  abbrev sheet_text : List ℕ
  sheet_text = take size rest

  abbrev later_texts : List (List Line)
  later_texts = sheet_texts (lines_of (drop (at + 5 + size) input))

  here : report_from d judged lines (lines_of (drop at input)) ≡ reported_after d judged (sheets_from d.agents (length judged) lines (lines_of sheet_text ∷ later_texts))
  here =
      begun_here d input judged at lines begins
      ∙ ap (λ (s : List ℕ). reported_after d judged (sheets_from d.agents (length judged) lines ((texts_of (lines_of s)).domain ∷ (texts_of (lines_of s)).sheets))) (sym e)
      ∙ ap (λ (t : List Line). reported_after d judged (sheets_from d.agents (length judged) lines (t ∷ (texts_of (lines_of rest)).sheets))) (domain_lines (lines_of rest) ∙ sym cut.before)
      ∙ ap (λ (ts : List (List Line)). reported_after d judged (sheets_from d.agents (length judged) lines (lines_of sheet_text ∷ ts)))
      (sheets_lines (lines_of rest) ∙ ap sheet_texts (sym cut.from ∙ ap (λ (s : List ℕ). lines_of (drop size s)) e ∙ ap lines_of (drop-drop size (at + 5) input)))

  size_is : text_size (lines_of sheet_text) ≡ size
  size_is = ap length (lines_text sheet_text) ∙ length-take-le size rest cut.within

  lines_are : length (lines_of sheet_text) ≡ count
  lines_are = ap length cut.before ∙ sym cut.count

  module _ (h : length judged < most_sheets) where
    pub text_too_long : most_input < size → report_from d judged lines (lines_of (drop at input)) ≡ refused_text 18 0
    text_too_long g = here ∙ too_long d judged lines (lines_of sheet_text) later_texts h (omega (arith, size_is))

    module _ (g : size ≤ most_input) {s : List ℕ} (f : s ≡ sheet_text) where
      pub text_turned : {n line : ℕ} → outcome d.agents s ≡ refused_at n line → report_from d judged lines (lines_of (drop at input)) ≡ refused_text n (lines + 1 + line)
      text_turned {n} {line} o =
          here ∙ turned d judged lines (lines_of sheet_text) later_texts h (omega (arith, size_is)) (ap (outcome d.agents) (sym f) ∙ o)
          ∙ ap (λ (k : ℕ). refused_text n (k + line)) (sym (add-one lines))

      pub text_judged : (steps : List Names) → outcome d.agents s ≡ read steps
          → report_from d judged lines (lines_of (drop at input)) ≡ report_from d (judged ++ (judge d steps ∷ [])) (lines + 1 + count) (lines_of (drop (at + 5 + size) input))
      text_judged steps o =
          here ∙ judged_on d judged lines (lines_of sheet_text) later_texts h (omega (arith, size_is)) steps (ap (outcome d.agents) (sym f) ∙ o)
          ∙ ap (λ (k : ℕ). reported_after d (judged ++ (judge d steps ∷ [])) (sheets_from d.agents (length (judged ++ (judge d steps ∷ []))) k later_texts)) (ap (λ (n : ℕ). n + length (lines_of sheet_text)) (sym (add-one lines)) ∙ ap (λ (n : ℕ). lines + 1 + n) lines_are)

-- ---- what is kept

-- each sheet is accepted or broken
both_kinds : (judged : List paper.Judged) → length (those accepts judged) + length (those breaks judged) ≡ length judged
unfolding those
both_kinds [] = refl
both_kinds (j ∷ judged) = go (accepts j) (both_kinds judged)
  where
    go : (b : Bool) → length (those accepts judged) + length (those breaks judged) ≡ length judged
        → length (if_else {A = List paper.Judged} b (j ∷ those accepts judged) (those accepts judged)) + length (if_else {A = List paper.Judged} (not b) (j ∷ those breaks judged) (those breaks judged)) ≡ suc (length judged)
    go true e = omega (arith, e)
    go false e = omega (arith, e)

-- the levels kept stay; what was written after them is left or taken
module _ (w n : ℕ) (levels x : List ℤ) (h : n * w ≤ length levels) where
  rows_stay : rows w n (take (n * w) levels ++ x) ≡ rows w n levels
  rows_stay = rows_alike w n (take (n * w) levels) x (drop (n * w) levels) (length-take-le (n * w) levels h) ∙ ap (rows w n) (take-append-drop (n * w) levels)

  rows_taken : (k : ℕ) → rows w (n + k) (take (n * w) levels ++ x) ≡ rows w n levels ++ rows w k x
  rows_taken k = rows_after w n k (take (n * w) levels) x (length-take-le (n * w) levels h) ∙ ap (λ (r : List (List ℤ)). r ++ rows w k x) rows_stay

states_more : (judged : List paper.Judged) (j : paper.Judged) → accepts j ≡ true → states_of (judged ++ (j ∷ [])) ≡ states_of judged ++ j.states
states_more judged j e =
    ap (λ (l : List paper.Judged). flat (map (λ (i : paper.Judged). i.states) l)) (one_in accepts judged j e)
    ∙ ap flat (map-append (λ (i : paper.Judged). i.states) (those accepts judged) (j ∷ []))
    ∙ flat_one (map (λ (i : paper.Judged). i.states) (those accepts judged)) j.states

-- a sheet more: its states are taken, or what was written of them is passed over
module _ (d : Domain) (width : ℕ) (judged : List paper.Judged) (m : Morning) {levels : List ℤ} (at lines : ℕ) (kept : Kept width judged m levels) (fits : m.states * width ≤ length levels) {sheet : Reading (List Names)} where
  pub kept_accepted : {entry left : List ℤ} (post : List ℤ) {k : ℕ} → width ≡ length d.fluents → (x : Accepts d sheet entry k left)
      → Kept width (judged ++ (judge d x.steps ∷ [])) (record { at = at; lines = lines; accepted = m.accepted + 1; broken = m.broken; states = m.states + k }) (take (m.states * width) levels ++ (left ++ post))
  kept_accepted {entry} {left} post {k} e x =
      let j : paper.Judged = judge d x.steps in
      let r : Rows width j.states = subst (λ (n : ℕ). Rows n j.states) (sym e) (judge_whole d x.steps) in
      let after : List ℤ = drop (length (flat j.states)) entry in
      let taken : rows width k (left ++ post) ≡ j.states =
      ap (λ (n : ℕ). rows width n (left ++ post)) x.count ∙ ap (λ (l : List ℤ). rows width (length j.states) (l ++ post)) x.levels_are
      ∙ ap (rows width (length j.states)) (append_assoc (flat j.states) after post) ∙ rows_front width (after ++ post) r in
      record {
        accepted = ap (λ (n : ℕ). n + 1) kept.accepted ∙ sym (ap length (one_in accepts judged j x.verdict) ∙ length-append (those accepts judged) (j ∷ []));
        broken = kept.broken ∙ sym (ap length (one_out breaks judged j (ap not x.verdict)));
        states =
            rows_taken width m.states levels (left ++ post) fits k ∙ ap (λ (l : List State). l ++ rows width k (left ++ post)) kept.states
            ∙ ap (λ (l : List State). states_of judged ++ l) taken ∙ sym (states_more judged j x.verdict);
      }

  pub kept_broken : (after : List ℤ) (x : Breaks d sheet)
      → Kept width (judged ++ (judge d x.steps ∷ [])) (record { at = at; lines = lines; accepted = m.accepted; broken = m.broken + 1; states = m.states }) (take (m.states * width) levels ++ after)
  kept_broken after x =
      let j : paper.Judged = judge d x.steps in
      record {
        accepted = kept.accepted ∙ sym (ap length (one_out accepts judged j x.verdict));
        broken = ap (λ (n : ℕ). n + 1) kept.broken ∙ sym (ap length (one_in breaks judged j (ap not x.verdict)) ∙ length-append (those breaks judged) (j ∷ []));
        states = rows_stay width m.states levels after fits ∙ kept.states ∙ sym (ap (λ (l : List paper.Judged). flat (map (λ (i : paper.Judged). i.states) l)) (one_out accepts judged j x.verdict));
      }

-- ---- the places and sizes of the next sheet

module _ {input : List ℕ} {m : Morning} (u : Underway input m) (h : m.at < length input) where
  -- its B000 line is within the input
  pub begins_within : m.at + 5 ≤ length input
  unfolding text
  begins_within = omega (arith, length-drop m.at input, ap length (word_first sheet_begins (drop m.at input) (u.begins h)))

  module _ {rest : List ℕ} {size count : ℕ} (e : rest ≡ drop (m.at + 5) input) (cut : CutIn sheet_begins rest size count) where
    -- and so is its text
    pub text_within : m.at + 5 + size ≤ length input
    text_within = omega (arith, begins_within, cut.within, ap length e, length-drop (m.at + 5) input)

    -- the report goes on after it
    pub next_place : {accepted broken states : ℕ} → accepted + broken ≤ most_sheets → states ≤ (accepted + broken) * 65
        → Underway input (record { at = m.at + 5 + size; lines = m.lines + 1 + count; accepted = accepted; broken = broken; states = states })
    next_place f g = record {
      within = text_within;
      begins = λ k.
          ap (starts_with sheet_begins) (sym (ap (drop size) e ∙ drop-drop size (m.at + 5) input))
          ∙ cut.stands (omega (arith, ap length e, length-drop (m.at + 5) input, begins_within));
      lines = omega (arith, u.lines, lines_small cut, cut.count, ap length cut.before, lines_most (take size rest), length-take-le size rest cut.within);
      sheets = f;
      few = g;
    }

-- the states kept lie within the levels, and one sheet more has room after them
module _ {input : List ℕ} {m : Morning} (u : Underway input m) (h : m.accepted + m.broken < most_sheets) {width : ℕ} (few : width ≤ most_fluents) where
  pub kept_most : m.states * width ≤ 81_120
  kept_most = product_most m.states width {most = 2_535} {width = 32} (omega (arith, u.few, u.sheets)) few refl

-- the input from a place on, as it is lent
pub lent_rest : (input : List ℕ) (at : ℕ) → take (length input - at) (drop at input) ≡ drop at input
lent_rest input at = take_all (length input - at) (drop at input) (omega (arith, length-drop at input))

-- the number of sheets is that of those judged
pub sheets_are : {width : ℕ} {judged : List paper.Judged} {m : Morning} {levels : List ℤ} → Kept width judged m levels → m.accepted + m.broken ≡ length judged
sheets_are {judged = judged} k = omega (arith, k.accepted, k.broken, both_kinds judged)

-- and the levels from a place on
pub lent_levels : (levels : List ℤ) (at : ℕ) → length (take (length levels - at) (drop at levels)) ≡ length levels - at
lent_levels levels at = ap length (take_all (length levels - at) (drop at levels) (omega (arith, length-drop at levels))) ∙ length-drop at levels

pub lent_text : (input : List ℕ) (from size : ℕ) → take (from + size - from) (drop from input) ≡ take size (take (length input - from) (drop from input))
lent_text input from size = ap (λ (n : ℕ). take n (drop from input)) (let e : from + size - from ≡ size = omega arith in e) ∙ ap (take size) (sym (lent_rest input from))

-- ---- the whole report

-- before the first sheet
pub nothing_judged : {width : ℕ} {m : Morning} {levels : List ℤ} → m.accepted ≡ 0 → m.broken ≡ 0 → m.states ≡ 0 → Kept width [] m levels
unfolding those rows flat
nothing_judged {width} {m} {levels} a b c = record { accepted = a; broken = b; states = ap (λ (n : ℕ). rows width n levels) c }

pub first_place : {input : List ℕ} {at lines : ℕ} → CutIn sheet_begins input at lines → Underway input (record { at = at; lines = lines; accepted = 0; broken = 0; states = 0 })
first_place {input} {at} cut = record {
  within = cut.within;
  begins = cut.stands;
  lines = omega (arith, cut.count, ap length cut.before, lines_most (take at input), length-take-le at input cut.within);
  sheets = omega arith;
  few = omega arith;
}

-- no sheet is accepted: no state
none_accepted : (judged : List paper.Judged) → any accepts judged ≡ false → those accepts judged ≡ []
unfolding any those
none_accepted [] e = refl
none_accepted (j ∷ judged) e = go (accepts j) (none_accepted judged) e
  where
    go : (b : Bool) → (any accepts judged ≡ false → those accepts judged ≡ []) → either b (any accepts judged) ≡ false → if_else {A = List paper.Judged} b (j ∷ those accepts judged) (those accepts judged) ≡ []
    go true f e = absurd (let z : ◌≡◌ {A = ℕ} 0 1 = cc in omega arith)
    go false f e = f e

figures_if : (n : ℕ) (judged : List paper.Judged) → if_else (any accepts judged) (figures_lines n (states_of judged)) [] ≡ figures_lines n (states_of judged)
unfolding flat
figures_if n judged = go (any accepts judged) refl
  where
    go : (b : Bool) → any accepts judged ≡ b → if_else b (figures_lines n (states_of judged)) [] ≡ figures_lines n (states_of judged)
    go true e = refl
    go false e = lines_none n ∙ ap (λ (l : List paper.Judged). figures_lines n (flat (map (λ (i : paper.Judged). i.states) l))) (sym (none_accepted judged e))

module _ (d : Domain) (width : ℕ) (judged : List paper.Judged) (m : Morning) (input : List ℕ) {levels : List ℤ} (kept : Kept width judged m levels) (are : width ≡ length d.fluents) where
  -- the input is at its end
  pub report_ends : length input ≤ m.at → {one two three : Text} {t : List ℕ} → t ≡ report_from d judged m.lines (lines_of (drop m.at input))
      → Put one (line_of (text "SHEETS") (decimal m.accepted ∷ decimal m.broken ∷ [])) two → Put two (figures_lines width (rows width m.states levels)) three → Put one t three
  unfolding lines_of sheets_from
  report_ends h {one} {two} {three} {t} e x y =
      let sheets : Put one (sheets_line judged) two = subst (λ (n : ℕ). Put one (line_of (text "SHEETS") (decimal (length (those accepts judged)) ∷ decimal n ∷ [])) two) kept.broken (subst (λ (n : ℕ). Put one (line_of (text "SHEETS") (decimal n ∷ decimal m.broken ∷ [])) two) kept.accepted x) in
      let figures : Put two (if_else (any accepts judged) (figures_lines (length d.fluents) (states_of judged)) []) three =
      subst (λ (t : List ℕ). Put two t three) (ap (λ (w : ℕ). figures_lines w (rows width m.states levels)) are ∙ ap (figures_lines (length d.fluents)) kept.states ∙ sym (figures_if (length d.fluents) judged)) y in
      let is : report_text d judged ≡ t = ap (report_text d) (sym (append-nil judged)) ∙ ap (λ (s : List ℕ). report_from d judged m.lines (lines_of s)) (sym (drop_of_length-le input h)) ∙ sym e in
      subst (λ (r : List ℕ). Put one r three) is (put_then sheets figures)

-- the states kept are no more than a report has
module _ {input : List ℕ} {m : Morning} (u : Underway input m) where
  pub states_few : m.states ≤ most_states
  states_few = omega (arith, u.few, u.sheets)

-- no sheet is judged yet
reported_first : (d : Domain) (r : Reading (List (List Names))) → reported_by d r ≡ reported_after d [] r
reported_first d (read sheets) = refl
reported_first d (refused_at n line) = refl

module _ (input : List ℕ) {at lines : ℕ} (cut : CutIn sheet_begins input at lines) where
  -- the domain's text
  domain_is : (texts_of (lines_of input)).domain ≡ lines_of (take at input)
  domain_is = domain_lines (lines_of input) ∙ sym cut.before

  domain_size : text_size (texts_of (lines_of input)).domain ≡ at
  domain_size = ap text_size domain_is ∙ ap length (lines_text (take at input)) ∙ length-take-le at input cut.within

  pub long_domain : most_input < at → report input ≡ refused_text 18 0
  unfolding report
  long_domain h = rw (lt-leb (text_size (texts_of (lines_of input)).domain) most_input (omega (arith, domain_size)))

  module _ (short : at ≤ most_input) where
    report_is : report input ≡ reported_on (texts_of (lines_of input)) (reading (take at input))
    unfolding report
    report_is =
        rw (le-leb (text_size (texts_of (lines_of input)).domain) most_input (omega (arith, domain_size)))
        (ap (λ (ls : List Line). reported_on (texts_of (lines_of input)) (taken (map decode ls))) domain_is)

    sheets_from_lem : (d : Domain) → reading (take at input) ≡ read d → report input ≡ report_from d [] lines (lines_of (drop at input))
    sheets_from_lem d e =
        report_is ∙ ap (reported_on (texts_of (lines_of input))) e ∙ reported_first d (sheets_from d.agents 0 (length (texts_of (lines_of input)).domain) (texts_of (lines_of input)).sheets)
        ∙ ap (λ (n : ℕ). reported_after d [] (sheets_from d.agents 0 n (texts_of (lines_of input)).sheets)) (ap length (domain_lines (lines_of input)) ∙ sym cut.count)
        ∙ ap (λ (ts : List (List Line)). reported_after d [] (sheets_from d.agents 0 lines ts)) (sheets_lines (lines_of input) ∙ ap sheet_texts (sym cut.from))

    module _ (store : List ℕ) {after : List ℕ} (r : Result ReadFound ReadError) (told : domains.FoundRead (take at input) store r after) where
      pub domain_turned : length store ≡ store_size → (e : ReadError) → r ≡ Err e → report input ≡ refused_text (number_of e.refusal) e.line
      domain_turned size e is = report_is ∙ ap (reported_on (texts_of (lines_of input))) (domain_refused (take at input) store (domains.used_of r) told.answer size e (ap domains.used_of is))

      pub report_read : (put : Result (Unit {0}) ReadError) (one two : Text) {u : Under} (f : ReadFound) → u ≡ under_in after [] → r ≡ Ok f
          → ((d : Domain) (s : List Replacement) → Speaks after [] u d s → PutOr one (report_from (replaced s d) [] lines (lines_of (drop at input))) put two)
          → PutOr one (report input) put two
      report_read put one two f found e puts =
          let k = domain_kept (take at input) store (domains.used_of r) told.answer f.used (ap domains.used_of e) in
          let d = k.domain in
          let is : report input ≡ report_from (replaced [] d) [] lines (lines_of (drop at input)) =
          sheets_from_lem d k.reads ∙ ap (λ (x : Domain). report_from x [] lines (lines_of (drop at input))) (sym (empty_changes_nothing.laws d)) in
          subst (λ (t : List ℕ). PutOr one t put two) (sym is)
          (puts d [] (record { domain = ap domain_in told.buffer ∙ k.holds; accepted = empty_changes_nothing.accepted d 0; found = found }))
