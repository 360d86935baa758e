use Prim.Native.Nat.{ℕ, ◌+◌, ◌-◌, ◌*◌, ◌≤◌, ◌<◌}
use mathlib.Core.Path.{◌≡◌, ap}
use mathlib.Core.List.{List, [], ◌∷◌, ◌++◌}
use native.Mathlib.Omega.{arith}
use lib.IntN.{ℤ}
use lib.ListN.{length, take, drop}
use lib.Seq.{length-take-le}
use Rattle.bmap.specs.Plain.{text}
use Rattle.bmap.specs.Line.{lines_of}
use Rattle.bmap.specs.Limits.{most_input, most_sheets, most_fluents}
use Rattle.bmap.specs.Refusal.{read}
use Rattle.bmap.specs.declared.limits.Counts.{Counts}
use Rattle.bmap.specs.Domain.{Domain, Names}
use Rattle.bmap.specs.Judge.{Judged, judge}
use Rattle.bmap.specs.Supplement.{replaced}
use Rattle.bmap.specs.Report.{sheet_begins}
use Rattle.answer.specs.Cut.{CutIn, feeds_last}
use Rattle.answer.specs.declared.morning.Morning.{Morning}
use Rattle.answer.specs.Morning.{Underway, Kept, report_from}
use Rattle.sheet.specs.Step.{outcome}
use Rattle.answer.proofs.ProgramLaws.{counts_speak}
use Rattle.answer.proofs.MorningLaws as laws
use Rattle.answer.proofs.morning.next_sheet.Goals as goal

-- fewer sheets than the most, whose levels one sheet more has room after
module _ {input : List ℕ} {m : Morning} (u : Underway input m) (f : m.accepted + m.broken ≡ 40 → ⊥) where
  fewer : m.accepted + m.broken < most_sheets
  fewer = omega (arith, u.sheets, f)

  most : {width : ℕ} → width ≤ most_fluents → m.states * width ≤ 81_120
  most few = laws.kept_most u fewer few

-- the sheet's text, where it was found
abbrev rest_of : List ℕ → Morning → List ℕ
rest_of input m = take (length input - (m.at + 5)) (drop (m.at + 5) input)

abbrev text_of : List ℕ → Morning → ℕ → List ℕ
text_of input m size = take (m.at + 5 + size - (m.at + 5)) (drop (m.at + 5) input)

module _ {input : List ℕ} {m : Morning} (u : Underway input m) (h : m.at < length input) {size count : ℕ} (cut : CutIn sheet_begins (rest_of input m) size count) where
  within : m.at + 5 + size ≤ length input
  within = laws.text_within u h (laws.lent_rest input (m.at + 5)) cut

  -- the place after it
  place : {accepted broken states : ℕ} → accepted + broken ≤ most_sheets → states ≤ (accepted + broken) * 65
      → Underway input (record { at = m.at + 5 + size; lines = m.lines + 1 + count; accepted = accepted; broken = broken; states = states })
  place f g = laws.next_place u h (laws.lent_rest input (m.at + 5)) cut f g

  next : Underway input (record { at = m.at + 5 + size; lines = m.lines + 1 + count; accepted = 0; broken = 0; states = 0 })
  next = place (omega arith) (omega arith)

  text_size : length (text_of input m size) ≤ size
  text_size = omega (arith, ap length (laws.lent_text input (m.at + 5) size), length-take-le size (rest_of input m) cut.within)

  -- one sheet more is judged
  report_goes : (m.accepted + m.broken ≡ 40 → ⊥) → size ≤ most_input → (d : Domain) (judged : List Judged) {width : ℕ} {levels : List ℤ} → Kept width judged m levels → (steps : List Names) → outcome d.agents (text_of input m size) ≡ read steps
      → report_from d judged m.lines (lines_of (drop m.at input)) ≡ report_from d (judged ++ (judge d steps ∷ [])) (m.lines + 1 + count) (lines_of (drop (m.at + 5 + size) input))
  report_goes f short d judged kept steps e =
      laws.text_judged d input judged m.at m.lines (u.begins h) (laws.lent_rest input (m.at + 5)) cut (omega (arith, laws.sheets_are kept, fewer u f)) short (laws.lent_text input (m.at + 5) size) steps e

pub returns-then-m-eq-SHEETS : goal.returns-then-m-eq-SHEETS
returns-then-m-eq-SHEETS c = record {
  next_is = λ d s judged k kept. laws.one_too_many (replaced s d) c.args.input.now judged c.args.m.at c.args.m.lines (c.requires.underway.begins c.requires.begun) (omega (arith, laws.sheets_are kept, c.if-m-eq-SHEETS.true));
  next_underway = tt;
}

pub slice_bounds-line_starting-count : goal.slice_bounds-line_starting-count
slice_bounds-line_starting-count c = laws.begins_within c.requires.underway c.requires.begun

pub slice_bounds-line_starting-start : goal.slice_bounds-line_starting-start
slice_bounds-line_starting-start c = laws.begins_within c.requires.underway c.requires.begun

pub line_starting-cut-requires : goal.line_starting-cut-requires
unfolding feeds_last
line_starting-cut-requires c = tt

pub returns-then-cut-gt-INPUT : goal.returns-then-cut-gt-INPUT
unfolding text
returns-then-cut-gt-INPUT c =
    let cut : CutIn sheet_begins (rest_of c.args.input.now c.args.m) c.line_starting-cut.result.at c.line_starting-cut.result.lines = c.line_starting-cut.ensures in
    record {
      next_is = λ d s judged k kept.
          laws.text_too_long (replaced s d) c.args.input.now judged c.args.m.at c.args.m.lines (c.requires.underway.begins c.requires.begun) (laws.lent_rest c.args.input.now (c.args.m.at + 5)) cut (omega (arith, laws.sheets_are kept, fewer c.requires.underway c.if-m-eq-SHEETS.false)) c.if-cut-gt-INPUT.true;
      next_underway = tt;
    }

pub overflow_mul-kept : goal.overflow_mul-kept
overflow_mul-kept c = omega (arith, most c.requires.underway c.if-m-eq-SHEETS.false c.requires.few.fluents)

pub offset_bounds-levels-kept : goal.offset_bounds-levels-kept
offset_bounds-levels-kept c = omega (arith, most c.requires.underway c.if-m-eq-SHEETS.false c.requires.few.fluents)

pub slice_bounds-outcome_of-end-2 : goal.slice_bounds-outcome_of-end-2
unfolding text
slice_bounds-outcome_of-end-2 c = within c.requires.underway c.requires.begun c.line_starting-cut.ensures

pub slice_bounds-outcome_of-count-2 : goal.slice_bounds-outcome_of-count-2
slice_bounds-outcome_of-count-2 c = omega (arith, most c.requires.underway c.if-m-eq-SHEETS.false c.requires.few.fluents, c.requires.room)

pub outcome_of-requires : goal.outcome_of-requires
outcome_of-requires c =
    (c.requires.few, omega (arith, laws.lent_levels c.args.levels.now (c.args.m.states * c.args.under.index.counts.fluents), most c.requires.underway c.if-m-eq-SHEETS.false c.requires.few.fluents, c.requires.room))

pub overflow_add-next : goal.overflow_add-next
unfolding text
overflow_add-next c =
    let cut : CutIn sheet_begins (rest_of c.args.input.now c.args.m) c.line_starting-cut.result.at c.line_starting-cut.result.lines = c.line_starting-cut.ensures in
    omega (arith, (next c.requires.underway c.requires.begun cut).lines, within c.requires.underway c.requires.begun cut, c.well_formed)

pub returns-in-Ok-Some : goal.returns-in-Ok-Some
unfolding text replaced
returns-in-Ok-Some c =
    let cut : CutIn sheet_begins (rest_of c.args.input.now c.args.m) c.line_starting-cut.result.at c.line_starting-cut.result.lines = c.line_starting-cut.ensures in
    let fewer_here = fewer c.requires.underway c.if-m-eq-SHEETS.false in
    let came = laws.came_to _ c.in-Ok-Some.is c.in-Ok-Some.field-0-is in
    record {
      next_is = λ d s judged k kept.
          let x = laws.as_accepted (replaced s d) _ _ _ came (c.outcome_of.ensures.comes_to d s k) in
          record {
            sheet = judge (replaced s d) x.steps;
            kept = laws.kept_accepted (replaced s d) _ judged c.args.m _ _ kept (omega (arith, most c.requires.underway c.if-m-eq-SHEETS.false c.requires.few.fluents, c.requires.room)) _ (ap (λ (n : Counts). n.fluents) (counts_speak k)) x;
            report = report_goes c.requires.underway c.requires.begun cut c.if-m-eq-SHEETS.false c.if-cut-gt-INPUT.false (replaced s d) judged kept x.steps x.reads;
          };
      next_underway = (place c.requires.underway c.requires.begun cut (omega (arith, fewer_here)) (omega (arith, c.requires.underway.few, laws.modest_states _ came c.outcome_of.ensures.modest)), omega arith);
    }

pub returns-in-Ok-None : goal.returns-in-Ok-None
unfolding text
returns-in-Ok-None c =
    let cut : CutIn sheet_begins (rest_of c.args.input.now c.args.m) c.line_starting-cut.result.at c.line_starting-cut.result.lines = c.line_starting-cut.ensures in
    let fewer_here = fewer c.requires.underway c.if-m-eq-SHEETS.false in
    let came = laws.came_to _ c.in-Ok-None.is c.in-Ok-None.field-0-is in
    record {
      next_is = λ d s judged k kept.
          let x = laws.as_broken (replaced s d) _ _ _ came (c.outcome_of.ensures.comes_to d s k) in
          record {
            sheet = judge (replaced s d) x.steps;
            kept = laws.kept_broken (replaced s d) _ judged c.args.m _ _ kept (omega (arith, most c.requires.underway c.if-m-eq-SHEETS.false c.requires.few.fluents, c.requires.room)) _ x;
            report = report_goes c.requires.underway c.requires.begun cut c.if-m-eq-SHEETS.false c.if-cut-gt-INPUT.false (replaced s d) judged kept x.steps x.reads;
          };
      next_underway = (place c.requires.underway c.requires.begun cut (omega (arith, fewer_here)) (omega (arith, c.requires.underway.few)), omega arith);
    }

pub returns-in-Err-clause-next_is : goal.returns-in-Err-clause-next_is
unfolding text
returns-in-Err-clause-next_is c = λ d s judged k kept.
    let cut : CutIn sheet_begins (rest_of c.args.input.now c.args.m) c.line_starting-cut.result.at c.line_starting-cut.result.lines = c.line_starting-cut.ensures in
    rw c.after.ensures
    (laws.text_turned (replaced s d) c.args.input.now judged c.args.m.at c.args.m.lines (c.requires.underway.begins c.requires.begun) (laws.lent_rest c.args.input.now (c.args.m.at + 5)) cut (omega (arith, laws.sheets_are kept, fewer c.requires.underway c.if-m-eq-SHEETS.false)) c.if-cut-gt-INPUT.false
    (laws.lent_text c.args.input.now (c.args.m.at + 5) c.line_starting-cut.result.at) (c.in-Err.ensures.comes_to d s k))
