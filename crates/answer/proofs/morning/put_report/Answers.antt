use Rattle.std.proofs.Common.{◌≡◌, [], refl, ◌∙◌, arith, rules}
use Rattle.std.specs.Prelude.{Err}
use Rattle.bmap.specs.Plain.{text}
use Rattle.bmap.specs.Report as program
use Rattle.bmap.specs.Report.{sheet_begins}
use Rattle.supplement.specs.Under.{under_in}
use Rattle.answer.specs.Cut.{CutIn, feeds_last}
use Rattle.answer.proofs.PutLaws.{put_nothing, put_refused}
use Rattle.answer.proofs.ProgramLaws.{few_found, found_alone}
use Rattle.answer.proofs.MorningLaws as laws
use Rattle.answer.proofs.morning.put_report.Goals as goal

pub line_starting-first-requires : goal.line_starting-first-requires
unfolding feeds_last
line_starting-first-requires c = search rules

pub returns-then-at-gt-INPUT : goal.returns-then-at-gt-INPUT
unfolding text
returns-then-at-gt-INPUT c =
    let cut : CutIn sheet_begins c.args.input.now c.line_starting-first.result.at c.line_starting-first.result.lines = c.line_starting-first.ensures in
    (laws.long_domain _ cut c.if-at-gt-INPUT.true, put_nothing _ (omega (arith, c.requires)))

pub returns-in_err-found : goal.returns-in_err-found
unfolding text
returns-in_err-found c =
    let cut : CutIn sheet_begins c.args.input.now c.line_starting-first.result.at c.line_starting-first.result.lines = c.line_starting-first.ensures in
    let is : c.from_residual.result ≡ Err c.in_err-found.field-0.0 = search rules in
    put_refused c.args.text.now (program.report c.args.input.now) _ (omega (arith, c.requires)) is (laws.domain_turned _ cut c.if-at-gt-INPUT.false _ c.read_found.result c.read_found.ensures refl _ c.in_err-found.was)

pub put_morning-requires : goal.put_morning-requires
unfolding text
put_morning-requires c =
    let found : c.alone.result ≡ under_in c.read_found.new.store [] = c.alone.ensures ∙ found_alone c.read_found.result c.read_found.ensures c.in_ok-found.found c.in_ok-found.was in
    record { few = few_found _ _ found; cut = c.line_starting-first.ensures; room = c.requires }

pub returns : goal.returns
unfolding text
returns c =
    let cut : CutIn sheet_begins c.args.input.now c.line_starting-first.result.at c.line_starting-first.result.lines = c.line_starting-first.ensures in
    let found : c.alone.result ≡ under_in c.read_found.new.store [] = c.alone.ensures ∙ found_alone c.read_found.result c.read_found.ensures c.in_ok-found.found c.in_ok-found.was in
    laws.report_read _ cut c.if-at-gt-INPUT.false _ c.read_found.result c.read_found.ensures c.put_morning.result c.args.text.now c.put_morning.new.text c.in_ok-found.found found c.in_ok-found.was c.put_morning.ensures
