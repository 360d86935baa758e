use Rattle.std.proofs.Common.{◌≡◌, [], refl, ◌∙◌, arith, rules}
use Rattle.std.specs.Prelude.{Err}
use Rattle.bmap.specs.Program.{output}
use Rattle.supplement.specs.Under.{under_in}
use Rattle.answer.proofs.PutLaws.{put_refused}
use Rattle.answer.proofs.ProgramLaws.{long_output, output_refused, output_read, lines_small, rest_small, few_found, found_alone}
use Rattle.answer.proofs.program.put_answer.Goals as goal

pub returns-in_err-sheet : goal.returns-in_err-sheet
returns-in_err-sheet c =
    let is : c.from_residual.result ≡ Err c.in_err-sheet.field-0.0 = search rules in
    put_refused c.args.text.now (output c.args.input.now) _ (omega (arith, c.requires)) is (rw (c.in_err-sheet.ensures.1, c.in_err-sheet.ensures.2) (long_output c.args.input.now c.in_err-sheet.ensures.0))

pub returns-in_err-found : goal.returns-in_err-found
returns-in_err-found c =
    let is : c.from_residual-in_err-found.result ≡ Err c.in_err-found.field-0.0 = search rules in
    put_refused c.args.text.now (output c.args.input.now) _ (omega (arith, c.requires)) is
    (output_refused c.args.input.now c.in_ok-sheet.ensures.0 c.in_ok-sheet.ensures.1 _ c.read_found.result c.read_found.ensures refl _ c.in_err-found.was)

pub put_sheet-requires : goal.put_sheet-requires
put_sheet-requires c =
    let found : c.alone.result ≡ under_in c.read_found.new.store [] = c.alone.ensures ∙ found_alone c.read_found.result c.read_found.ensures c.in_ok-found.found c.in_ok-found.was in
    ((omega (arith, lines_small c.in_ok-sheet.ensures.1, c.in_ok-sheet.ensures.0), rest_small c.args.input.now c.in_ok-sheet.sheet.at c.in_ok-sheet.ensures.0, c.requires), few_found _ _ found)

pub returns : goal.returns
returns c =
    let found : c.alone.result ≡ under_in c.read_found.new.store [] = c.alone.ensures ∙ found_alone c.read_found.result c.read_found.ensures c.in_ok-found.found c.in_ok-found.was in
    output_read c.args.input.now c.in_ok-sheet.ensures.0 c.in_ok-sheet.ensures.1 _ c.read_found.result c.read_found.ensures c.put_sheet.result c.args.text.now c.put_sheet.new.text c.in_ok-found.found found c.in_ok-found.was c.put_sheet.ensures
