use Rattle.std.proofs.Common.{◌≡◌, refl, arith, rules}
use Rattle.std.specs.Prelude.{Err}
use Rattle.bmap.specs.Plain.{text}
use Rattle.bmap.specs.Program.{low_water}
use Rattle.answer.specs.Cut.{CutTwice, feeds_last}
use Rattle.answer.proofs.PutLaws.{put_refused}
use Rattle.answer.proofs.LowWaterLaws.{long_low_water, low_water_refused, low_water_read}
use Rattle.answer.proofs.program.put_low_water.Goals as goal

pub returns-in_err-sheet : goal.returns-in_err-sheet
returns-in_err-sheet c =
    let is : c.from_residual.result ≡ Err c.in_err-sheet.field-0.0 = search rules in
    put_refused c.args.text.now (low_water c.args.input.now) _ (omega (arith, c.requires)) is (rw (c.in_err-sheet.ensures.1, c.in_err-sheet.ensures.2) (long_low_water c.args.input.now c.in_err-sheet.ensures.0))

pub line_starting-supplement-requires : goal.line_starting-supplement-requires
unfolding feeds_last
line_starting-supplement-requires c = search rules

pub returns-in_err-read : goal.returns-in_err-read
unfolding text
returns-in_err-read c =
    let cut : CutTwice c.args.input.now c.line_starting-supplement.result c.in_ok-sheet.sheet = record { short = c.in_ok-sheet.ensures.0; outer = c.in_ok-sheet.ensures.1; inner = c.line_starting-supplement.ensures } in
    let is : c.from_residual-in_err-read.result ≡ Err c.in_err-read.field-0.0 = search rules in
    put_refused c.args.text.now (low_water c.args.input.now) _ (omega (arith, c.requires)) is (low_water_refused cut _ c.read.result c.read.ensures.answer c.read.ensures.buffer refl _ c.in_err-read.was)

pub put_under-requires : goal.put_under-requires
unfolding text
put_under-requires c =
    let cut : CutTwice c.args.input.now c.line_starting-supplement.result c.in_ok-sheet.sheet = record { short = c.in_ok-sheet.ensures.0; outer = c.in_ok-sheet.ensures.1; inner = c.line_starting-supplement.ensures } in
    (cut, c.requires)

pub returns : goal.returns
unfolding text
returns c =
    let cut : CutTwice c.args.input.now c.line_starting-supplement.result c.in_ok-sheet.sheet = record { short = c.in_ok-sheet.ensures.0; outer = c.in_ok-sheet.ensures.1; inner = c.line_starting-supplement.ensures } in
    low_water_read cut _ c.read.result c.read.ensures.answer c.read.ensures.buffer c.put_under.result c.args.text.now c.put_under.new.text _ c.in_ok-read.was c.put_under.ensures
