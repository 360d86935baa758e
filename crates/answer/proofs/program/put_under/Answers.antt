use Rattle.std.proofs.Common.{refl, arith}
use Rattle.answer.proofs.PutLaws.{put_nothing}
use Rattle.answer.proofs.ProgramLaws.{rest_small, few_found}
use Rattle.answer.proofs.LowWaterLaws.{supplement_line, supplement_small, lines_few, found_under, under_refused, under_read}
use Rattle.answer.proofs.program.put_under.Goals as goal

pub put_sheet-requires : goal.put_sheet-requires
put_sheet-requires c =
    (((lines_few c.requires.0).1, rest_small c.args.input.now c.args.sheet.at c.requires.0.short, c.requires.1), few_found _ _ (found_under c.read_under-reading.result c.read_under-reading.ensures c.in-Ok.is))

pub after-requires : goal.after-requires
after-requires c = omega (arith, supplement_line _ _ _ c.read_under-reading.result c.read_under-reading.ensures refl _ c.in-Err.is, supplement_small c.requires.0, lines_few c.requires.0)

pub returns-in-Ok : goal.returns-in-Ok
returns-in-Ok c = λ d domain.
    under_read c.requires.0 _ _ c.read_under-reading.result c.read_under-reading.ensures refl d domain c.put_sheet.result c.args.text.now c.put_sheet.new.text _ (found_under c.read_under-reading.result c.read_under-reading.ensures c.in-Ok.is) c.in-Ok.is c.put_sheet.ensures

pub returns-in-Err : goal.returns-in-Err
returns-in-Err c = λ d domain. rw c.after.ensures (under_refused c.requires.0 _ _ c.read_under-reading.result c.read_under-reading.ensures refl d domain _ c.in-Err.is, put_nothing _ (omega (arith, c.requires.1)))
