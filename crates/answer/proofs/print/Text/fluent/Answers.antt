use Rattle.std.proofs.Common.{arith, rules, FitsSigned, w64}
use Rattle.std.proofs.lemmas.Int.{to_z-of_z}
use Rattle.answer.proofs.PutLaws.{signed_short}
use Rattle.answer.proofs.FiguresLaws.{put_figures_line}
use Rattle.answer.proofs.print.Text.fluent.Goals as goal

pub signed-requires : goal.signed-requires
signed-requires c =
    let fits : FitsSigned w64 c.args.figures.lowest = search rules in
    rw (to_z-of_z w64 c.args.figures.lowest fits) (omega (arith, signed_short c.args.figures.lowest fits))

pub signed-requires-2 : goal.signed-requires-2
signed-requires-2 c =
    let fits : FitsSigned w64 c.args.figures.highest = search rules in
    rw (to_z-of_z w64 c.args.figures.highest fits) (omega (arith, signed_short c.args.figures.highest fits))

pub signed-requires-3 : goal.signed-requires-3
signed-requires-3 c =
    let fits : FitsSigned w64 c.args.figures.sum = search rules in
    rw (to_z-of_z w64 c.args.figures.sum fits) (omega (arith, signed_short c.args.figures.sum fits))

pub returns-clause-put : goal.returns-clause-put
returns-clause-put c = λ values figures.
    let lowest : FitsSigned w64 c.args.figures.lowest = search rules in
    let highest : FitsSigned w64 c.args.figures.highest = search rules in
    let sum : FitsSigned w64 c.args.figures.sum = search rules in
    put_figures_line c.args.fluent c.args.figures values figures c.byte.ensures c.number.ensures.put
    (rw (to_z-of_z w64 _ lowest) at c.signed.ensures.put) (rw (to_z-of_z w64 _ highest) at c.signed-2.ensures.put) (rw (to_z-of_z w64 _ sum) at c.signed-3.ensures.put)
    c.number-2.ensures.put c.byte-2.ensures
