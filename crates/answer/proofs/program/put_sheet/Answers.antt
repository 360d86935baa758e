use Rattle.std.proofs.Common.{refl, sym, arith, length-take-le}
use Rattle.answer.proofs.PutLaws.{put_nothing}
use Rattle.answer.proofs.ProgramLaws.{counts_speak, line_small, used_most, sheet_refused, sheet_judged}
use Rattle.answer.proofs.program.put_sheet.Goals as goal

pub overflow_mul-names : goal.overflow_mul-names
overflow_mul-names c = omega (arith, used_most c.args.store.now _ c.requires.1 _ _ c.read.result c.read.ensures.answer c.read.ensures.buffer refl _ c.in-Ok.is)

pub slice_bounds-names-end : goal.slice_bounds-names-end
slice_bounds-names-end c = omega (arith, used_most c.args.store.now _ c.requires.1 _ _ c.read.result c.read.ensures.answer c.read.ensures.buffer refl _ c.in-Ok.is)

pub slice_bounds-put_judged-end : goal.slice_bounds-put_judged-end
slice_bounds-put_judged-end c = sym (length-take-le _ _ (omega (arith, used_most c.args.store.now _ c.requires.1 _ _ c.read.result c.read.ensures.answer c.read.ensures.buffer refl _ c.in-Ok.is)))

pub after-requires : goal.after-requires
after-requires c = omega (arith, line_small c.args.store.now _ c.requires.1 _ _ c.read.result c.read.ensures.answer c.read.ensures.buffer refl _ c.in-Err.is, c.requires.0.0, c.requires.0.1)

pub returns-in-Ok : goal.returns-in-Ok
returns-in-Ok c = λ d s k. sheet_judged c.args.store.now _ c.requires.1 _ _ c.read.result c.read.ensures.answer c.read.ensures.buffer refl d k.domain (counts_speak k) _ s _ c.in-Ok.is (λ steps. c.put_judged.ensures d s steps k)

pub returns-in-Err : goal.returns-in-Err
returns-in-Err c = λ d s k. rw c.after.ensures (sheet_refused c.args.store.now _ c.requires.1 _ _ c.read.result c.read.ensures.answer c.read.ensures.buffer refl d k.domain (counts_speak k) _ s _ c.in-Err.is, put_nothing _ (omega (arith, c.requires.0.2)))
