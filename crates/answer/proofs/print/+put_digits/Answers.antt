use Rattle.std.proofs.Common.{◌/◌, arith}
use Rattle.bmap.specs.Program.{decimal}
use Rattle.answer.proofs.PutLaws.{digits_one, digits_more, length_small, length_large, length_put}
use Rattle.answer.proofs.print.+put_digits.Goals as goal

pub bounds-out-at : goal.bounds-out-at
bounds-out-at t c = omega (arith, length_small _ c.if-n-lt10.true, c.requires)

pub returns-then-n-lt10 : goal.returns-then-n-lt10
returns-then-n-lt10 t c = record { place = omega (arith, length_small _ c.if-n-lt10.true); bytes = digits_one _ _ c.if-n-lt10.true }

pub put_digits-last-requires : goal.put_digits-last-requires
put_digits-last-requires t c = (omega arith, omega (arith, length_large _ c.if-n-lt10.false, c.requires))

pub bounds-out-last : goal.bounds-out-last
bounds-out-last t c = omega (arith, length_large _ c.if-n-lt10.false, length_put c.args.out.now (decimal (c.args.n / 10)) c.args.at c.put_digits-last.ensures.bytes, c.put_digits-last.ensures.place, c.requires)

pub overflow_add-result-2 : goal.overflow_add-result-2
overflow_add-result-2 t c = omega (arith, length_large _ c.if-n-lt10.false, length_put c.args.out.now (decimal (c.args.n / 10)) c.args.at c.put_digits-last.ensures.bytes, c.put_digits-last.ensures.place, c.requires)

pub returns : goal.returns
returns t c = record {
  place = omega (arith, length_large _ c.if-n-lt10.false, c.put_digits-last.ensures.place);
  bytes = digits_more _ _ _ c.if-n-lt10.false c.put_digits-last.ensures.place c.put_digits-last.ensures.bytes;
}
