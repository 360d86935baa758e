use Rattle.std.proofs.Common.{arith}
use Rattle.answer.proofs.PutLaws.{length_below, put_space}
use Rattle.answer.proofs.print.Text.number.Goals as goal

pub digits-requires : goal.digits-requires
digits-requires c = omega (arith, length_below 19 c.args.n (omega arith))

pub returns : goal.returns
returns c = record { put = put_space c.byte.ensures c.digits.ensures; upper_bound = omega (arith, length_below 19 c.args.n (omega arith)) }
