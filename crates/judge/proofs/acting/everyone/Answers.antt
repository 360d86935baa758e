use native.Mathlib.Omega.{arith}
use Rattle.judge.proofs.MaskLaws.{limit_is}
use Rattle.judge.proofs.NamingLaws.{everyone_is}
use Rattle.judge.proofs.acting.everyone.Goals as goal

pub returns : goal.returns
returns c = omega (arith, limit_is c.args.n c.requires, everyone_is 0 c.args.n)
