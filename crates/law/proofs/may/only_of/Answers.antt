use native.Mathlib.Omega.{arith}
use Rattle.law.proofs.MayLaws.{asks_mask}
use Rattle.law.proofs.may.only_of.Goals as goal

pub returns : goal.returns
returns c = asks_mask c.args.mask c.word.result (omega arith) c.word.ensures
