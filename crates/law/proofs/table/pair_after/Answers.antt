use native.Mathlib.Omega.{arith}
use Rattle.law.proofs.Trees.{pair_short}
use Rattle.law.proofs.table.pair_after.Goals as goal

pub returns-then-saturating_sub-lt3 : goal.returns-then-saturating_sub-lt3
returns-then-saturating_sub-lt3 c = pair_short c.args.s.now c.args.at (omega arith)
