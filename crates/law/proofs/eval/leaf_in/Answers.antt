use native.Mathlib.Omega.{arith}
use Rattle.law.specs.Evaluate.{leaf_of}
use Rattle.law.proofs.Evals.{leaf_none}
use Rattle.law.proofs.eval.leaf_in.Goals as goal

pub returns-then-at : goal.returns-then-at
returns-then-at c =
    leaf_none (leaf_of c.args.row c.args.history.now c.args.j) c.args.s.now c.args.at (omega arith)
