use native.Mathlib.Omega.{arith}
use Prim.Native.Nat.{◌+◌, ◌-◌}
use lib.Dec.{leb}
use Rattle.bmap.specs.Plain.{both}
use Rattle.bmap.specs.Number.{value}
use Rattle.law.specs.Evaluate.{in_step}
use Rattle.law.proofs.Evals.{leaf_none}
use Rattle.law.proofs.eval.occurrence_in.Goals as goal

pub returns-then-at : goal.returns-then-at
returns-then-at c =
    leaf_none (λ e t. value (both (leb t c.args.j) (in_step c.args.history.now e (c.args.j + 1 - t)))) c.args.s.now c.args.at (omega arith)
