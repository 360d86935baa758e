use mathlib.Core.Path.{ap, ◌∙◌}
use native.Mathlib.Omega.{arith}
use Rattle.law.specs.declared.table.Node.TheVariants.{Expression, Constraint}
use Rattle.law.proofs.Codes.{below_codes, expression_codes, between_codes, constraint_codes, past_codes}
use Rattle.law.proofs.table.opens.Goals as goal

pub returns-in-16-to-25 : goal.returns-in-16-to-25
returns-in-16-to-25 c =
    ap Expression c.row_of.ensures
    ∙ expression_codes c.args.code (omega arith) (omega arith)

pub returns-in-32-to-44 : goal.returns-in-32-to-44
returns-in-32-to-44 c =
    ap Constraint c.row_of-in-32-to-44.ensures
    ∙ constraint_codes c.args.code (omega arith) (omega arith)

pub returns-in_default : goal.returns-in_default
returns-in_default c = below_codes c.args.code (omega arith)

pub returns-in_default-2 : goal.returns-in_default-2
returns-in_default-2 c = between_codes c.args.code (omega arith) (omega arith)

pub returns-in_default-3 : goal.returns-in_default-3
returns-in_default-3 c = past_codes c.args.code (omega arith)
