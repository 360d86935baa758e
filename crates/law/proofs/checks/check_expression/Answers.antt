use Rattle.law.specs.Check.{allowed}
use Rattle.law.proofs.checks.check_expression.Goals as goal

pub returns : goal.returns
returns c = c.tree_end.ensures (allowed c.args.context) c.allowed_in.ensures
