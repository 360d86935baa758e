use mathlib.Core.Path.{sym, ap, ◌∙◌}
use Rattle.supplement.specs.Under.{under_alone}
use Rattle.supplement.proofs.under.alone.Goals as goal

pub returns-in-Err : goal.returns-in-Err
returns-in-Err c = c.refused.ensures 0 ∙ sym (ap under_alone c.in-Err.is)
