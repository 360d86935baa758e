use Rattle.std.proofs.Common.{sym, ap, ◌∙◌}
use Rattle.supplement.proofs.UnderLaws.{alone_in}
use Rattle.supplement.proofs.under.found_alone.Goals as goal

pub returns-in-None : goal.returns-in-None
returns-in-None c = c.refused.ensures 0 ∙ sym (ap alone_in c.in-None.is)
