use Rattle.supplement.proofs.Theorems.{empty_changes_nothing, supplement_stands, supplement_lines_return, in_force_judged}
use Rattle.supplement.proofs.shown.replacements.Goals as goal

pub returns : goal.returns
returns c = record { empty = empty_changes_nothing; stands = supplement_stands; lines_return = supplement_lines_return; in_force = in_force_judged }
