use Rattle.theorems.proofs.DivisionLaws.{division_returns, remainder_left, division_fixed, quotient_down, division_valued}
use Rattle.theorems.proofs.divisions.Goals as goal

pub returns : goal.returns
returns c = record { returns = division_returns; left = remainder_left; fixed = division_fixed; down = quotient_down; valued = division_valued }
