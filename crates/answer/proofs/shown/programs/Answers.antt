use Rattle.answer.proofs.Theorems.{low_water_alike}
use Rattle.answer.proofs.shown.programs.Goals as goal

pub returns : goal.returns
returns c = record { alike = low_water_alike }
