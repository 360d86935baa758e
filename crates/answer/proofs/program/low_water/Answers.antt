use Rattle.bmap.specs.Program.{low_water}
use Rattle.answer.proofs.program.low_water.Goals as goal

pub returns : goal.returns
returns c = c.printed.ensures low_water (λ bytes text r left e. e)
