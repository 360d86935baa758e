use Rattle.bmap.specs.Program.{output}
use Rattle.answer.proofs.program.answer.Goals as goal

pub returns : goal.returns
returns c = c.printed.ensures output (λ bytes text r left e. e)
