use Rattle.bmap.specs.Plain.{text}
use Rattle.bmap.specs.Program.{spaced}
use Rattle.answer.proofs.print.Text.accepted.Goals as goal

pub returns : goal.returns
unfolding text spaced
returns c = c.word.ensures
