use Rattle.bmap.specs.Plain.{text}
use Rattle.answer.proofs.print.Text.sheets.Goals as goal

pub returns-clause-put : goal.returns-clause-put
unfolding text
returns-clause-put c = c.pair.ensures.put
