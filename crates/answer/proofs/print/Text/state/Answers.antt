use Rattle.bmap.specs.Plain.{text}
use Rattle.answer.proofs.PutLaws.{put_line, words_more}
use Rattle.answer.proofs.print.Text.state.Goals as goal

pub returns-clause-put : goal.returns-clause-put
unfolding text
returns-clause-put c = put_line _ _ c.byte.ensures (words_more _ _ c.number.ensures.put c.levels.ensures.put) c.byte-2.ensures
