use Rattle.answer.proofs.PutLaws.{put_line, words_more}
use Rattle.answer.proofs.print.Text.pair.Goals as goal

pub returns-clause-put : goal.returns-clause-put
returns-clause-put c = put_line _ _ c.word.ensures (words_more _ _ c.number.ensures.put c.number-2.ensures.put) c.byte.ensures
