use Rattle.bmap.specs.Plain.{text}
use Rattle.answer.proofs.PutLaws.{put_line, words_more}
use Rattle.answer.proofs.print.Text.broken.Goals as goal

pub returns : goal.returns
unfolding text
returns c = put_line _ _ c.word.ensures (words_more _ _ (words_more _ _ c.number.ensures.put c.number-2.ensures.put) c.number-3.ensures.put) c.byte.ensures
