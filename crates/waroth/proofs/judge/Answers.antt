-- What the program counts of its buffer is the output, and an input is answered by the bytes of the limit and one more.
use Rattle.bmap.specs.Program as program
use Rattle.answer.proofs.AnsweredLaws.{counted_whole}
use Rattle.waroth.proofs.InputLaws.{rest_unread}
use Rattle.waroth.proofs.judge.Goals as goal

pub returns : goal.returns
returns g c =
    c.run.ensures.whole program.output (λ bytes n left e. counted_whole (program.output bytes) c.args.out.now e c.requires.room)
    (λ bytes. rw c.requires.taken (rest_unread bytes))
