-- What the program counts of its buffer is the output, and an input is answered by the bytes of the limit and one more.
use Rattle.bmap.specs.Program as program
use Rattle.answer.proofs.AnsweredLaws.{counted_whole}
use Rattle.low_water.proofs.InputLaws.{rest_unread}
use Rattle.low_water.proofs.judge.Goals as goal

pub returns : goal.returns
returns g c =
    c.run.ensures.whole program.low_water (λ bytes n left e. counted_whole (program.low_water bytes) c.args.out.now e c.requires.room)
    (λ bytes. rw c.requires.taken (rest_unread bytes))
