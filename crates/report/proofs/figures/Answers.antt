-- What the program counts of its buffer is the report, and no byte after those taken changes it.
use Rattle.bmap.specs.Report as program
use Rattle.answer.proofs.AnsweredLaws.{counted_whole}
use Rattle.theorems.proofs.UnreadLaws.{rest_unread}
use Rattle.report.proofs.figures.Goals as goal

pub returns : goal.returns
returns g c =
    c.run.ensures.whole program.report (λ bytes n left e. counted_whole (program.report bytes) c.args.out.now e c.requires.room)
    (λ bytes. rw c.requires.taken (rest_unread bytes))
