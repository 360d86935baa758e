use Rattle.bmap.specs.Report.{report}
use Rattle.answer.proofs.morning.report.Goals as goal

pub returns : goal.returns
returns c = c.printed.ensures report (λ bytes text r left e. e)
