use Rattle.theorems.proofs.LongTexts.{long_texts_shown}
use Rattle.theorems.proofs.UnreadLaws.{rest_unread}
use Rattle.theorems.proofs.reports.Goals as goal

pub returns : goal.returns
returns c = record { rest_unread = rest_unread; long_texts = long_texts_shown }
