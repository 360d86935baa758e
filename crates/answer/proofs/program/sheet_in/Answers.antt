use Rattle.std.proofs.Common.{rules}
use Rattle.bmap.specs.Plain.{text}
use Rattle.answer.specs.Cut.{feeds_last}
use Rattle.answer.proofs.program.sheet_in.Goals as goal

pub line_starting-requires : goal.line_starting-requires
unfolding feeds_last
line_starting-requires c = search rules

pub returns : goal.returns
unfolding text
returns c = (c.if-input-gt-INPUT.false, c.line_starting.ensures)
