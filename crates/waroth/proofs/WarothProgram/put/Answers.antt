-- What is counted lies within the buffer, by the law of `answer`'s functions.
use Rattle.std.proofs.Common.{rules}
use Rattle.bmap.specs.Program as program
use Rattle.answer.proofs.AnsweredLaws.{count_within}
use Rattle.waroth.proofs.WarothProgram.put.Goals as goal

pub returns-clause-within : goal.returns-clause-within
returns-clause-within c = count_within (program.output c.args.input.now) c.args.buffer.now (search rules)
