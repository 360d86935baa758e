use Rattle.std.proofs.Common.{subst}
use Rattle.bmap.specs.Plain.{text}
use Rattle.bmap.specs.Program.{refused_text}
use Rattle.answer.specs.Put.{Put}
use Rattle.answer.proofs.print.Text.refused.Goals as goal

pub returns : goal.returns
unfolding text
returns c = subst (λ n. Put c.args.self.now (refused_text n c.args.e.line) c.pair.new.self) c.number.ensures c.pair.ensures.put
