use Rattle.std.proofs.Common.{arith}
use Rattle.domain.proofs.PayloadLaws.{mask_any, mask_some}
use Rattle.domain.proofs.payload.mask_fits.Goals as goal

pub returns-then-n-ge-AGENTS : goal.returns-then-n-ge-AGENTS
returns-then-n-ge-AGENTS c = mask_any c.args.n c.args.mask c.if-mask-ne0.true (omega arith) (omega arith)

pub returns-else-n-ge-AGENTS : goal.returns-else-n-ge-AGENTS
returns-else-n-ge-AGENTS c = mask_some c.args.n c.args.mask c.if-mask-ne0.true
