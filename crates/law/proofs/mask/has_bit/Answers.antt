use native.Mathlib.Omega.{arith}
use Rattle.law.proofs.Bits.{no_bit}
use Rattle.law.proofs.mask.has_bit.Goals as goal

pub returns-else-i-lt64 : goal.returns-else-i-lt64
returns-else-i-lt64 c = no_bit 64 c.args.mask c.args.i (omega arith) (omega arith)
