use native.Mathlib.Omega.{arith}
use Rattle.line.proofs.PayloadLaws.{spelt_start, spelt_byte}
use Rattle.line.proofs.payload.spell_each.Goals as goal

pub loop-n-init : goal.loop-n-init
loop-n-init c = spelt_start _ _

pub loop-n-preserved : goal.loop-n-preserved
loop-n-preserved c =
    spelt_byte c.args.text.now c.loop-n.out c.loop-n.n c.loop-n.invariant c.in-Some.byte (omega arith) (omega (arith, c.requires)) c.in-Some.ensures.0 c.in-Some.ensures.1
