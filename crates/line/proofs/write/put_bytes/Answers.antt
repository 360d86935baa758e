use mathlib.Core.Path.{refl}
use native.Mathlib.Omega.{arith}
use Rattle.bmap.specs.Line.{hex}
use Rattle.line.proofs.WriteLaws.{hex_more}
use Rattle.line.proofs.write.put_bytes.Goals as goal

pub loop-i-init : goal.loop-i-init
unfolding hex
loop-i-init c = refl

pub loop-i-preserved : goal.loop-i-preserved
loop-i-preserved c =
    rw (c.loop-i.invariant, c.digit_for.ensures, c.digit_for-in-loop-i.ensures) (hex_more c.loop-i.i c.args.bytes.now c.args.out.now (omega arith) (omega arith))
