use native.Mathlib.Omega.{arith}
use Rattle.line.proofs.Lists.{length_back}
use Rattle.supplement.proofs.PuttingLaws.{putting_first, putting_done, putting_fits, putting_next}
use Rattle.supplement.proofs.laying.put_frames.Goals as goal

pub loop-n-init : goal.loop-n-init
loop-n-init c =
    putting_first c.args.lower.now c.args.low.now c.args.upper.now c.args.high.now c.args.res.now c.requires

pub put_winner-used-requires : goal.put_winner-used-requires
put_winner-used-requires c =
    putting_fits c.loop-n.invariant c.loop-n-test.true

pub loop-n-preserved : goal.loop-n-preserved
loop-n-preserved c =
    putting_next c.loop-n.invariant c.loop-n-test.true c.put_winner-used.result c.put_winner-used.new.out c.put_winner-used.ensures.0 c.put_winner-used.ensures.1
    (length_back c.loop-n.res c.put_winner-used.new.out c.loop-n.used c.loop-n.invariant.front.inside c.put_winner-used.auto.out)

pub returns : goal.returns
returns c = putting_done c.loop-n.invariant (omega (arith, c.loop-n-test.false))
