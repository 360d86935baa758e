use mathlib.Core.Path.{ap}
use lib.ListN.{length}
use native.Mathlib.Omega.{arith}
use Rattle.line.proofs.Answers.{not_there, there}
use Rattle.line.proofs.Digits.{spelt_more, spelt_stop, spelt_end}
use Rattle.line.proofs.read.pairs.Goals as goal

pub returns-then-is_none : goal.returns-then-is_none
returns-then-is_none c =
    let e = spelt_stop (length c.args.text.now) c.args.text.now c.loop-n.n (omega arith) (omega arith) (not_there c.pair.result _ _ c.if-is_none.ensures c.pair.ensures) in
    omega (arith, c.loop-n.invariant, ap length e)

pub loop-n-preserved : goal.loop-n-preserved
loop-n-preserved c =
    let (b, is) = there c.pair.result _ _ c.if-is_none.ensures c.pair.ensures in
    let e = spelt_more (length c.args.text.now) c.args.text.now c.loop-n.n (omega arith) (omega arith) is.0 in
    omega (arith, c.loop-n.invariant, ap length e)

pub returns : goal.returns
returns c =
    let e = spelt_end (length c.args.text.now) c.args.text.now c.loop-n.n (omega arith) in
    omega (arith, c.loop-n.invariant, ap length e)
