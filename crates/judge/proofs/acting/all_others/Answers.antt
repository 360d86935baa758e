use Prim.Native.Nat.{◌*◌, ◌^◌}
use native.Mathlib.Nat.{mod-le}
use native.Mathlib.Omega.{arith}
use borrow.Author.Rules.{rules}
use lib.ListN.{length-set}
use Rattle.judge.proofs.NamingLaws.{asked_none, asked_has, asked_more, asked_all}
use Rattle.judge.proofs.acting.all_others.Goals as goal

pub loop-a-init : goal.loop-a-init
loop-a-init c = (search rules, asked_none c.args.names.now c.everyone-others.ensures)

pub overflow_sub-others : goal.overflow_sub-others
overflow_sub-others c = omega (arith, asked_has c.args.names.now c.loop-a.a c.loop-a-test.true c.loop-a.others c.loop-a.invariant.1 (search rules), mod-le (1 * 2 ^ c.loop-a.a) 65536)

pub loop-a-preserved : goal.loop-a-preserved
loop-a-preserved c = (simp length-set c.loop-a.invariant.0, asked_more c.args.names.now c.loop-a.a c.loop-a-test.true c.loop-a.others c.loop-a.invariant.1 (search rules) c.loop-a.invariant.0 (search rules))

pub returns : goal.returns
returns c = asked_all c.args.names.now c.loop-a.a c.loop-a.others c.loop-a-test.false c.loop-a.invariant.1
