use mathlib.Core.Path.{◌≡◌}
use native.Mathlib.Omega.{arith}
use Rattle.session.proofs.ReplayLaws.{stays, has_room, moves}
use Rattle.session.proofs.log.replay.Goals as goal

pub returns-in_err-place : goal.returns-in_err-place
returns-in_err-place c =
    rw c.from_residual.ensures (stays c.args.s.now.agents c.loop-k.k c.args.s.now.log c.loop-k.sheet c.loop-k.invariant (omega arith) (omega arith) c.target.result c.target.ensures c.in_err-place.was c.args.to (omega arith))

pub overflow_mul-place : goal.overflow_mul-place
overflow_mul-place c =
    omega (arith, has_room c.args.s.now.agents c.loop-k.k c.args.s.now.log c.loop-k.sheet c.loop-k.invariant (omega arith) (omega arith) c.target.result c.target.ensures c.in_ok-place.place c.in_ok-place.was)

pub lay-requires : goal.lay-requires
lay-requires c =
    has_room c.args.s.now.agents c.loop-k.k c.args.s.now.log c.loop-k.sheet c.loop-k.invariant (omega arith) (omega arith) c.target.result c.target.ensures c.in_ok-place.place c.in_ok-place.was

pub loop-k-preserved : goal.loop-k-preserved
loop-k-preserved c =
    moves c.args.s.now.agents c.loop-k.k c.args.s.now.log c.loop-k.sheet c.loop-k.invariant (omega arith) (omega arith) c.target.result c.target.ensures c.in_ok-place.place c.in_ok-place.was c.lay.new.dst c.lay.ensures

pub returns : goal.returns
returns c =
    let e : c.loop-k.k ≡ c.args.to = omega arith in
    rw (← e) c.loop-k.invariant
