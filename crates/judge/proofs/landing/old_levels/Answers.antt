use native.Mathlib.Omega.{arith}
use Rattle.judge.proofs.LandingLaws.{old_laid}
use Rattle.judge.proofs.landing.old_levels.Goals as goal

pub returns : goal.returns
returns c = old_laid c.args.w c.args.j c.loop-f.f c.args.history.now c.loop-f.new (omega arith) c.loop-f.invariant.1
