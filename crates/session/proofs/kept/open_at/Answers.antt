use Rattle.session.proofs.ReplayLaws.{reached_none}
use Rattle.session.proofs.kept.open_at.Goals as goal

pub replay-requires-clause-reached : goal.replay-requires-clause-reached
replay-requires-clause-reached c = reached_none c.args.s.now.agents c.args.s.now.log
