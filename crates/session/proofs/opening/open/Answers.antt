use Rattle.session.proofs.OpeningLaws.{opened_got}
use Rattle.session.proofs.opening.open.Goals as goal

pub returns-in-Some : goal.returns-in-Some
returns-in-Some c = opened_got c.args.store.now c.in-Some.index c.empty.result c.in-Some.ensures c.empty.ensures
