use Rattle.judge.proofs.NamingLaws.{joins_by}
use Rattle.judge.proofs.acting.all_name.Goals as goal

pub returns : goal.returns
returns c = λ names others. joins_by names c.args.action c.args.crew (others c.args.action c.ranges.action.fits) c.share.ensures
