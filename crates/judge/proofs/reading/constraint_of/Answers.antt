use Rattle.judge.proofs.ReadingLaws.{truth_told, told_some, told_none}
use Rattle.judge.proofs.reading.constraint_of.Goals as goal

pub returns-in-Some : goal.returns-in-Some
returns-in-Some c = λ d h l p says at seen. (told_some c.constraint_at.ensures c.in-Some.is (truth_told d c.args.held.now p l h c.args.history.now c.args.j says at seen)).0

pub returns-in-None : goal.returns-in-None
returns-in-None c = λ d h l p says at seen. absurd (told_none c.constraint_at.ensures c.in-None.is (truth_told d c.args.held.now p l h c.args.history.now c.args.j says at seen))
