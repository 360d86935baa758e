use Rattle.theorems.proofs.LookBackLaws.{look_back_read}
use Rattle.theorems.proofs.look_backs.Goals as goal

pub returns : goal.returns
returns c = record { all_read = look_back_read }
