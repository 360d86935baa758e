use Rattle.theorems.proofs.ChangesLaws.{changes_kept}
use Rattle.theorems.proofs.changes.Goals as goal

pub returns : goal.returns
returns c = record { kept = changes_kept }
