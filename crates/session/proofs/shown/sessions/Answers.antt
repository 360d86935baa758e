use Rattle.session.proofs.Theorems.{open_exactly, demand_3}
use Rattle.session.proofs.shown.sessions.Goals as goal

pub returns : goal.returns
returns c = record { open_exactly = open_exactly; sheets_stand = demand_3 }
