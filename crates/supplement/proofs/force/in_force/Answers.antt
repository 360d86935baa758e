use mathlib.Core.Path.{refl}
use Rattle.supplement.proofs.ForceLaws.{in_force_out, nothing_out}
use Rattle.supplement.proofs.force.in_force.Goals as goal

pub returns-in-Ok : goal.returns-in-Ok
returns-in-Ok c = in_force_out c.args.store c.args.supplement _ c.args.n _ c.in-Ok.ensures c.handed_out.ensures

pub returns-in-Err : goal.returns-in-Err
returns-in-Err c = nothing_out c.args.store c.args.supplement _ c.args.n _ c.in-Err.ensures refl
