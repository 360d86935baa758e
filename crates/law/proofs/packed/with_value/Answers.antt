use Rattle.std.proofs.Common.{rules}
use mathlib.Core.Path.{◌∙◌}
use Rattle.law.specs.Packed.{value_in}
use Rattle.law.proofs.PackedLaws.{lowered, packed_none, packs}
use Rattle.law.proofs.packed.with_value.Goals as goal

pub returns-in-Ok : goal.returns-in-Ok
unfolding value_in
returns-in-Ok c = packs {z = c.in-Ok.z} (search rules) c.args.end ∙ rw c.in-Ok.is

pub returns-in-Err : goal.returns-in-Err
unfolding value_in
returns-in-Err c =
    packed_none lowered c.args.end c.in-Err.why (search rules) ∙ rw c.in-Err.is
