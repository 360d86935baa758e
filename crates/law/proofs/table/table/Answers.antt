-- antt computes the row of each code and compares it with the constant's.
use Rattle.std.proofs.Common.{refl}
use Rattle.bmap.specs.Plain.{numbers}
use Rattle.bmap.specs.Code.{code_of}
use Rattle.law.specs.Table.{rows}
use Rattle.law.proofs.table.table.Goals as goal

pub returns : goal.returns
unfolding code_of numbers rows
returns c = refl
