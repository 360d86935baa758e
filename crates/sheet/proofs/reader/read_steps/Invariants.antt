use Prim.Native.Nat.{◌≤◌}
use lib.ListN.{length}
use Rattle.bmap.specs.Limits.{most_steps}
use Rattle.sheet.proofs.ReadLaws.{Done}
use Rattle.sheet.proofs.reader.read_steps.Given as goal

abbrev pub invariant-lines : goal.invariant-lines
invariant-lines l = (l.steps ≤ most_steps) × Done l.agents l.text l.rest l.buffer l.steps

abbrev pub decreases-lines : goal.decreases-lines
decreases-lines l = length l.rest
