use mathlib.Core.Path.{◌≡◌}
use Rattle.bmap.specs.Store.{zeros}
use Rattle.line.proofs.Lists.{joining}
use Rattle.line.proofs.buffer.is_zero_from.Given as goal

abbrev pub invariant-loop-b : goal.invariant-loop-b
invariant-loop-b l = zeros l.rest ≡ joining l.rest l.joined l.b-index
