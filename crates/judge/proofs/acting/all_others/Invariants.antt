use mathlib.Core.Path.{◌≡◌}
use lib.ListN.{length}
use Rattle.judge.specs.Masks.{name_count}
use Rattle.judge.proofs.NamingLaws.{Asked}
use Rattle.judge.proofs.acting.all_others.Given as goal

abbrev pub invariant-loop-a : goal.invariant-loop-a
invariant-loop-a l = (length l.others ≡ name_count) × Asked l.names l.a l.others
