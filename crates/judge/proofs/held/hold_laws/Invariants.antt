use mathlib.Core.Path.{◌≡◌}
use lib.ListN.{length}
use Rattle.law.specs.Evaluate.{held_size}
use Rattle.judge.specs.Told.{Held}
use Rattle.judge.proofs.held.hold_laws.Given as goal

abbrev pub invariant-loop-i : goal.invariant-loop-i
invariant-loop-i l = (length l.held ≡ held_size) × Held l.store l.laws l.supplement l.over l.i l.held
