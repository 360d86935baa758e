use mathlib.Core.Path.{◌≡◌}
use lib.ListN.{length, take, drop}
use Rattle.law.specs.Evaluate.{history_size}
use Rattle.judge.specs.States.{starts_of}
use Rattle.judge.proofs.states.put_start.Given as goal

abbrev pub invariant-loop-f : goal.invariant-loop-f
invariant-loop-f l = (length l.history ≡ history_size) × ((take l.f l.history ≡ starts_of l.fluents l.f) × (drop (length l.fluents) l.history ≡ drop (length l.fluents) l.initial.history))
