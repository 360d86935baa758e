use Prim.Native.Nat.{ℕ, ◌+◌, ◌/◌, ◌^◌, ◌<◌}
use mathlib.Core.Path.{◌≡◌}
use lib.IntN.{pos}
use lib.ListN.{length, get_or}
use Rattle.bmap.specs.Domain.{has}
use Rattle.law.specs.Evaluate.{history_size, marked}
use Rattle.judge.specs.States.{Marking, marks_from}
use Rattle.judge.proofs.states.mark_step.Given as goal

abbrev pub invariant-loop-i : goal.invariant-loop-i
invariant-loop-i l = ((length l.history ≡ history_size) × (l.rest ≡ l.entries / 2 ^ l.i)) × (Marking l.j l.initial.history l.history × ((e : ℕ) → e < l.i → marked (get_or l.history (marks_from l.j + e) (pos 0)) ≡ has l.entries e))
