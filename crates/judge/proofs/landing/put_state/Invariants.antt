use mathlib.Core.Path.{◌≡◌}
use lib.ListN.{length}
use Rattle.law.specs.Evaluate.{history_size}
use mathlib.Core.List.{List}
use Rattle.bmap.specs.Domain.{Domain}
use Rattle.bmap.specs.Judge.{Setting}
use Rattle.judge.specs.States.{state_at, Kept}
use Rattle.judge.specs.Landing.{Ranged, Laid}
use Rattle.judge.proofs.LandingLaws.{Put}
use Rattle.judge.proofs.landing.put_state.Given as goal

abbrev pub invariant-loop-f : goal.invariant-loop-f
invariant-loop-f l = (length l.history ≡ history_size) × (Kept l.j l.initial.history l.history × ((d : Domain) (settings : List Setting)
    → Ranged d l.fluents (length l.fluents) → Laid (length l.fluents) l.new settings (state_at (length l.fluents) l.initial.history l.j) → Put d settings (state_at (length l.fluents) l.initial.history l.j) l.j l.f l.history))
