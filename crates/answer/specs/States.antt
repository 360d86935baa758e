-- The states at the front of a levels buffer.
use Rattle.std.specs.Prelude.{ℕ, ◌+◌, ◌*◌, ◌≤◌, List, length}
use Rattle.bmap.specs.Limits.{most_fluents, most_steps, most_sheets}
use Rattle.bmap.specs.Domain.{State}
use Rattle.bmap.specs.Sheet.{rows}
use Rattle.answer.specs.declared.print.States.{States}

abbrev pub rows_of : States → List State
rows_of s = rows s.fluents s.count s.levels.now

-- they lie in it
pub record Held (s : States) : Type 0 where
  pub fluents : s.fluents ≤ most_fluents
  pub within : s.count * s.fluents ≤ length s.levels.now

-- the states of the most sheets, each of the most steps
abbrev pub most_states : ℕ
most_states = most_sheets * (most_steps + 1)

-- and are no more than a report has
pub record Counted (s : States) : Type 0 where
  pub held : Held s
  pub few : s.count ≤ most_states
