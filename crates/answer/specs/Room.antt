-- The bytes that a text of the output takes, at most.
use Rattle.std.specs.Prelude.{ℕ, ◌+◌, ◌*◌, ◌≤◌}
use Rattle.bmap.specs.Limits.{most_agents, most_fluents, most_steps}
use Rattle.bmap.specs.declared.limits.Counts.{Counts}

-- a space and the digits of a number of 64 bits
abbrev pub number_room : ℕ
number_room = 1 + 20

-- a space, the sign and the digits of a number of 16 bits
abbrev pub level_room : ℕ
level_room = 1 + 1 + 5

-- "S", the number of a state, so many levels, LF
abbrev pub state_room : ℕ → ℕ
state_room levels = 1 + number_room + level_room * levels + 1

-- the lines of so many states of the most fluents
abbrev pub states_room : ℕ → ℕ
states_room states = state_room most_fluents * states

-- "ACCEPTED", LF
abbrev pub accepted_room : ℕ
accepted_room = 8 + 1

-- "BROKEN", three numbers, LF: no last line is longer
abbrev pub last_room : ℕ
last_room = 6 + 3 * number_room + 1

-- a word of so many characters, two numbers, LF
abbrev pub pair_room : ℕ → ℕ
pair_room word = word + 2 * number_room + 1

-- "REFUSED" and its two
abbrev pub refused_room : ℕ
refused_room = pair_room 7

-- "SHEETS" and its two
abbrev pub sheets_room : ℕ
sheets_room = pair_room 6

-- "F" and five numbers, LF
abbrev pub fluent_room : ℕ
fluent_room = 1 + 5 * number_room + 1

-- the lines of the most fluents
abbrev pub figures_room : ℕ
figures_room = fluent_room * most_fluents

-- room for every output: the states of the longest sheet, and the last line
abbrev pub output_size : ℕ
output_size = states_room (most_steps + 1) + last_room

-- no more agents and fluents than a domain may have
pub record Few (counts : Counts) : Type 0 where
  pub agents : counts.agents ≤ most_agents
  pub fluents : counts.fluents ≤ most_fluents
