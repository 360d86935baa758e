-- What the functions within `read` and `write` promise each other: the lines of a sheet one by one.
use Rattle.std.specs.Prelude.{ℕ, ◌≤◌, ◌<◌, Bool, Option, None, Some, Result, Ok, Err, List, [], ◌∷◌, map, ◌≡◌, leb, length, take, drop}
use Rattle.bmap.specs.Plain.{both, flat}
use Rattle.bmap.specs.Limits.{most_agents, most_steps}
use Rattle.bmap.specs.Refusal.{got, refused, then, number_of, Reading, read, refused_at, afterwards}
use Rattle.bmap.specs.declared.refusal.Refusal.{Refusal}
use Rattle.bmap.specs.Line.{Line, lines_of, decode}
use Rattle.bmap.specs.Domain.{Names}
use Rattle.bmap.specs.Sheet.{step_of, steps_from, rows, step_line}

-- ---- the reader

abbrev pub agents_allowed : ℕ → Bool
agents_allowed agents = both (leb 1 agents) (leb agents most_agents)

-- what all lines come to: the number of steps or a refusal, and the names
abbrev pub outcome : ℕ → List ℕ → Reading (List Names)
outcome agents text = steps_from agents [] (map decode (lines_of text))

abbrev pub counted : Reading (List Names) → Reading ℕ
counted r = afterwards r (λ steps. read (length steps))

abbrev pub names_in : Reading (List Names) → List ℕ
names_in (read steps) = flat steps
names_in (refused_at n line) = []

-- the first line is refused, after so many steps
pub record LineRefused (agents steps : ℕ) (rest : List ℕ) (number : ℕ) : Type 0 where
  pub line : Line
  pub others : List Line
  pub lines : lines_of rest ≡ line ∷ others
  pub is : then (decode line) (step_of agents steps) ≡ refused number

-- the first line is a step of so many characters, and its names stand at the front
pub record LineStep (agents steps : ℕ) (rest front : List ℕ) (characters : ℕ) : Type 0 where
  pub line : Line
  pub names : Names
  pub lines : lines_of rest ≡ line ∷ lines_of (drop characters rest)
  pub is : then (decode line) (step_of agents steps) ≡ got names
  pub stand : names ≡ take agents front
  pub count : length names ≡ agents
  pub before : steps < most_steps
  pub some : 0 < characters
  pub within : characters ≤ length rest

-- what the first line is: none, a step or refused
abbrev pub NextIs : ℕ → ℕ → List ℕ → List ℕ → Result (Option ℕ) Refusal → Type 0
NextIs agents steps rest front (Ok None) = lines_of rest ≡ []
NextIs agents steps rest front (Ok (Some characters)) = LineStep agents steps rest front characters
NextIs agents steps rest front (Err r) = LineRefused agents steps rest (number_of r)

-- ---- the writer

-- the lines of so many steps
unfoldable pub lines_in : ℕ → ℕ → List ℕ → List ℕ
lines_in agents steps sheet = flat (map step_line (rows agents steps sheet))
