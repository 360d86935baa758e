-- What a step may do, and its new state, level by level.
use Rattle.std.specs.Prelude.{ℕ, ◌≤◌, ◌<◌, ◌≡◌, List, [], map, ℤ, pos, get_or, Option, Some, None, Result, Ok, Err}
use Rattle.std.specs.Int.Signed.{le_z}
use Rattle.bmap.specs.Plain.{both, if_else, numbers}
use Rattle.index.specs.declared.Fluent.{Fluent as Row}
use Rattle.index.specs.Index.{no_fluent, fluent_said}
use Rattle.bmap.specs.Limits.{most_fluents, most_steps}
use Rattle.bmap.specs.Domain.{Domain, Names, State, concurrency}
use Rattle.bmap.specs.Meaning.{History}
use Rattle.bmap.specs.Judge.{Checked, Pass, fine, fault, next, each, placed, may_occur, all_hold, Setting, level_after, state_after, fits}
use Rattle.judge.specs.Answer.{kind_of}
use Rattle.judge.specs.States.{leaving}
use Rattle.judge.specs.declared.verdict.Breach.{Breach}

-- checks 1 to 3 of the step from state j
abbrev pub allowed : Domain → History → ℕ → Names → Pass
allowed d h j names =
    next (each (placed d names) names) (λ _.
    next (each (may_occur d h j names) d.entries) (λ _.
    all_hold concurrency 3 d h j))

-- v where it lies within the bounds
unfoldable pub fit_of : ℤ → ℤ → ℤ → Option ℤ
fit_of lowest v highest = if_else (both (le_z lowest v) (le_z v highest)) (Some v) None

-- the levels of state j can be read into an array
pub record Readable (w j : ℕ) : Type 0 where
  pub step : j ≤ most_steps
  pub fluents : w ≤ most_fluents

-- state j + 1 can be stored
pub record Storable (w j : ℕ) : Type 0 where
  pub step : j < most_steps
  pub fluents : w ≤ most_fluents

-- the fluents of a domain, with their ranges and limits
abbrev pub Ranged : Domain → List Row → ℕ → Type 0
Ranged d fluents w = d.fluents ≡ map (λ f. fluent_said (get_or fluents f no_fluent)) (numbers 0 w)

-- "Fluents that no law set keep their value": settings laid over a state
abbrev pub Laid : ℕ → List ℤ → List Setting → State → Type 0
Laid w new settings old = (f : ℕ) → f < w → get_or new f (pos 0) ≡ level_after settings f (get_or old f (pos 0))

-- the settings of a step, laid over an old state
pub record LaidOver (w : ℕ) (new : List ℤ) (settled : Checked (List Setting)) (old : State) : Type 0 where
  pub settings : List Setting
  pub are : fine settings ≡ settled
  pub laid : Laid w new settings old

-- a check that lays them, or gives their fault
abbrev pub Lays : Result (Unit {0}) Breach → ℕ → List ℤ → Checked (List Setting) → State → Type 0
Lays (Ok u) w new settled old = LaidOver w new settled old
Lays (Err b) w new settled old = fault (kind_of b.fault) b.number ≡ settled

-- check 5 of the state that settings make of an old one
abbrev pub ranged : Domain → List Setting → State → Checked State
ranged d settings old = next (each (fits old (state_after d settings old)) d.fluents) (λ _. fine (state_after d settings old))

-- a check that leaves a state, or its fault, and where it passes the levels of that state in an array
pub record Landed (r : Result (Unit {0}) Breach) (w : ℕ) (new : List ℤ) (state : State) (is : Checked State) : Type 0 where
  pub leaves : leaving r state ≡ is
  pub levels : r ≡ Ok tt → Laid w new [] state
