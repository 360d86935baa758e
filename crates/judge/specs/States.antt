-- The states of a history, and which of its numbers a call leaves as they are.
use Rattle.std.specs.Prelude.{ℕ, zero, suc, ◌*◌, ◌+◌, ◌≤◌, ◌<◌, ◌≡◌, List, [], map, ◌∷◌, ◌++◌, ℤ, pos, length, get_or, take, drop, Result, Ok, Err}
use Rattle.bmap.specs.Limits.{most_fluents, most_entries, most_steps, levels_size}
use Rattle.bmap.specs.Plain.{numbers}
use Rattle.bmap.specs.Domain.{State}
use Rattle.index.specs.declared.Fluent.{Fluent}
use Rattle.index.specs.Index.{no_fluent}
use Rattle.bmap.specs.Judge.{Checked, fine, fault}
use Rattle.law.specs.Evaluate.{row_size, history_size}
use Rattle.judge.specs.Answer.{kind_of}
use Rattle.judge.specs.declared.verdict.Breach.{Breach}

-- state k of a history, for a domain of w fluents
abbrev pub state_at : ℕ → List ℤ → ℕ → State
state_at w h k = take w (drop (row_size * k) h)

-- the start values of the first w fluents
abbrev pub starts_of : List Fluent → ℕ → State
starts_of fluents w = map (λ f. (get_or fluents f no_fluent).start) (numbers 0 w)

-- the states 0 to n - 1
unfoldable pub states_of : ℕ → ℕ → List ℤ → List State
states_of w zero h = []
states_of w (suc n) h = states_of w n h ++ (state_at w h n ∷ [])

-- a check that leaves a state
abbrev pub leaving : Result (Unit {0}) Breach → State → Checked State
leaving (Ok u) s = fine s
leaving (Err b) s = fault (kind_of b.fault) b.number

-- only the numbers from one place to another may have changed
pub record Between (from to : ℕ) (h h' : List ℤ) : Type 0 where
  pub before : take from h' ≡ take from h
  pub after : drop to h' ≡ drop to h

-- where the marks of the step from state j stand: after the levels of its row
abbrev pub marks_from : ℕ → ℕ
marks_from j = row_size * j + most_fluents

-- all is kept but the levels of state j + 1
abbrev pub Kept : ℕ → List ℤ → List ℤ → Type 0
Kept j = Between (row_size * (j + 1)) (marks_from (j + 1))

-- all but the marks of the step from state j
abbrev pub Marking : ℕ → List ℤ → List ℤ → Type 0
Marking j = Between (marks_from j) (row_size * (j + 1))

-- nothing was written from a place on
abbrev pub Blank : ℕ → List ℤ → Type 0
Blank from h = (i : ℕ) → from ≤ i → get_or h i (pos 0) ≡ pos 0

-- the marks of a step can be written
pub record Markable (j n : ℕ) : Type 0 where
  pub step : j < most_steps
  pub entries : n ≤ most_entries

-- a row of levels can be moved from one place to another
pub record Movable (from to : ℕ) : Type 0 where
  pub source : from + most_fluents ≤ history_size
  pub target : to + most_fluents ≤ history_size

-- so many states can be copied out
pub record Copyable (n w : ℕ) (levels : List ℤ) : Type 0 where
  pub reached : n ≤ most_steps + 1
  pub fluents : w ≤ most_fluents
  pub buffer : levels_size ≤ length levels
