-- What is found once for a judgement, and what a judgement leaves.
use Rattle.std.specs.Prelude.{ℕ, ◌+◌, ◌*◌, ◌≤◌, ◌<◌, ◌≡◌, true, List, map, ℤ, length, get_or, Result, Err}
use Rattle.bmap.specs.Plain.{numbers}
use Rattle.bmap.specs.Limits.{most_agents, most_fluents, most_knowledge, most_entries, most_laws, most_steps, levels_size}
use Rattle.bmap.specs.Refusal.{got}
use Rattle.bmap.specs.Domain.{Domain}
use Rattle.bmap.specs.Supplement.{Replacement, replaced, supplement_in}
use Rattle.bmap.specs.Judge.{accepted}
use Rattle.bmap.specs.Judge as paper
use Rattle.bmap.specs.declared.limits.Counts.{Counts}
use Rattle.index.specs.declared.Entry.{Entry}
use Rattle.index.specs.Index.{domain_of, no_entry, entry_said}
use Rattle.supplement.specs.Under.{under_in}
use Rattle.supplement.specs.declared.under.Under.{Under}
use Rattle.bmap.specs.declared.refusal.Refusal.{Refusal}
use Rattle.bmap.specs.declared.refusal.Refusal.TheVariants.{NoRoom, NotDomain}
use Rattle.judge.specs.Answer.{verdict_of, Bounded}
use Rattle.judge.specs.declared.verdict.Judged.{Judged}
use Rattle.judge.specs.States.{states_of, Blank}
use Rattle.judge.specs.Landing.{Ranged}
use Rattle.judge.specs.Told.{Lawful, Owned, Ordered, Few}
use Rattle.judge.specs.declared.steps.Plan.{Plan}

-- what was found of a domain and of a supplement accepted for it
pub record Accepted (store supplement : List ℕ) (u : Under) : Type 0 where
  pub found : u ≡ under_in store supplement
  pub ok : u.ok ≡ true

-- "the domain with those laws replaced", by what was found
pub record Governs (store supplement : List ℕ) (u : Under) (d : Domain) : Type 0 where
  pub of : Accepted store supplement u
  pub replacements : List Replacement
  pub accepted : supplement_in (domain_of store u.index) supplement ≡ got replacements
  pub is : replaced replacements (domain_of store u.index) ≡ d

-- the limits of every domain: what was found of other stores has them or is refused
pub record InLimits (n : Counts) : Type 0 where
  pub some_agent : 1 ≤ n.agents
  pub agents : n.agents ≤ most_agents
  pub fluents : n.fluents ≤ most_fluents
  pub knowledge : n.knowledge ≤ most_knowledge
  pub entries : n.entries ≤ most_entries
  pub laws : n.laws ≤ most_laws

-- what is said whatever was found: 10, 15 for what is not accepted or beyond the limits, and what is left after the states
pub record Anyhow (u : Under) (levels : List ℤ) (r : Result Judged Refusal) (left : List ℤ) : Type 0 where
  pub bounded : Bounded u.index.counts.fluents levels r left
  pub short : length levels < levels_size → r ≡ Err NoRoom
  pub unfound : levels_size ≤ length levels → (u.ok ≡ true → InLimits u.index.counts → ⊥) → r ≡ Err NotDomain

-- a sheet of so many steps that can be judged by it
pub record Judgeable (u : Under) (sheet : List ℕ) (n : ℕ) (history : List ℤ) : Type 0 where
  pub limits : InLimits u.index.counts
  pub steps : n ≤ most_steps
  pub whole : length sheet ≡ n * u.index.counts.agents
  pub blank : Blank 0 history

-- the entries of a domain, with their names and crews
abbrev pub Entered : Domain → List Entry → ℕ → Type 0
Entered d entries count = d.entries ≡ map (λ i. entry_said (get_or entries i no_entry)) (numbers 0 count)

-- a plan keeps the limits
pub record Limited (p : Plan) : Type 0 where
  pub agents : p.counts.agents ≤ most_agents
  pub fluents : p.counts.fluents ≤ most_fluents
  pub entries : p.counts.entries ≤ most_entries
  pub laws : Few p.runs

-- and the sheet has so many steps of it, and nothing of the history is written from a place on
pub record Runnable (p : Plan) (sheet : List ℕ) (n : ℕ) (history : List ℤ) (from : ℕ) : Type 0 where
  pub limits : Limited p
  pub steps : n ≤ most_steps
  pub whole : length sheet ≡ n * p.counts.agents
  pub blank : Blank from history

-- a plan is a domain's: the held laws, who may read them and where those of each kind stand, its fluents, entries and agents
pub record Planned (d : Domain) (held : List ℕ) (l : ℕ) (p : Plan) : Type 0 where
  pub lawful : Lawful d held l
  pub owned : Owned d p.owners
  pub ordered : Ordered held p.owners l p.runs
  pub ranged : Ranged d p.fluents p.counts.fluents
  pub entered : Entered d p.entries p.counts.entries
  pub agents : d.agents ≡ p.counts.agents

-- a run over n steps ends within them, and at the last of them where it accepts
pub record RanThrough (r : Judged) (n : ℕ) : Type 0 where
  pub most : r.states ≤ n + 1
  pub all : verdict_of r.verdict ≡ accepted → r.states ≡ n + 1

-- what a run leaves: its verdict, and the states that it reached in the history
abbrev pub judged_of : ℕ → Judged → List ℤ → paper.Judged
judged_of w r history = record { states = states_of w r.states history; verdict = verdict_of r.verdict }
