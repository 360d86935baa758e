-- A domain: its agents, fluents, knowledge, entries and laws, and what a step's names make of its entries.
use Rattle.std.specs.Prelude.{ℕ, ◌/◌, ◌%◌, ◌^◌, Bool, List, eqb, ℤ, get_or}
use Rattle.bmap.specs.Plain.{both, implies, any, all, numbers}
use Rattle.bmap.specs.Tree.{Expr, Con, named_c}

pub record Fluent : Type 0 where
  pub lowest : ℤ
  pub highest : ℤ
  pub start : ℤ
  -- K6: "the largest change allowed in one step"; 0 where there is "no such limit"
  pub limit : ℕ

pub record Knows : Type 0 where
  pub fluent : ℕ
  pub mask : ℕ

pub record Entry : Type 0 where
  pub name : ℕ
  pub crew : ℕ

-- when a law without an entry must hold: in each state, in each step, at the end
pub data Scope : Type 0 where
  static concurrency goal : Scope

pub data Law : Type 0 where
  executable : ℕ → Con → Law
  effect : ℕ → Con → ℕ → Expr → Law
  must : Scope → Con → Law

pub record Domain : Type 0 where
  pub agents : ℕ
  pub fluents : List Fluent
  pub knowledge : List Knows
  pub entries : List Entry
  pub laws : List Law

-- what each agent names in one step: an action's name, or 0 (idle)
abbrev pub Names : Type 0
Names = List ℕ

abbrev pub State : Type 0
State = List ℤ

abbrev pub entry_at : Domain → ℕ → Entry
entry_at d i = get_or d.entries i (record { name = 0; crew = 0 })

-- "Mask bit i stands for agent i"
abbrev pub has : ℕ → ℕ → Bool
has mask i = eqb (mask / 2 ^ i % 2) 1

-- "An entry occurs in a step when every agent of its crew names its action"
abbrev pub follows : Names → Entry → ℕ → Bool
follows names e a = implies (has e.crew a) (eqb (get_or names a 0) e.name)

unfoldable pub occurs_in : Domain → Names → Entry → Bool
occurs_in d names e = all (follows names e) (numbers 0 d.agents)

-- "these agents know it; several frames add up"
abbrev pub knows : Domain → ℕ → ℕ → Bool
knows d a f = any (λ (k : Knows). both (eqb k.fluent f) (has k.mask a)) d.knowledge

-- some agent of the crew knows the fluent
unfoldable pub known_to : Domain → Entry → ℕ → Bool
known_to d e f = any (λ a. both (has e.crew a) (knows d a f)) (numbers 0 d.agents)

-- "a law that names a fluent known to nobody in the crew counts as false and is not read"
unfoldable pub readable : Domain → Entry → Con → Bool
readable d e c = all (known_to d e) (named_c c)
