-- Sets of agents, entries and fluents as masks: "Mask bit i stands for agent i".
use Rattle.std.specs.Prelude.{ℕ, zero, suc, ◌+◌, ◌*◌, ◌≤◌, ◌<◌, ◌≡◌, Bool, true, false, not, List, eqb, length, get_or}
use Rattle.std.specs.Int.Bits.{bit_or}
use Rattle.bmap.specs.Plain.{if_else, all, numbers}
use Rattle.bmap.specs.Limits.{most_agents, most_entries}
use Rattle.bmap.specs.Domain.{Names, follows}
use Rattle.index.specs.declared.Entry.{Entry}
use Rattle.index.specs.Index.{no_entry}
use Rattle.judge.specs.declared.acting.Occurs.{Occurs}

abbrev pub flag_of : Bool → ℕ
flag_of true = 1
flag_of false = 0

-- the mask of the n numbers from i on that pass: bit 0 stands for i
unfoldable pub mask_from : (ℕ → Bool) → ℕ → ℕ → ℕ
mask_from p i zero = 0
mask_from p i (suc n) = mask_from p (suc i) n * 2 + flag_of (p i)

-- the agents of those of the n masks from i on that pass
unfoldable pub union_from : (ℕ → Bool) → (ℕ → ℕ) → ℕ → ℕ → ℕ
union_from p mask i zero = 0
union_from p mask i (suc n) = if_else (p i) (bit_or (union_from p mask (suc i) n) (mask i)) (union_from p mask (suc i) n)

-- "An entry occurs in a step when every agent of its crew names its action", for a step that names something for each agent
unfoldable pub joins : Names → ℕ → ℕ → Bool
joins names action crew = all (follows names (record { name = action; crew = crew })) (numbers 0 (length names))

-- a name is a byte
abbrev pub name_count : ℕ
name_count = 256

-- agent a gives another name than k
abbrev pub differs : Names → ℕ → ℕ → Bool
differs names k a = not (eqb (get_or names a 0) k)

-- a table has, for each name, the agents who give another
abbrev pub Others : Names → List ℕ → Type 0
Others names others = (k : ℕ) → k < name_count → get_or others k 0 ≡ mask_from (differs names k) 0 (length names)

abbrev pub joins_at : Names → List Entry → ℕ → Bool
joins_at names entries i = joins names (get_or entries i no_entry).name (get_or entries i no_entry).crew

abbrev pub crew_at : List Entry → ℕ → ℕ
crew_at entries i = (get_or entries i no_entry).crew

-- the entries that occur, and the agents who belong to one of them
abbrev pub occurs_of : Names → List Entry → ℕ → Occurs
occurs_of names entries n = record {
  entries = mask_from (joins_at names entries) 0 n;
  agents = union_from (joins_at names entries) (crew_at entries) 0 n;
}

-- so many agents, and so many entries
pub record Crewed (agents n : ℕ) : Type 0 where
  pub few : agents ≤ most_agents
  pub entries : n ≤ most_entries

-- there was a step before, and it had the same names
pub record Again (names before : Names) : Type 0 where
  pub some : 0 < length before
  pub same : before ≡ names
