-- What the judge's functions may take for granted of the bytes and numbers that they are lent: that they are a domain's.
use Rattle.std.specs.Prelude.{Option, Some, None, ℕ, ◌+◌, ◌-◌, ◌*◌, ◌^◌, ◌≤◌, ◌<◌, ◌≡◌, Bool, true, List, [], ◌++◌, ℤ, length, eqb, get_or, take, drop}
use Rattle.std.proofs.Math.Option.{some}
use Rattle.bmap.specs.Plain.{any, if_else}
use Rattle.bmap.specs.Limits.{most_agents, most_fluents, most_steps, most_entries, most_laws, most_payload, frame_size}
use Rattle.bmap.specs.Line.{effect_kind, static_kind, concurrency_kind, goal_kind}
use Rattle.bmap.specs.Tree.{Con}
use Rattle.bmap.specs.Meaning.{History}
use Rattle.bmap.specs.Domain.{Domain, Names, Law, executable, effect, must, entry_at, has, occurs_in, knows, readable}
use Rattle.bmap.specs.Judge.{each, placed, carries}
use Rattle.bmap.specs.Payload.{law_in, asks}
use Rattle.bmap.specs.Accept.{counts_of}
use Rattle.index.specs.declared.Entry.{Entry}
use Rattle.index.specs.declared.Knowledge.{Knowledge}
use Rattle.index.specs.Index.{frame_bytes, law_number, no_knowledge}
use Rattle.judge.specs.Masks.{union_from, crew_at}
use Rattle.law.specs.Evaluate.{cell_at, in_step}
use Rattle.supplement.specs.Force.{payload_of}
use Rattle.judge.specs.Answer.{pass_of}
use Rattle.judge.specs.declared.acting.Acting.{Acting}
use Rattle.judge.specs.declared.reading.Run.{Run}
use Rattle.judge.specs.declared.reading.Runs.{Runs}

-- the parts that the laws of every kind have
abbrev pub con_of : Law → Con
con_of (executable e c) = c
con_of (effect e c f x) = c
con_of (must s c) = c

-- "Code 29 is refused in A7 and A9"
abbrev pub asks_of : Law → Bool
asks_of (executable e c) = true
asks_of (effect e c f x) = true
asks_of (must s c) = asks s

-- where its constraint stands in a frame
abbrev pub place_of : Law → ℕ
place_of (executable e c) = 3
place_of (effect e c f x) = 3
place_of (must s c) = 2

-- the bytes start with this law: its kind, a byte that says nothing, its payload
pub record Says (d : Domain) (bytes : List ℕ) (l : Law) : Type 0 where
  pub payload : List ℕ
  pub more : List ℕ
  pub stands : drop 2 bytes ≡ payload ++ more
  pub law : law_in (counts_of d) (get_or bytes 0 0) payload ≡ some l
  pub short : length payload ≤ most_payload

-- the bytes from law i on, where laws are held: each has room for a whole frame
abbrev pub frame_of : List ℕ → ℕ → List ℕ
frame_of held i = drop (frame_size * i) held

-- a kind and a payload, as they are held
pub record HeldLaw (kind : ℕ) (payload bytes : List ℕ) : Type 0 where
  pub first : get_or bytes 0 0 ≡ kind
  pub rest : take (length payload) (drop 2 bytes) ≡ payload

-- the kind of law i, which is that of the domain's frame: what stands in for a law has the law's kind
abbrev pub kind_there : List ℕ → List ℕ → ℕ → ℕ
kind_there store laws i = get_or (frame_bytes store (get_or laws i 0)) 0 0

-- the first n laws in force are held, those that a frame has room for
pub record Held (store laws supplement over : List ℕ) (n : ℕ) (held : List ℕ) : Type 0 where
  pub law : (i : ℕ) → i < n → length (payload_of store laws supplement over i) ≤ most_payload → HeldLaw (kind_there store laws i) (payload_of store laws supplement over i) (frame_of held i)

-- the held laws are the domain's
pub record Lawful (d : Domain) (held : List ℕ) (n : ℕ) : Type 0 where
  pub count : length d.laws ≡ n
  pub law : (i : ℕ) → i < n → Says d (frame_of held i) (law_number d i)

-- whose law it is, if its crew may read it: "a law that names a fluent known to nobody in the crew counts as false"
abbrev pub owner_of : Domain → Law → Option ℕ
owner_of d (executable e c) = if_else (readable d (entry_at d e) c) (Some e) None
owner_of d (effect e c f x) = None
owner_of d (must s c) = None

-- a table has the owner of each law
abbrev pub Owned : Domain → List (Option ℕ) → Type 0
Owned d owners = (i : ℕ) → i < length d.laws → get_or owners i None ≡ owner_of d (law_number d i)

-- the agents who know a fluent: "several frames add up"
abbrev pub knowers_of : List Knowledge → ℕ → ℕ
knowers_of knowledge f = union_from (λ i. eqb (get_or knowledge i no_knowledge).fluent f) (λ i. (get_or knowledge i no_knowledge).knowers) 0 (length knowledge)

-- a table for so many fluents and agents
pub record Tabled (w agents : ℕ) : Type 0 where
  pub fluents : w ≤ most_fluents
  pub few : agents ≤ most_agents

-- a table has the agents who know each fluent, and a list the crew of each entry
pub record Knowing (d : Domain) (table : List ℕ) (entries : List Entry) (agents : ℕ) : Type 0 where
  pub fluents : length d.fluents ≡ length table
  pub count : d.agents ≡ agents
  pub knowers : (f a : ℕ) → f < length table → has (get_or table f 0) a ≡ knows d a f
  pub crew : (e : ℕ) → e < length d.entries → (entry_at d e).crew ≡ crew_at entries e

-- of the first k numbers, those that have something lie in a run, which starts at n where there is none
pub record Spans (has : ℕ → Type 0) (n k : ℕ) (run : Run) : Type 0 where
  pub starts : run.from ≤ n
  pub ends : run.to ≤ k
  pub before : (i : ℕ) → i < run.from → i < k → has i → ⊥
  pub after : (i : ℕ) → run.to ≤ i → i < k → has i → ⊥

-- the laws of a kind lie in a run
abbrev pub Within : List ℕ → ℕ → ℕ → Run → Type 0
Within held n kind = Spans (λ i. get_or (frame_of held i) 0 0 ≡ kind) n n

-- the laws of an owner lie in a run
abbrev pub Own : List (Option ℕ) → ℕ → ℕ → Run → Type 0
Own owners n i = Spans (λ l. get_or owners l None ≡ Some i) n n

abbrev pub no_run : Run
no_run = record { from = 0; to = 0 }

-- the laws of each entry
abbrev pub Owns : List (Option ℕ) → ℕ → List Run → Type 0
Owns owners n own = (i : ℕ) → i < most_entries → Own owners n i (get_or own i no_run)

pub record Ordered (held : List ℕ) (owners : List (Option ℕ)) (n : ℕ) (runs : Runs) : Type 0 where
  pub executable : Owns owners n runs.own
  pub effect : Within held n effect_kind runs.effect
  pub fixed : Within held n static_kind runs.fixed
  pub concurrency : Within held n concurrency_kind runs.concurrency
  pub goal : Within held n goal_kind runs.goal

-- the numbers of laws keep their limit
pub record Few (runs : Runs) : Type 0 where
  pub own : (i : ℕ) → i < most_entries → (get_or runs.own i no_run).to ≤ most_laws
  pub effect : runs.effect.to ≤ most_laws
  pub fixed : runs.fixed.to ≤ most_laws
  pub concurrency : runs.concurrency.to ≤ most_laws
  pub goal : runs.goal.to ≤ most_laws

-- the levels of the states 0 to j are those of a history, and the marks of the steps 1 to j + 1 its occurrences, if they are asked
pub record Seen (asked : Bool) (d : Domain) (h : History) (history : List ℤ) (j : ℕ) : Type 0 where
  pub within : j ≤ most_steps
  pub level : (k f : ℕ) → k ≤ j → f < length d.fluents → h.level k f ≡ cell_at history k f
  pub acted : asked ≡ true → (k e : ℕ) → 1 ≤ k → k ≤ j + 1 → e < length d.entries → h.occurred e k ≡ in_step history e k

-- a mask has the entries that occur in a step
abbrev pub Occurring : Domain → Names → ℕ → Type 0
Occurring d names mask = (e : ℕ) → e < length d.entries → occurs_in d names (entry_at d e) ≡ has mask e

-- a mask has the agents who belong to an occurring entry with the action that they name
abbrev pub Belonging : Domain → Names → ℕ → Type 0
Belonging d names mask = (a : ℕ) → a < length names → any (carries d names a (get_or names a 0)) d.entries ≡ has mask a

-- what is found of the names of a step
pub record Acts (d : Domain) (names : Names) (acting : Acting) : Type 0 where
  pub occurring : Occurring d names acting.entries
  pub few : acting.entries < 2 ^ length d.entries
  pub agents : pass_of acting.placed ≡ each (placed d names) names

-- the marks of the steps 1 to m of a sheet
abbrev pub Acted : Domain → List Names → List ℤ → ℕ → Type 0
Acted d sheet history m = (k e : ℕ) → 1 ≤ k → k ≤ m → e < length d.entries → occurs_in d (get_or sheet (k - 1) []) (entry_at d e) ≡ in_step history e k
