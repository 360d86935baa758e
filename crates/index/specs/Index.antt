-- The index of a store, and the domain that store and index make.
use Rattle.std.specs.Prelude.{ℕ, ◌+◌, ◌≤◌, ◌<◌, ◌≡◌, List, map, pos, length, get_or, take, drop}
use Rattle.std.proofs.Math.Option.{Option, some}
use Rattle.bmap.specs.Plain.{numbers, maybe}
use Rattle.bmap.specs.Limits.{most_agents, most_fluents, most_knowledge, most_entries, most_laws, frame_size}
use Rattle.bmap.specs.Tree.{always}
use Rattle.bmap.specs.Domain.{Domain, Fluent, Knows, Entry, Law, must, static}
use Rattle.bmap.specs.Payload.{law_in}
use Rattle.index.specs.declared.Index.{Index}
use Rattle.index.specs.declared.Fluent.{Fluent as FluentRow}
use Rattle.index.specs.declared.Knowledge.{Knowledge as KnowledgeRow}
use Rattle.index.specs.declared.Entry.{Entry as EntryRow}

-- the frame at a place: as many bytes as its count says and the store has
unfoldable pub frame_bytes : List ℕ → ℕ → List ℕ
frame_bytes s at = take (get_or s (at + 1) 0 + 2) (drop at s)

-- all zeros: what stands in an array after the last
abbrev pub no_fluent : FluentRow
no_fluent = record { lowest = pos 0; highest = pos 0; start = pos 0; limit = 0 }

abbrev pub no_knowledge : KnowledgeRow
no_knowledge = record { fluent = 0; knowers = 0 }

abbrev pub no_entry : EntryRow
no_entry = record { name = 0; crew = 0 }

-- what the rows say
abbrev pub fluent_said : FluentRow → Fluent
fluent_said r = record { lowest = r.lowest; highest = r.highest; start = r.start; limit = r.limit }

abbrev pub knowledge_said : KnowledgeRow → Knows
knowledge_said r = record { fluent = r.fluent; mask = r.knowers }

abbrev pub entry_said : EntryRow → Entry
entry_said r = record { name = r.name; crew = r.crew }

abbrev pub fluent_at : Index → ℕ → Fluent
fluent_at x f = fluent_said (get_or x.fluents f no_fluent)

abbrev pub knowledge_at : Index → ℕ → Knows
knowledge_at x i = knowledge_said (get_or x.knowledge i no_knowledge)

abbrev pub entry_of : Index → ℕ → Entry
entry_of x i = entry_said (get_or x.entries i no_entry)

abbrev pub law_bytes : List ℕ → Index → ℕ → List ℕ
law_bytes s x i = frame_bytes s (get_or x.laws i 0)

-- some law, where there is none
abbrev pub no_law : Law
no_law = must static always

-- law i, from its bytes
unfoldable pub law_of : List ℕ → Index → ℕ → Option Law
law_of s x i = law_in x.counts (get_or (law_bytes s x i) 0 0) (drop 2 (law_bytes s x i))

abbrev pub law_at : List ℕ → Index → ℕ → Law
law_at s x i = maybe (law_of s x i) no_law (λ l. l)

-- law i of a domain
abbrev pub law_number : Domain → ℕ → Law
law_number d i = get_or d.laws i no_law

-- the domain of which a store and an index speak
unfoldable pub domain_of : List ℕ → Index → Domain
domain_of s x = record {
  agents = x.counts.agents;
  fluents = map (fluent_at x) (numbers 0 x.counts.fluents);
  knowledge = map (knowledge_at x) (numbers 0 x.counts.knowledge);
  entries = map (entry_of x) (numbers 0 x.counts.entries);
  laws = map (law_at s x) (numbers 0 x.counts.laws);
}

-- an index of an accepted store: its numbers keep their limits, and each of its laws is one, in no more bytes than a frame has
pub record Sound (s : List ℕ) (x : Index) : Type 0 where
  pub some_agent : 1 ≤ x.counts.agents
  pub agents : x.counts.agents ≤ most_agents
  pub fluents : x.counts.fluents ≤ most_fluents
  pub knowledge : x.counts.knowledge ≤ most_knowledge
  pub entries : x.counts.entries ≤ most_entries
  pub laws : x.counts.laws ≤ most_laws
  pub law : (i : ℕ) → i < x.counts.laws → law_of s x i ≡ some (law_at s x i)
  pub short : (i : ℕ) → i < x.counts.laws → length (law_bytes s x i) ≤ frame_size
