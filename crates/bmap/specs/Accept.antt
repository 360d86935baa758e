-- Frames, one after the other, to a domain.
use Rattle.std.specs.Prelude.{ℕ, suc, Bool, false, not, List, [], ◌∷◌, ◌++◌, eqb, leb, ltb, length}
use Rattle.bmap.specs.Plain.{both, implies, if_else, any, all, numbers}
use Rattle.bmap.specs.Limits.{most_fluents, most_knowledge, most_entries, most_laws}
use Rattle.bmap.specs.Refusal.{Answer, got, need, known, then, Reading, read, at_line}
use Rattle.bmap.specs.Line.{Frame, agents_kind, fluent_kind, knowledge_kind, entry_kind, goal_kind}
use Rattle.bmap.specs.Domain.{Domain, Entry, Law, executable, effect, must}
use Rattle.bmap.specs.Payload.{Item, agents, fluent, knowledge, entry, law, entry_in, item_in}
use Rattle.bmap.specs.declared.limits.Counts.{Counts}

-- the frames so far: the kind of the latest, and the domain that they make
pub record Partial : Type 0 where
  pub latest : ℕ
  pub domain : Domain

abbrev pub nothing : Partial
nothing = record { latest = 0; domain = record { agents = 0; fluents = []; knowledge = []; entries = []; laws = [] } }

abbrev pub counts_of : Domain → Counts
counts_of d = record {
  agents = d.agents;
  fluents = length d.fluents;
  knowledge = length d.knowledge;
  entries = length d.entries;
  laws = length d.laws;
}

-- 3: "kind unknown, out of order": "A domain's kinds never decrease from line to line"
unfoldable pub in_order : ℕ → ℕ → Bool
in_order latest kind = both (both (leb agents_kind kind) (leb kind goal_kind)) (leb latest kind)

-- 5: "At most 1 A1, 32 A2, 64 A3, 64 A4 and 128 laws (A5 to A9, numbered together from 0)"
unfoldable pub room : Counts → ℕ → Bool
room n kind =
    if_else (eqb kind agents_kind) (eqb n.agents 0)
    (if_else (eqb kind fluent_kind) (ltb n.fluents most_fluents)
    (if_else (eqb kind knowledge_kind) (ltb n.knowledge most_knowledge)
    (if_else (eqb kind entry_kind) (ltb n.entries most_entries) (ltb n.laws most_laws))))

-- 6: "entry with name and mask of an earlier one"
abbrev pub alike : Entry → Entry → Bool
alike a b = both (eqb a.name b.name) (eqb a.crew b.crew)

unfoldable pub fresh : List Entry → Frame → Bool
fresh earlier f = implies (eqb f.kind entry_kind) (not (any (alike (entry_in f.payload)) earlier))

-- "line by line 1, 2, 3, 5, 4, 6": 1 and 2 are the line's own. The frame is held against the latest kind, the counts of
-- what was taken so far, and the entries
unfoldable pub checked : ℕ → Counts → List Entry → Frame → Answer Item
checked latest n earlier f =
    need (in_order latest f.kind) 3
    (need (room n f.kind) 5
    (then (known 4 (item_in n f.kind f.payload)) (λ item.
    need (fresh earlier f) 6 (got item))))

-- "Agents, fluents and entries are numbered from 0 in order of appearance"
abbrev pub add : Item → Domain → Domain
add (agents n) d = record { agents = n; fluents = d.fluents; knowledge = d.knowledge; entries = d.entries; laws = d.laws }
add (fluent x) d = record { agents = d.agents; fluents = d.fluents ++ (x ∷ []); knowledge = d.knowledge; entries = d.entries; laws = d.laws }
add (knowledge x) d = record { agents = d.agents; fluents = d.fluents; knowledge = d.knowledge ++ (x ∷ []); entries = d.entries; laws = d.laws }
add (entry x) d = record { agents = d.agents; fluents = d.fluents; knowledge = d.knowledge; entries = d.entries ++ (x ∷ []); laws = d.laws }
add (law x) d = record { agents = d.agents; fluents = d.fluents; knowledge = d.knowledge; entries = d.entries; laws = d.laws ++ (x ∷ []) }

unfoldable pub accept : Partial → Frame → Answer Partial
accept p f = then (checked p.latest (counts_of p.domain) p.domain.entries f) (λ item. got (record { latest = f.kind; domain = add item p.domain }))

-- an executability law of entry i
abbrev pub executes : ℕ → Law → Bool
executes i (executable e c) = eqb e i
executes i (effect e c f x) = false
executes i (must s c) = false

-- 7: "at the end: no A1, A2 or A4, or an entry without A5"
unfoldable pub complete : Domain → Bool
complete d =
    both (ltb 0 d.agents)
    (both (ltb 0 (length d.fluents))
    (both (ltb 0 (length d.entries))
    (all (λ i. any (executes i) d.laws) (numbers 0 (length d.entries)))))

abbrev pub finished : Partial → Answer Domain
finished p = need (complete p.domain) 7 (got p.domain)

-- the lines' frames in turn, after so many lines: "Readers report the line from 1; 7 the count of lines"
unfoldable pub taken_from : ℕ → Partial → List (Answer Frame) → Reading Domain
taken_from lines p [] = at_line lines (finished p) read
taken_from lines p (f ∷ frames) = at_line (suc lines) (then f (accept p)) (λ q. taken_from (suc lines) q frames)

abbrev pub taken : List (Answer Frame) → Reading Domain
taken frames = taken_from 0 nothing frames
