-- What the frames of a domain come to, one after the other, in the code's own arrays.
use Rattle.std.specs.Prelude.{ℕ, ◌+◌, Bool, true, List, map, eqb, leb, ltb, set, take}
use Rattle.bmap.specs.Plain.{both, if_else, any, all, numbers}
use Rattle.bmap.specs.Limits.{most_entries}
use Rattle.bmap.specs.Refusal.{Answer}
use Rattle.bmap.specs.Line.{Frame, agents_kind, fluent_kind, knowledge_kind, entry_kind, executable_kind}
use Rattle.bmap.specs.Domain.{Entry}
use Rattle.bmap.specs.Payload.{Item, byte, fluent_in, knowledge_in, entry_in}
use Rattle.bmap.specs.Accept.{Partial, executes, checked}
use Rattle.bmap.specs.declared.limits.Counts.{Counts}
use Rattle.index.specs.declared.Index.{Index}
use Rattle.index.specs.Index.{entry_said}
use Rattle.domain.specs.declared.progress.Progress.{Progress}
use Rattle.domain.specs.Found.{fluent_row, knowledge_row, entry_row, index_with}

-- what the frames that make a domain come to, where its laws stand at these places
unfoldable pub progress_of : Partial → List ℕ → Progress
progress_of p places = record {
  latest = p.latest;
  index = index_with p.domain places;
  ready = map (λ i. any (executes i) p.domain.laws) (numbers 0 most_entries);
}

-- the entries so far
abbrev pub entries_in : Index → List Entry
entries_in x = map entry_said (take x.counts.entries x.entries)

-- the check of one frame after them
abbrev pub checked_in : Progress → Frame → Answer Item
checked_in x f = checked x.latest x.index.counts (entries_in x.index) f

-- the counts with one frame more, of a kind, whose payload begins with x
unfoldable pub counted : Counts → ℕ → ℕ → Counts
counted n kind x = record {
  agents = if_else (eqb kind agents_kind) x n.agents;
  fluents = if_else (eqb kind fluent_kind) (n.fluents + 1) n.fluents;
  knowledge = if_else (eqb kind knowledge_kind) (n.knowledge + 1) n.knowledge;
  entries = if_else (eqb kind entry_kind) (n.entries + 1) n.entries;
  laws = if_else (leb executable_kind kind) (n.laws + 1) n.laws;
}

-- with one frame more, which stands at a place
unfoldable pub noted : Progress → ℕ → Frame → Progress
noted x at f =
    let p : List ℕ = f.payload in
    let n : Counts = x.index.counts in
    record {
      latest = f.kind;
      index = record {
        counts = counted n f.kind (byte p 0);
        fluents = if_else (eqb f.kind fluent_kind) (set x.index.fluents n.fluents (fluent_row (fluent_in p))) x.index.fluents;
        knowledge = if_else (eqb f.kind knowledge_kind) (set x.index.knowledge n.knowledge (knowledge_row (knowledge_in p))) x.index.knowledge;
        entries = if_else (eqb f.kind entry_kind) (set x.index.entries n.entries (entry_row (entry_in p))) x.index.entries;
        laws = if_else (leb executable_kind f.kind) (set x.index.laws n.laws at) x.index.laws;
      };
      ready = if_else (eqb f.kind executable_kind) (set x.ready (byte p 0) true) x.ready;
    }

-- `complete`, asked of the counts and of a mark for each entry that has an executability law
unfoldable pub complete_in : Progress → Bool
complete_in x =
    let n : Counts = x.index.counts in
    both (ltb 0 n.agents) (both (ltb 0 n.fluents) (both (ltb 0 n.entries) (all (λ b. b) (take n.entries x.ready))))
