-- The index of an accepted store, by its domain.
use Rattle.std.specs.Prelude.{ℕ, ◌+◌, ◌-◌, Option as Maybe, None, Some, List, [], ◌∷◌, ◌++◌, map, leb, length, replicate}
use Rattle.bmap.specs.Plain.{if_else, maybe}
use Rattle.bmap.specs.Limits.{most_fluents, most_knowledge, most_entries, most_laws}
use Rattle.bmap.specs.Refusal.{Answer, got, refused}
use Rattle.bmap.specs.Line.{Frame, stored, executable_kind}
use Rattle.bmap.specs.Domain.{Domain, Fluent, Knows, Entry}
use Rattle.bmap.specs.Accept.{counts_of}
use Rattle.bmap.specs.Store.{frames_in, domain_in}
use Rattle.index.specs.declared.Index.{Index}
use Rattle.index.specs.declared.Fluent.{Fluent as FluentRow}
use Rattle.index.specs.declared.Knowledge.{Knowledge as KnowledgeRow}
use Rattle.index.specs.declared.Entry.{Entry as EntryRow}
use Rattle.index.specs.Index.{no_fluent, no_knowledge, no_entry}

-- "zeros after": a list, and z from there to the size
abbrev pub row : {A : Type 0} → ℕ → A → List A → List A
row size z l = l ++ replicate (size - length l) z

-- the places of the laws' frames, A5 to A9, where the first of the frames stands at a place
unfoldable pub law_places : ℕ → List Frame → List ℕ
law_places at [] = []
law_places at (f ∷ frames) =
    let rest : List ℕ = law_places (at + length (stored f)) frames in if_else (leb executable_kind f.kind) (at ∷ rest) rest

-- the numbers as the code keeps them
abbrev pub fluent_row : Fluent → FluentRow
fluent_row x = record { lowest = x.lowest; highest = x.highest; start = x.start; limit = x.limit }

abbrev pub knowledge_row : Knows → KnowledgeRow
knowledge_row x = record { fluent = x.fluent; knowers = x.mask }

abbrev pub entry_row : Entry → EntryRow
entry_row x = record { name = x.name; crew = x.crew }

-- a domain's numbers in their order, and the places of its laws
unfoldable pub index_with : Domain → List ℕ → Index
index_with d places = record {
  counts = counts_of d;
  fluents = row most_fluents no_fluent (map fluent_row d.fluents);
  knowledge = row most_knowledge no_knowledge (map knowledge_row d.knowledge);
  entries = row most_entries no_entry (map entry_row d.entries);
  laws = row most_laws 0 places;
}

abbrev pub found_of : List ℕ → Answer Domain → Maybe Index
found_of places (got d) = Some (index_with d places)
found_of places (refused n) = None

-- what is found in a store: the index of its domain, or nothing where it is not accepted
unfoldable pub found_in : List ℕ → Maybe Index
found_in s = found_of (maybe (frames_in s) [] (law_places 0)) (domain_in s)
