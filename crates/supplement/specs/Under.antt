-- What is found of a domain and a supplement accepted for it.
use Rattle.std.specs.Prelude.{ℕ, true, false, Option as Maybe, None, Some, Result, Ok, Err, List, replicate}
use Rattle.bmap.specs.Limits.{most_fluents, most_knowledge, most_entries, most_laws}
use Rattle.bmap.specs.Refusal.{Answer, got, refused, then}
use Rattle.bmap.specs.Store.{domain_in}
use Rattle.bmap.specs.Supplement.{Replacement, supplement_in}
use Rattle.index.specs.Index.{no_fluent, no_knowledge, no_entry}
use Rattle.index.specs.declared.Index.{Index}
use Rattle.domain.specs.Found.{found_in}
use Rattle.supplement.specs.Check.{over_of}
use Rattle.supplement.specs.declared.under.Under.{Under}

-- the index that is found, all zeros where there is no domain
abbrev pub no_index : Index
no_index = record {
  counts = record { agents = 0; fluents = 0; knowledge = 0; entries = 0; laws = 0 };
  fluents = replicate most_fluents no_fluent;
  knowledge = replicate most_knowledge no_knowledge;
  entries = replicate most_entries no_entry;
  laws = replicate most_laws 0;
}

abbrev pub index_found : Maybe Index → Index
index_found None = no_index
index_found (Some x) = x

-- the domain's index, and where the replacements stand; no replacement where it is refused
abbrev pub under_of : Index → Answer (List Replacement) → Under
under_of x (got s) = record { ok = true; index = x; over = over_of s }
under_of x (refused n) = record { ok = false; index = x; over = replicate most_laws 0 }

unfoldable pub under_in : List ℕ → List ℕ → Under
under_in store supplement = under_of (index_found (found_in store)) (then (domain_in store) (λ d. supplement_in d supplement))

-- a domain alone, by what was found of it: an accepted one's index, or that of one that is not
abbrev pub under_alone : Result Index Index → Under
under_alone (Ok x) = record { ok = true; index = x; over = replicate most_laws 0 }
under_alone (Err x) = record { ok = false; index = x; over = replicate most_laws 0 }
