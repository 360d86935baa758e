-- What `waroth_counts` answers of what `index_of` finds. Assumes nothing.
use Prim.Native.Nat.{ℕ, ◌≤◌}
use mathlib.Core.Path.{◌≡◌, sym, ap, ◌∙◌}
use mathlib.Core.List.{List}
use Rattle.std.specs.Prelude.{None, Some}
use Rattle.bmap.specs.Refusal.{refused}
use Rattle.bmap.specs.Limits.{most_agents, most_fluents, most_entries, most_laws}
use Rattle.bmap.specs.Store.{domain_in}
use Rattle.bmap.specs.declared.limits.Counts.{Counts}
use Rattle.index.specs.declared.Index.{Index}
use Rattle.index.proofs.DomainLaws.{counts_are}
use Rattle.domain.specs.Found.{found_in}
use Rattle.domain.proofs.Accepted.{found_ok, found_none}
use Rattle.desk.specs.Numbers.{four_bytes, counts_number}

-- what fits a byte each
pub record Few (n : Counts) : Type 0 where
  pub agents : n.agents ≤ most_agents
  pub fluents : n.fluents ≤ most_fluents
  pub entries : n.entries ≤ most_entries
  pub laws : n.laws ≤ most_laws

module _ (s : List ℕ) where
  pub counts_none : None ≡ found_in s → counts_number (refused 15) ≡ counts_number (domain_in s)
  counts_none e = sym (ap counts_number (found_none s (sym e)))

  module _ (x : Index) (e : Some x ≡ found_in s) where
    pub counts_few : Few x.counts
    counts_few =
        let here = (found_ok s x (sym e)).sound in
        record { agents = here.agents; fluents = here.fluents; entries = here.entries; laws = here.laws }

    pub counts_told : four_bytes x.counts ≡ counts_number (domain_in s)
    counts_told = sym (ap four_bytes (counts_are s x)) ∙ sym (ap counts_number (found_ok s x (sym e)).domain)

pub ruleset counts_found = (counts_few, counts_none, counts_told)
