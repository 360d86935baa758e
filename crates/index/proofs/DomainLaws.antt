-- The domain of which a store and an index speak: its counts and its laws. Assumes nothing.
use Prim.Native.Nat.{ℕ, ◌<◌}
use mathlib.Core.Path.{◌≡◌, ap, ◌∙◌}
use mathlib.Core.List.{List}
use lib.ListN.{length}
use Rattle.bmap.specs.Accept.{counts_of}
use Rattle.bmap.proofs.NumbersLaws.{map_length, map_at}
use Rattle.index.specs.declared.Index.{Index}
use Rattle.index.specs.Index.{fluent_at, knowledge_at, entry_of, law_at, no_law, law_number, domain_of}

module _ (s : List ℕ) (x : Index) where
  -- the counts of the domain are the index's own
  pub counts_are : counts_of (domain_of s x) ≡ x.counts
  unfolding domain_of
  counts_are =
      let n = x.counts in
      let d = counts_of (domain_of s x) in
      ap (λ (k : ℕ). record { agents = n.agents; fluents = k; knowledge = d.knowledge; entries = d.entries; laws = d.laws }) (map_length (fluent_at x) 0 n.fluents)
      ∙ ap (λ (k : ℕ). record { agents = n.agents; fluents = n.fluents; knowledge = k; entries = d.entries; laws = d.laws }) (map_length (knowledge_at x) 0 n.knowledge)
      ∙ ap (λ (k : ℕ). record { agents = n.agents; fluents = n.fluents; knowledge = n.knowledge; entries = k; laws = d.laws }) (map_length (entry_of x) 0 n.entries)
      ∙ ap (λ (k : ℕ). record { agents = n.agents; fluents = n.fluents; knowledge = n.knowledge; entries = n.entries; laws = k }) (map_length (law_at s x) 0 n.laws)

  pub law_count : length (domain_of s x).laws ≡ x.counts.laws
  unfolding domain_of
  law_count = map_length (law_at s x) 0 x.counts.laws

  pub law_number_lem : (i : ℕ) → i < x.counts.laws → law_number (domain_of s x) i ≡ law_at s x i
  unfolding domain_of
  law_number_lem i h = map_at (law_at s x) x.counts.laws i no_law h
