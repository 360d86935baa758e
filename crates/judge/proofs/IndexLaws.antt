-- The domain with its laws replaced, of a sound index and a supplement accepted for it, as the judge's functions take it for granted.
-- Assumes nothing.
use Prim.Native.Nat.{ℕ, ◌≤◌, ◌<◌}
use mathlib.Core.Path.{◌≡◌, refl, sym, ap, ◌∙◌, subst}
use mathlib.Core.List.{List}
use lib.ListN.{length, get_or, take}
use lib.Seq.{get_or-take, length-take-le}
use Rattle.bmap.specs.Domain.{Domain, Entry, has}
use Rattle.bmap.specs.Payload.{law_in}
use Rattle.bmap.specs.Accept.{counts_of}
use Rattle.bmap.specs.Refusal.{got}
use Rattle.bmap.specs.Supplement.{Replacement, replaced}
use Rattle.bmap.specs.declared.limits.Counts.{Counts}
use Rattle.index.specs.declared.Index.{Index}
use Rattle.index.specs.Index.{fluent_at, entry_of, domain_of, law_number}
use Rattle.index.proofs.DomainLaws.{counts_are, law_count}
use Rattle.supplement.specs.declared.under.Under.{Under}
use Rattle.supplement.specs.Force.{payload_of}
use Rattle.supplement.proofs.Accepted.{UnderIs, under_is, length_in_force}
use Rattle.judge.specs.Landing.{Ranged}
use Rattle.judge.specs.Told.{Lawful, Knowing, Held, kind_there, frame_of, knowers_of}
use Rattle.judge.specs.Prepared.{InLimits, Entered, Accepted, Governs}
use Rattle.bmap.proofs.NumbersLaws.{map_length, map_at}
use Rattle.judge.proofs.CheckLaws.{no_entry}
use Rattle.judge.proofs.HeldLaws.{held_says}
use Rattle.judge.proofs.KnowledgeLaws.{knows_is}

-- what a caller of `supplement` has of the two stores
pub is_under : (store supplement : List ℕ) {u : Under} → Accepted store supplement u → UnderIs store supplement u
is_under store supplement {u} a = under_is store supplement u a.found a.ok

-- its agents, fluents, knowledge and entries are those of the index's domain, and so is the number of its laws: what is replaced is a law
module _ {s supplement : List ℕ} {u : Under} (here : UnderIs s supplement u) where
  abbrev x : Index
  x = u.index

  abbrev n : Counts
  n = x.counts

  abbrev pub domain_here : Domain
  domain_here = replaced here.replacements (domain_of s x)

  pub in_force : Accepted s supplement u → Governs s supplement u domain_here
  in_force a = record { of = a; replacements = here.replacements; accepted = here.accepted; is = refl }

  pub in_limits : InLimits u.index.counts
  in_limits = let k = here.sound in record { some_agent = k.some_agent; agents = k.agents; fluents = k.fluents; knowledge = k.knowledge; entries = k.entries; laws = k.laws }

  pub only_one : {d : Domain} → Governs s supplement u d → domain_here ≡ d
  only_one f = let z : got here.replacements ≡ got f.replacements = sym here.accepted ∙ f.accepted in let same : here.replacements ≡ f.replacements = cc in ap (λ (r : List Replacement). replaced r (domain_of s x)) same ∙ f.is

  counts_in_force : counts_of domain_here ≡ n
  unfolding replaced
  counts_in_force =
      let own = domain_of s x in
      ap (λ (k : ℕ). record { agents = own.agents; fluents = length own.fluents; knowledge = length own.knowledge; entries = length own.entries; laws = k }) (length_in_force here.replacements own) ∙ counts_are s x

  pub index_lawful : (held : List ℕ) → Held s x.laws supplement u.over n.laws held → Lawful domain_here held n.laws
  index_lawful held copied = record {
    count = length_in_force here.replacements (domain_of s x) ∙ law_count s x;
    law = λ i h. held_says domain_here (payload_of s x.laws supplement u.over i) (frame_of held i) (law_number domain_here i) (copied.law i h (here.short i h)) (ap (λ (c : Counts). law_in c (kind_there s x.laws i) (payload_of s x.laws supplement u.over i)) counts_in_force ∙ here.law i h) (here.short i h);
  }

  pub index_ranged : Ranged domain_here x.fluents n.fluents
  unfolding domain_of replaced
  index_ranged = refl

  pub index_entered : Entered domain_here x.entries n.entries
  unfolding domain_of replaced
  index_entered = refl

  pub index_agents : domain_here.agents ≡ n.agents
  unfolding domain_of replaced
  index_agents = refl

  pub index_knowing : (table : List ℕ) → n.fluents ≤ length table → n.knowledge ≤ length x.knowledge → ((f : ℕ) → f < n.fluents → get_or table f 0 ≡ knowers_of (take n.knowledge x.knowledge) f) → Knowing domain_here (take n.fluents table) x.entries n.agents
  unfolding domain_of replaced
  index_knowing table wide known e = record {
    fluents = map_length (fluent_at x) 0 n.fluents ∙ sym (length-take-le n.fluents table wide);
    count = refl;
    knowers = λ f a h.
        let p : f < n.fluents = subst (λ (k : ℕ). f < k) (length-take-le n.fluents table wide) h in
        ap (λ (m : ℕ). has m a) (get_or-take n.fluents table f 0 p ∙ e f p) ∙ knows_is domain_here x.knowledge n.knowledge f a known refl;
    crew = λ i h. ap (λ (y : Entry). y.crew) (map_at (entry_of x) n.entries i no_entry (subst (λ (k : ℕ). i < k) (map_length (entry_of x) 0 n.entries) h));
  }
