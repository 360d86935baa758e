-- For callers: what is found in a store is its domain. Assumes nothing.
use Prim.Native.Nat.{ℕ, zero, suc, ◌≤◌, ◌<◌}
use native.Mathlib.Nat.{le_of_suc-le-suc, not-suc-le-zero}
use native.Mathlib.Omega.{arith}
use mathlib.Core.Path.{◌≡◌, refl, sym, ap, subst, ◌∙◌}
use mathlib.Core.List.{List, [], ◌∷◌, map}
use mathlib.Core.Option.{Option, none, some}
use Rattle.std.specs.Prelude.{None, Some}
use Rattle.std.proofs.lemmas.List.{length-map}
use lib.Dec.{ltb}
use lib.ListN.{length, get_or}
use borrow.Author.Tests.{ltb-true}
use Rattle.bmap.specs.Plain.{maybe, numbers}
use Rattle.bmap.specs.Limits.{frame_size}
use Rattle.bmap.specs.Refusal.{Answer, got, refused, known, Reading, read, refused_at}
use Rattle.bmap.specs.Line.{Frame}
use Rattle.bmap.specs.Domain.{Domain}
use Rattle.bmap.specs.Accept.{nothing, counts_of, complete, taken}
use Rattle.bmap.specs.Store.{frames_in, what_was_read, domain_in}
use Rattle.bmap.proofs.PlainLaws.{both_true}
use Rattle.index.specs.declared.Index.{Index}
use Rattle.index.specs.Index.{frame_bytes, no_fluent, no_knowledge, no_entry, fluent_said, knowledge_said, entry_said, fluent_at, knowledge_at, entry_of, no_law, law_bytes, law_of, law_at, domain_of, Sound}
use Rattle.domain.specs.Found.{law_places, fluent_row, knowledge_row, entry_row, index_with, found_of, found_in}
use Rattle.domain.proofs.Rows.{row_at, row_back, numbers_all}
use Rattle.domain.proofs.Stands.{law_there, stands_first, Whole, whole}

-- ---- the i-th of two lists that are read off each other

nth : {A B : Type 0} (f : ℕ → B) (g : A → B) (l : List ℕ) (xs : List A) (d : A) (i : ℕ) → map f l ≡ map g xs → i < length xs → f (get_or l i 0) ≡ g (get_or xs i d)
nth f g l [] d i e h = absurd (not-suc-le-zero h)
nth f g [] (y ∷ ys) d i e h = absurd (let z : ◌≡◌ {A = ℕ} 0 1 = cc in omega arith)
nth f g (a ∷ l) (y ∷ ys) d zero e h = cc
nth f g (a ∷ l) (y ∷ ys) d (suc i) e h = nth f g l ys d i (cc) (le_of_suc-le-suc h)

module _ (s : List ℕ) (d : Domain) (places : List ℕ) (w : Whole s d places) where
  abbrev index : Index
  index = index_with d places

  fluents_back : map (fluent_at index) (numbers 0 (length d.fluents)) ≡ d.fluents
  unfolding index_with
  fluents_back = numbers_all (fluent_at index) (fluent_said no_fluent) d.fluents (λ i h. ap fluent_said (row_back fluent_row 32 d.fluents (fluent_said no_fluent) i h))

  knowledge_back : map (knowledge_at index) (numbers 0 (length d.knowledge)) ≡ d.knowledge
  unfolding index_with
  knowledge_back = numbers_all (knowledge_at index) (knowledge_said no_knowledge) d.knowledge (λ i h. ap knowledge_said (row_back knowledge_row 64 d.knowledge (knowledge_said no_knowledge) i h))

  entries_back : map (entry_of index) (numbers 0 (length d.entries)) ≡ d.entries
  unfolding index_with
  entries_back = numbers_all (entry_of index) (entry_said no_entry) d.entries (λ i h. ap entry_said (row_back entry_row 64 d.entries (entry_said no_entry) i h))

  pub as_many : length places ≡ length d.laws
  as_many = sym (length-map places (law_there s (counts_of d))) ∙ ap length w.stands.there ∙ length-map d.laws some

  law_is : (i : ℕ) → i < length d.laws → law_of s index i ≡ some (get_or d.laws i no_law)
  unfolding index_with law_of
  law_is i h =
      ap (law_there s (counts_of d)) (row_at 128 0 places 0 i (omega (arith, as_many))) ∙ nth (law_there s (counts_of d)) some places d.laws no_law i w.stands.there h

  law_at_lem : (i : ℕ) → i < length d.laws → law_at s index i ≡ get_or d.laws i no_law
  law_at_lem i h = ap (λ o. maybe o no_law (λ l. l)) (law_is i h)

  law_short : (i : ℕ) → i < length d.laws → length (law_bytes s index i) ≤ frame_size
  unfolding index_with
  law_short i h =
      let k : i < length places = omega (arith, as_many) in subst (λ (at : ℕ). length (frame_bytes s at) ≤ frame_size) (sym (row_at 128 0 places 0 i k)) (w.stands.short i k)

  domain_back : domain_of s index ≡ d
  unfolding domain_of index_with
  domain_back =
      ap (λ l. record { agents = d.agents; fluents = l; knowledge = (domain_of s index).knowledge; entries = (domain_of s index).entries; laws = (domain_of s index).laws }) fluents_back
      ∙ ap (λ l. record { agents = d.agents; fluents = d.fluents; knowledge = l; entries = (domain_of s index).entries; laws = (domain_of s index).laws }) knowledge_back
      ∙ ap (λ l. record { agents = d.agents; fluents = d.fluents; knowledge = d.knowledge; entries = l; laws = (domain_of s index).laws }) entries_back
      ∙ ap (λ l. record { agents = d.agents; fluents = d.fluents; knowledge = d.knowledge; entries = d.entries; laws = l }) (numbers_all (law_at s index) no_law d.laws law_at_lem)

  some_agent_lem : 1 ≤ d.agents
  unfolding complete
  some_agent_lem = ltb-true 0 d.agents (both_true (ltb 0 d.agents) _ w.full).0

  sound : Sound s index
  unfolding index_with
  sound = record {
    some_agent = some_agent_lem;
    agents = w.stands.few.agents;
    fluents = w.stands.few.fluents;
    knowledge = w.stands.few.knowledge;
    entries = w.stands.few.entries;
    laws = w.stands.few.laws;
    law = λ i h. law_is i h ∙ ap some (sym (law_at_lem i h));
    short = law_short;
  }

-- ---- the domain of an accepted store, and the places of its laws

pub record Domained (s : List ℕ) (d : Domain) : Type 0 where
  pub frames : List Frame
  pub are : frames_in s ≡ some frames
  pub read_as : taken (map got frames) ≡ read d
  pub all : Whole s d (law_places 0 frames)

pub domained : (s : List ℕ) (d : Domain) → domain_in s ≡ got d → Domained s d
unfolding domain_in
domained s d e = go (frames_in s) refl e
  where
    by : (fs : List Frame) → frames_in s ≡ some fs → (r : Reading Domain) → taken (map got fs) ≡ r → known 15 (what_was_read r) ≡ got d → Domained s d
    by fs f (refused_at n l) r q = absurd (let z : ◌≡◌ {A = ℕ} 0 1 = cc in omega arith)
    by fs f (read x) r q =
        let same : x ≡ d = cc in
        let k : taken (map got fs) ≡ read d = r ∙ ap read same in
        record { frames = fs; are = f; read_as = k; all = whole (suc (length s)) 0 s nothing [] 0 fs d (stands_first s) f k }

    go : (o : Option (List Frame)) → frames_in s ≡ o → known 15 (maybe o none (λ fs. what_was_read (taken (map got fs)))) ≡ got d → Domained s d
    go none f q = absurd (let z : ◌≡◌ {A = ℕ} 0 1 = cc in omega arith)
    go (some fs) f q = by fs f (taken (map got fs)) refl q

-- a store that is not accepted is refused by 15
pub refused_15 : (s : List ℕ) (n : ℕ) → domain_in s ≡ refused n → n ≡ 15
unfolding domain_in
refused_15 s n e = go (maybe (frames_in s) none (λ fs. what_was_read (taken (map got fs)))) e
  where
    go : (o : Option Domain) → known 15 o ≡ refused n → n ≡ 15
    go none q = cc
    go (some d) q = absurd (let z : ◌≡◌ {A = ℕ} 0 1 = cc in omega arith)

module _ (s : List ℕ) where
  pub found_got : (d : Domain) → (g : domain_in s ≡ got d) → found_in s ≡ Some (index_with d (law_places 0 (domained s d g).frames))
  unfolding found_in
  found_got d g =
      ap (λ o. found_of (maybe o [] (law_places 0)) (domain_in s)) (domained s d g).are ∙ ap (found_of (law_places 0 (domained s d g).frames)) g

  pub found_not : (n : ℕ) → domain_in s ≡ refused n → found_in s ≡ None
  unfolding found_in
  found_not n g = ap (found_of (maybe (frames_in s) [] (law_places 0))) g

  -- what a caller has of a store in which this index is found
  pub record FoundHere (x : Index) : Type 0 where
    pub sound : Sound s x
    pub domain : domain_in s ≡ got (domain_of s x)

  pub found_ok : (x : Index) → found_in s ≡ Some x → FoundHere x
  found_ok x k = go (domain_in s) refl
    where
      go : (a : Answer Domain) → domain_in s ≡ a → FoundHere x
      go (refused n) g = absurd (let e = sym k ∙ found_not n g in let z : ◌≡◌ {A = ℕ} 0 1 = cc in omega arith)
      go (got d) g =
          let m = domained s d g in
          let e = sym k ∙ found_got d g in
          let same : index_with d (law_places 0 m.frames) ≡ x = cc in
          record {
            sound = subst (Sound s) same (sound s d (law_places 0 m.frames) m.all);
            domain = g ∙ ap got (sym (domain_back s d (law_places 0 m.frames) m.all) ∙ ap (domain_of s) same);
          }

  pub found_none : found_in s ≡ None → domain_in s ≡ refused 15
  found_none k = go (domain_in s) refl
    where
      go : (a : Answer Domain) → domain_in s ≡ a → domain_in s ≡ refused 15
      go (refused n) g = g ∙ ap refused (refused_15 s n g)
      go (got d) g = absurd (let e = sym k ∙ found_got d g in let z : ◌≡◌ {A = ℕ} 0 1 = cc in omega arith)
