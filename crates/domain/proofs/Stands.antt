-- The frames of a store from its beginning on: what the partial domain keeps, and where its laws stand. Assumes nothing.
use Prim.Native.Nat.{ℕ, zero, suc, ◌+◌, ◌-◌, ◌*◌, ◌≤◌, ◌<◌}
use native.Mathlib.Decide.{dec_le}
use native.Mathlib.Omega.{arith}
use mathlib.Core.Path.{◌≡◌, refl, sym, ap, subst, ◌∙◌}
use mathlib.Core.Bool.{Bool, true, false, not}
use mathlib.Core.List.{List, [], ◌∷◌, ◌++◌, append_assoc, append-nil, map}
use mathlib.Core.Option.{Option, none, some}
use lib.Dec.{eqb, leb}
use lib.ListN.{length, get_or, take, drop, length-drop, length-take}
use lib.Seq.{length-take-le, get_or-take, get_or-drop, drop-drop}
use borrow.Author.Tests.{leb-true, eqb-false, le-leb, lt-leb}
use Rattle.bmap.specs.Plain.{if_else, maybe}
use Rattle.bmap.specs.Limits.{frame_size}
use Rattle.bmap.specs.Refusal.{Answer, got, refused, need, then, read, at_line}
use Rattle.bmap.specs.Line.{Frame, stored}
use Rattle.bmap.specs.Domain.{Domain, Fluent, Knows, Entry, Law}
use Rattle.bmap.specs.Payload.{Item, agents, fluent, knowledge, entry, law, byte, fluent_in, knowledge_in, entry_in, executable_in, effect_in, must_in, law_in}
use Rattle.bmap.specs.Accept.{Partial, nothing, counts_of, checked, add, accept, complete, taken_from}
use Rattle.bmap.specs.Store.{stands_at, frame_at, zeros, frames_from}
use Rattle.bmap.specs.declared.limits.Counts.{Counts}
use Rattle.bmap.proofs.PlainLaws.{both_true}
use Rattle.index.specs.Index.{frame_bytes}
use Rattle.domain.specs.Check.{refused_in}
use Rattle.domain.specs.Found.{law_places}
use Rattle.domain.proofs.Rows.{two_off, length_snoc, each_snoc, map_snoc, map_same}
use Rattle.domain.proofs.CheckLaws.{room_agents, room_fluents, room_knowledge, room_entries, room_laws}
use Rattle.domain.proofs.Passed.{Case, is_agents, is_fluent, is_knowledge, is_entry, is_law_lem, Passed, passed}

-- where no frame stands, nothing more was read
pub no_more : {fs : List Frame} (b : Bool) → if_else b (some []) none ≡ some fs → fs ≡ []
no_more true q = cc
no_more false q = absurd (let z : ◌≡◌ {A = ℕ} 0 1 = cc in omega arith)

-- ---- the frame at a place

pub record Here (s : List ℕ) (at : ℕ) (f : Frame) : Type 0 where
  pub kind : f.kind ≡ get_or s at 0
  pub some_kind : get_or s at 0 ≡ 0 → ⊥
  pub payload : f.payload ≡ take (get_or s (at + 1) 0) (drop (at + 2) s)
  pub count : length f.payload ≡ get_or s (at + 1) 0
  pub most : length f.payload ≤ 120
  pub within : at + length (stored f) ≤ length s

pub here : (s : List ℕ) (at : ℕ) (f : Frame) → frame_at s at ≡ some f → Here s at f
unfolding frame_at stands_at
here s at f e = go (stands_at s at) refl e
  where
    not_so : (b : Bool) → not b ≡ true → b ≡ false
    not_so true q = sym q
    not_so false q = refl

    go : (b : Bool) → stands_at s at ≡ b → if_else b (some (record { kind = get_or s at 0; payload = take (get_or s (at + 1) 0) (drop (at + 2) s) })) none ≡ some f → Here s at f
    go false t q = absurd (let z : ◌≡◌ {A = ℕ} 0 1 = cc in omega arith)
    go true t q =
        let a = both_true (leb (at + 2) (length s)) _ t in
        let b = both_true (not (eqb (get_or s at 0) 0)) _ a.1 in
        let d = both_true (leb (get_or s (at + 1) 0) 120) _ b.1 in
        let e2 : at + 2 + get_or s (at + 1) 0 ≤ length s = leb-true _ _ d.1 in
        let l : length (take (get_or s (at + 1) 0) (drop (at + 2) s)) ≡ get_or s (at + 1) 0
        = length-take-le (get_or s (at + 1) 0) (drop (at + 2) s) (omega (arith, length-drop (at + 2) s)) in
        let p : take (get_or s (at + 1) 0) (drop (at + 2) s) ≡ f.payload = cc in
        let k : get_or s at 0 ≡ f.kind = cc in
        let n : length f.payload ≡ get_or s (at + 1) 0 = ap length (sym p) ∙ l in
        let m : get_or s (at + 1) 0 ≤ 120 = leb-true _ _ d.0 in
        record {
          kind = sym k;
          some_kind = eqb-false (get_or s at 0) 0 (not_so _ b.0);
          payload = sym p;
          count = n;
          most = omega arith;
          within = omega arith;
        }

-- ---- where a law stands

-- the law whose frame stands at a place
abbrev pub law_there : List ℕ → Counts → ℕ → Option Law
law_there s n at = law_in n (get_or (frame_bytes s at) 0 0) (drop 2 (frame_bytes s at))

module _ (s : List ℕ) (at : ℕ) (f : Frame) (h : Here s at f) where
  two_on : (l : List ℕ) (n : ℕ) → drop 2 (take (n + 2) l) ≡ take n (drop 2 l)
  two_on l n = let z : n + 2 - 2 ≡ n = omega arith in two_off (n + 2) l ∙ ap (λ k. take k (drop 2 l)) z

  law_there_lem : (n : Counts) → law_there s n at ≡ law_in n f.kind f.payload
  unfolding frame_bytes
  law_there_lem n =
      let k : get_or (frame_bytes s at) 0 0 ≡ f.kind
      = get_or-take (get_or s (at + 1) 0 + 2) (drop at s) 0 0 (omega arith) ∙ get_or-drop at s 0 0 ∙ (let z : at + 0 ≡ at = omega arith in ap (λ i. get_or s i 0) z) ∙ sym h.kind in
      let p : drop 2 (frame_bytes s at) ≡ f.payload
      = two_on (drop at s) (get_or s (at + 1) 0) ∙ ap (take (get_or s (at + 1) 0)) (drop-drop 2 at s) ∙ sym h.payload in
      ap (λ i. law_in n i (drop 2 (frame_bytes s at))) k ∙ ap (law_in n f.kind) p

  -- in no more bytes than a frame has
  frame_short : length (frame_bytes s at) ≤ frame_size
  unfolding frame_bytes
  frame_short = omega (arith, h.count, h.most, length-take (get_or s (at + 1) 0 + 2) (drop at s))

-- a law asks only how many fluents and entries there are
pub law_same : (n m : Counts) (k : ℕ) (p : List ℕ) → n.fluents ≡ m.fluents → n.entries ≡ m.entries → law_in n k p ≡ law_in m k p
unfolding law_in executable_in effect_in must_in
law_same n m k p f e = rw (f, e)

-- ---- the frames so far

-- one where there is an agent
abbrev pub one : ℕ → ℕ
one zero = 0
one (suc n) = 1

pub one_most : (n : ℕ) → one n ≤ 1
one_most zero = omega arith
one_most (suc n) = omega arith

pub one_some : (n : ℕ) → 1 ≤ n → one n ≡ 1
one_some zero h = absurd (omega arith)
one_some (suc n) h = refl

-- how many frames make a domain
abbrev pub frames : Domain → ℕ
frames d = one d.agents + length d.fluents + length d.knowledge + length d.entries + length d.laws

-- "At most 1 A1, 32 A2, 64 A3, 64 A4 and 128 laws", "1 to 16" agents
pub record Few (d : Domain) : Type 0 where
  pub agents : d.agents ≤ 16
  pub fluents : length d.fluents ≤ 32
  pub knowledge : length d.knowledge ≤ 64
  pub entries : length d.entries ≤ 64
  pub laws : length d.laws ≤ 128

pub few_frames : (d : Domain) → Few d → frames d ≤ 289
few_frames d w = omega (arith, w.fluents, w.knowledge, w.entries, w.laws, one_most d.agents)

pub few_first : Few nothing.domain
few_first = record { agents = omega arith; fluents = omega arith; knowledge = omega arith; entries = omega arith; laws = omega arith }

abbrev pub with : Partial → Frame → Item → Partial
with p f i = record { latest = f.kind; domain = add i p.domain }

-- one frame more
module _ (latest : ℕ) (d : Domain) (es : List Entry) (f : Frame) (v : Passed latest (counts_of d) es f) where
  -- its domain, by the kind
  pub record More (i : Item) : Type 0 where
    pub few : Few d → Few (add i d)
    pub one_more : frames (add i d) ≡ suc (frames d)
    pub law_less : f.kind < 0xA5 → (add i d).laws ≡ d.laws

  more_agents : f.kind ≡ 0xA1 → 1 ≤ byte f.payload 0 → byte f.payload 0 ≤ 16 → More (agents (byte f.payload 0))
  more_agents k lo hi = record {
    few = λ w. record { agents = hi; fluents = w.fluents; knowledge = w.knowledge; entries = w.entries; laws = w.laws };
    one_more = omega (arith, one_some (byte f.payload 0) lo, ap one (room_agents (counts_of d) f.kind v.fits k));
    law_less = λ h. refl;
  }

  more_fluent : f.kind ≡ 0xA2 → (x : Fluent) → More (fluent x)
  more_fluent k x =
      let n = length_snoc d.fluents x in
      record {
        few = λ w. record { agents = w.agents; fluents = omega (arith, n, room_fluents (counts_of d) f.kind v.fits k); knowledge = w.knowledge; entries = w.entries; laws = w.laws };
        one_more = omega (arith, n);
        law_less = λ h. refl;
      }

  more_knowledge : f.kind ≡ 0xA3 → (x : Knows) → More (knowledge x)
  more_knowledge k x =
      let n = length_snoc d.knowledge x in
      record {
        few = λ w. record { agents = w.agents; fluents = w.fluents; knowledge = omega (arith, n, room_knowledge (counts_of d) f.kind v.fits k); entries = w.entries; laws = w.laws };
        one_more = omega (arith, n);
        law_less = λ h. refl;
      }

  more_entry : f.kind ≡ 0xA4 → (x : Entry) → More (entry x)
  more_entry k x =
      let n = length_snoc d.entries x in
      record {
        few = λ w. record { agents = w.agents; fluents = w.fluents; knowledge = w.knowledge; entries = omega (arith, n, room_entries (counts_of d) f.kind v.fits k); laws = w.laws };
        one_more = omega (arith, n);
        law_less = λ h. refl;
      }

  more_law : 0xA5 ≤ f.kind → (x : Law) → More (law x)
  more_law k x =
      let n = length_snoc d.laws x in
      record {
        few = λ w. record { agents = w.agents; fluents = w.fluents; knowledge = w.knowledge; entries = w.entries; laws = omega (arith, n, room_laws (counts_of d) f.kind v.fits k) };
        one_more = omega (arith, n);
        law_less = λ h. absurd (omega arith);
      }

  pub more : More v.item
  more = go v.case
    where
      go : Case (counts_of d) f.kind f.payload v.item → More v.item
      go (is_agents k lo hi e) = subst More (sym e) (more_agents k lo hi)
      go (is_fluent k e) = subst More (sym e) (more_fluent k (fluent_in f.payload))
      go (is_knowledge k e) = subst More (sym e) (more_knowledge k (knowledge_in f.payload))
      go (is_entry k e) = subst More (sym e) (more_entry k (entry_in f.payload))
      go (is_law_lem k l q e) = subst More (sym e) (more_law k l)

-- ---- where the laws stand

pub record Stands (s : List ℕ) (p : Partial) (places : List ℕ) (at : ℕ) : Type 0 where
  pub few : Few p.domain
  pub there : map (law_there s (counts_of p.domain)) places ≡ map some p.domain.laws
  pub late : 0 < length p.domain.laws → 0xA5 ≤ p.latest
  pub before : at ≤ 122 * frames p.domain
  pub short : (i : ℕ) → i < length places → length (frame_bytes s (get_or places i 0)) ≤ frame_size

abbrev pub places_with : List ℕ → ℕ → Frame → List ℕ
places_with places at f = if_else (leb 0xA5 f.kind) (places ++ (at ∷ [])) places

-- at most 35,258 bytes hold frames
pub stands_most : (s : List ℕ) (p : Partial) (places : List ℕ) (at : ℕ) → Stands s p places at → at ≤ 35258
stands_most s p places at st = omega (arith, st.before, few_frames p.domain st.few)

none_mapped : {A B : Type 0} (f : A → B) (l : List A) → length l ≡ 0 → map f l ≡ []
none_mapped f [] e = refl
none_mapped f (a ∷ l) e = absurd (omega arith)

mapped_none : {A B : Type 0} (f : A → B) (l : List A) → map f l ≡ [] → l ≡ []
mapped_none f [] e = refl
mapped_none f (a ∷ l) e = absurd (let z : ◌≡◌ {A = ℕ} 0 1 = cc in omega arith)

module _ (s : List ℕ) (p : Partial) (places : List ℕ) (at : ℕ) (st : Stands s p places at) (f : Frame) (h : Here s at f)
    (v : Passed p.latest (counts_of p.domain) p.domain.entries f) where
  abbrev less : More p.latest p.domain p.domain.entries f v v.item
  less = more p.latest p.domain p.domain.entries f v

  -- before the first law nothing stands anywhere
  no_law_lem : f.kind < 0xA5 → length p.domain.laws ≡ 0
  no_law_lem k = go (length p.domain.laws) refl
    where
      go : (n : ℕ) → length p.domain.laws ≡ n → length p.domain.laws ≡ 0
      go zero e = e
      go (suc n) e = absurd (omega (arith, st.late (omega arith), v.order))

  stays : f.kind < 0xA5 → (n : Counts) → map (law_there s n) (places_with places at f) ≡ map some (add v.item p.domain).laws
  stays k n =
      let z : places ≡ [] = mapped_none (law_there s (counts_of p.domain)) places (st.there ∙ none_mapped some p.domain.laws (no_law_lem k)) in
      ap (λ b. map (law_there s n) (if_else b (places ++ (at ∷ [])) places)) (lt-leb 0xA5 f.kind k)
      ∙ ap (map (law_there s n)) z ∙ sym (none_mapped some p.domain.laws (no_law_lem k)) ∙ ap (map some) (sym (less.law_less k))

  joins : 0xA5 ≤ f.kind → (x : Law) → law_in (counts_of p.domain) f.kind f.payload ≡ some x
      → map (law_there s (counts_of (add (law x) p.domain))) (places_with places at f) ≡ map some (p.domain.laws ++ (x ∷ []))
  joins k x q =
      let wide = counts_of (add (law x) p.domain) in
      let same : (i : ℕ) → law_there s wide i ≡ law_there s (counts_of p.domain) i
      = λ i. law_same wide (counts_of p.domain) (get_or (frame_bytes s i) 0 0) (drop 2 (frame_bytes s i)) refl refl in
      ap (λ b. map (law_there s wide) (if_else b (places ++ (at ∷ [])) places)) (le-leb 0xA5 f.kind k)
      ∙ map_same (law_there s wide) (law_there s (counts_of p.domain)) (places ++ (at ∷ [])) same
      ∙ map_snoc (law_there s (counts_of p.domain)) places at
      ∙ ap (λ l. l ++ (law_there s (counts_of p.domain) at ∷ [])) st.there
      ∙ ap (λ o. map some p.domain.laws ++ (o ∷ [])) (law_there_lem s at f h (counts_of p.domain) ∙ q)
      ∙ sym (map_snoc some p.domain.laws x)

  there_on : map (law_there s (counts_of (add v.item p.domain))) (places_with places at f) ≡ map some (add v.item p.domain).laws
  there_on = go v.case
    where
      go : Case (counts_of p.domain) f.kind f.payload v.item → map (law_there s (counts_of (add v.item p.domain))) (places_with places at f) ≡ map some (add v.item p.domain).laws
      go (is_agents k lo hi e) = stays (omega arith) _
      go (is_fluent k e) = stays (omega arith) _
      go (is_knowledge k e) = stays (omega arith) _
      go (is_entry k e) = stays (omega arith) _
      go (is_law_lem k l q e) = subst (λ (i : Item). map (law_there s (counts_of (add i p.domain))) (places_with places at f) ≡ map some (add i p.domain).laws) (sym e) (joins k l q)

  late_on : 0 < length (add v.item p.domain).laws → 0xA5 ≤ f.kind
  late_on g = elim (dec_le 0xA5 f.kind) [ yes k ↦ k | no k ↦ absurd (omega (arith, ap length (less.law_less (omega arith)), no_law_lem (omega arith))) ]

  short_on : (b : Bool) (i : ℕ) → i < length (if_else b (places ++ (at ∷ [])) places) → length (frame_bytes s (get_or (if_else b (places ++ (at ∷ [])) places) i 0)) ≤ frame_size
  short_on true = each_snoc places at (λ (k : ℕ). length (frame_bytes s k) ≤ frame_size) 0 st.short (frame_short s at f h)
  short_on false = st.short

  pub stands_next : Stands s (with p f v.item) (places_with places at f) (at + length (stored f))
  stands_next = record {
    few = less.few st.few;
    there = there_on;
    late = late_on;
    before = omega (arith, st.before, h.most, less.one_more);
    short = short_on (leb 0xA5 f.kind);
  }

pub stands_first : (s : List ℕ) → Stands s nothing [] 0
stands_first s = record { few = few_first; there = refl; late = λ h. absurd (omega arith); before = omega arith; short = λ i h. absurd (omega arith) }

-- ---- all the frames of a store

pub accept_is : (p : Partial) (f : Frame) → accept p f ≡ then (checked p.latest (counts_of p.domain) p.domain.entries f) (λ i. got (with p f i))
unfolding accept
accept_is p f = refl

pub refusal_is : {A : Type 0} (a : Answer A) (m : ℕ) → some m ≡ refused_in a → a ≡ refused m
refusal_is (got i) m e = absurd (let y : ◌≡◌ {A = ℕ} 0 1 = cc in omega arith)
refusal_is (refused k) m e = let y : k ≡ m = cc in ap refused y

pub accept_refused : (p : Partial) (f : Frame) (m : ℕ) → some m ≡ refused_in (checked p.latest (counts_of p.domain) p.domain.entries f) → accept p f ≡ refused m
accept_refused p f m e = accept_is p f ∙ ap (λ a. then a (λ i. got (with p f i))) (refusal_is (checked p.latest (counts_of p.domain) p.domain.entries f) m e)

pub accept_passed : (p : Partial) (f : Frame) (v : Passed p.latest (counts_of p.domain) p.domain.entries f) → accept p f ≡ got (with p f v.item)
accept_passed p f v = accept_is p f ∙ ap (λ a. then a (λ i. got (with p f i))) v.checks

-- what is read leaves the last of them
pub record Whole (s : List ℕ) (d : Domain) (places : List ℕ) : Type 0 where
  pub latest : ℕ
  pub at : ℕ
  pub stands : Stands s (record { latest = latest; domain = d }) places at
  pub full : complete d ≡ true

module _ (looks lines : ℕ) (s : List ℕ) (p : Partial) (places : List ℕ) (at : ℕ) (fs : List Frame) (d : Domain) (st : Stands s p places at)
    (rec : (q : Partial) (places : List ℕ) (at : ℕ) (fs : List Frame) → Stands s q places at → frames_from looks s at ≡ some fs → taken_from (suc lines) q (map got fs) ≡ read d
    → Whole s d (places ++ law_places at fs)) where
  -- no frame: only zeros
  ended : (b : Bool) → complete p.domain ≡ b → at_line lines (need b 7 (got p.domain)) read ≡ read d → fs ≡ [] → Whole s d (places ++ law_places at fs)
  unfolding law_places
  ended false q t z = absurd (let z : ◌≡◌ {A = ℕ} 0 1 = cc in omega arith)
  ended true q t z =
      let same : p.domain ≡ d = cc in
      let none_more : places ≡ places ++ law_places at fs = sym (append-nil places) ∙ ap (λ l. places ++ law_places at l) (sym z) in
      subst (λ l. Whole s d l) none_more
      (record {
        latest = p.latest;
        at = at;
        stands = subst (λ (x : Domain). Stands s (record { latest = p.latest; domain = x }) places at) same st;
        full = ap complete (sym same) ∙ q;
      })

  seam : (f : Frame) (rest : List Frame) (b : Bool)
      → if_else b (places ++ (at ∷ [])) places ++ law_places (at + length (stored f)) rest
      ≡ places ++ if_else b (at ∷ law_places (at + length (stored f)) rest) (law_places (at + length (stored f)) rest)
  seam f rest true = append_assoc places (at ∷ []) (law_places (at + length (stored f)) rest)
  seam f rest false = refl

  -- a frame that passes, and the rest
  taken : (f : Frame) (rest : List Frame) → frame_at s at ≡ some f → frames_from looks s (at + length (stored f)) ≡ some rest → fs ≡ f ∷ rest
      → (a : Answer Item) → checked p.latest (counts_of p.domain) p.domain.entries f ≡ a
      → at_line (suc lines) (then a (λ i. got (with p f i))) (λ q. taken_from (suc lines) q (map got rest)) ≡ read d → Whole s d (places ++ law_places at fs)
  unfolding law_places
  taken f rest fe re fr (refused n) c t = absurd (let z : ◌≡◌ {A = ℕ} 0 1 = cc in omega arith)
  taken f rest fe re fr (got i) c t =
      let v = passed p.latest (counts_of p.domain) p.domain.entries f (sym (ap refused_in c)) in
      let same : v.item ≡ i = (let k = v.checks in cc) in
      let st2 = stands_next s p places at st f (here s at f fe) v in
      let st3 = subst (λ (j : Item). Stands s (with p f j) (places_with places at f) (at + length (stored f))) same st2 in
      let w = rec (with p f i) (places_with places at f) (at + length (stored f)) rest st3 re t in
      subst (λ l. Whole s d l) (seam f rest (leb 0xA5 f.kind) ∙ ap (λ l. places ++ law_places at l) (sym fr)) w

  step : frames_from (suc looks) s at ≡ some fs → taken_from lines p (map got fs) ≡ read d → Whole s d (places ++ law_places at fs)
  unfolding frames_from taken_from
  step e r = go (frame_at s at) refl e
    where
      more : (f : Frame) → frame_at s at ≡ some f → (o : Option (List Frame)) → frames_from looks s (at + length (stored f)) ≡ o
          → maybe o none (λ rest. some (f ∷ rest)) ≡ some fs → Whole s d (places ++ law_places at fs)
      more f fe none re q = absurd (let z : ◌≡◌ {A = ℕ} 0 1 = cc in omega arith)
      more f fe (some rest) re q =
          let fr : fs ≡ f ∷ rest = cc in
          taken f rest fe re fr (checked p.latest (counts_of p.domain) p.domain.entries f) refl
          (ap (λ a. at_line (suc lines) a (λ q. taken_from (suc lines) q (map got rest))) (sym (accept_is p f)) ∙ ap (λ l. taken_from lines p (map got l)) (sym fr) ∙ r)

      go : (o : Option Frame) → frame_at s at ≡ o
          → maybe o (if_else (zeros (drop at s)) (some []) none) (λ f. maybe (frames_from looks s (at + length (stored f))) none (λ rest. some (f ∷ rest))) ≡ some fs
          → Whole s d (places ++ law_places at fs)
      go none o q = let z = no_more (zeros (drop at s)) q in ended (complete p.domain) refl (ap (λ l. taken_from lines p (map got l)) (sym z) ∙ r) z
      go (some f) o q = more f o (frames_from looks s (at + length (stored f))) refl q

pub whole : (looks lines : ℕ) (s : List ℕ) (p : Partial) (places : List ℕ) (at : ℕ) (fs : List Frame) (d : Domain) → Stands s p places at
    → frames_from looks s at ≡ some fs → taken_from lines p (map got fs) ≡ read d → Whole s d (places ++ law_places at fs)
unfolding frames_from
whole zero lines s p places at fs d st e r = absurd (let z : ◌≡◌ {A = ℕ} 0 1 = cc in omega arith)
whole (suc looks) lines s p places at fs d st e r =
    step looks lines s p places at fs d st (λ q places at fs st e r. whole looks (suc lines) s q places at fs d st e r) e r
