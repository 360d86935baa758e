-- The law in force, by what was found of the two stores. Assumes nothing.
use Prim.Native.Nat.{ℕ, zero, suc, ◌+◌, ◌-◌, ◌≤◌, ◌<◌}
use native.Mathlib.Decide.{dec_lt}
use native.Mathlib.Omega.{arith}
use mathlib.Core.Path.{◌≡◌, refl, sym, ap, subst, ◌∙◌}
use mathlib.Core.Bool.{Bool, true, false}
use mathlib.Core.List.{List, [], ◌∷◌}
use mathlib.Core.Option.{Option, none, some}
use Rattle.std.specs.Prelude.{Some}
use lib.Dec.{leb, ltb}
use lib.ListN.{length, get_or, take, drop}
use borrow.Author.Tests.{eq-eqb, ne_eqb, lt-ltb, le-ltb}
use denote.Ref.{Bor}
use Rattle.bmap.specs.Plain.{if_else, maybe}
use Rattle.bmap.specs.Refusal.{Answer, got, refused, need, then}
use Rattle.bmap.specs.Line.{Frame, stored}
use Rattle.bmap.specs.Domain.{Domain}
use Rattle.bmap.specs.Store.{frame_at, zeros, frames_from, frames_in, domain_in}
use Rattle.bmap.specs.Supplement.{Replacement, replacement_of, supplement_in, Where, in_domain, in_supplement, Part, law_parts, replacement_part, no_part, bytes_there, law_in_force}
use Rattle.index.specs.Index.{domain_of}
use Rattle.index.proofs.DomainLaws.{law_count}
use Rattle.index.specs.declared.Index.{Index}
use Rattle.domain.specs.Found.{law_places, index_with, found_in}
use Rattle.domain.proofs.Rows.{row_at}
use Rattle.domain.proofs.Stands.{Here, here, no_more}
use Rattle.domain.proofs.Accepted.{domained, found_got, as_many}
use Rattle.supplement.specs.declared.under.Under.{Under}
use Rattle.supplement.specs.Check.{over_of}
use Rattle.supplement.specs.Under.{under_in}
use Rattle.supplement.specs.Force.{Stretch, StandsIn, bytes_in, InForce, stretch_of, stretch_at, law_stretch, payload_of}
use Rattle.supplement.proofs.Accepted.{UnderIs, Stood, under_ok, under_none, supplemented, stood, no_part_lem, over_none, over_count}

-- ---- the domain's own laws as parts

-- the payload of the law whose frame stands at a place
record OwnPart (s : List ℕ) (place : ℕ) (p : Part) : Type 0 where
  stands : p.stands ≡ in_domain (place + 2)
  bytes : p.bytes ≡ take (get_or s (place + 1) 0) (drop (place + 2) s)
  size : length p.bytes ≡ get_or s (place + 1) 0

module _ (s : List ℕ) where
  own_part : (looks at : ℕ) (fs : List Frame) → frames_from looks s at ≡ some fs → (n : ℕ) → n < length (law_places at fs) → OwnPart s (get_or (law_places at fs) n 0) (get_or (law_parts at fs) n no_part)
  unfolding frames_from law_places law_parts
  own_part zero at fs e n h = absurd cc
  own_part (suc looks) at fs e n h = go (frame_at s at) refl e (λ t k z. own_part looks t k z)
    where
      none_there : fs ≡ [] → OwnPart s (get_or (law_places at fs) n 0) (get_or (law_parts at fs) n no_part)
      none_there z = absurd (let k : length (law_places at fs) ≡ length (law_places at []) = ap (λ (l : List Frame). length (law_places at l)) z in omega arith)

      here_part : (f : Frame) → Here s at f → OwnPart s at (record { stands = in_domain (at + 2); bytes = f.payload })
      here_part f k = record { stands = refl; bytes = k.payload; size = k.count }

      test : (f : Frame) (l : List Frame) (b : Bool) (n : ℕ) → Here s at f
          → ((n : ℕ) → n < length (law_places (at + length (stored f)) l) → OwnPart s (get_or (law_places (at + length (stored f)) l) n 0) (get_or (law_parts (at + length (stored f)) l) n no_part))
          → n < length (if_else b (at ∷ law_places (at + length (stored f)) l) (law_places (at + length (stored f)) l))
          → OwnPart s (get_or (if_else b (at ∷ law_places (at + length (stored f)) l) (law_places (at + length (stored f)) l)) n 0)
          (get_or (if_else b (record { stands = in_domain (at + 2); bytes = f.payload } ∷ law_parts (at + length (stored f)) l) (law_parts (at + length (stored f)) l)) n no_part)
      test f l true zero k rec h = here_part f k
      test f l true (suc n) k rec h = rec n (omega arith)
      test f l false n k rec h = rec n h

      go : (o : Option Frame) → frame_at s at ≡ o
          → maybe o (if_else (zeros (drop at s)) (some []) none) (λ g. maybe (frames_from looks s (at + length (stored g))) none (λ l. some (g ∷ l))) ≡ some fs
          → ((t : ℕ) (k : List Frame) → frames_from looks s t ≡ some k → (n : ℕ) → n < length (law_places t k) → OwnPart s (get_or (law_places t k) n 0) (get_or (law_parts t k) n no_part))
          → OwnPart s (get_or (law_places at fs) n 0) (get_or (law_parts at fs) n no_part)
      go none o z rec = none_there (no_more (zeros (drop at s)) z)
      go (some g) o z rec = by (frames_from looks s (at + length (stored g))) refl z
        where
          by : (k : Option (List Frame)) → frames_from looks s (at + length (stored g)) ≡ k → maybe k none (λ l. some (g ∷ l)) ≡ some fs → OwnPart s (get_or (law_places at fs) n 0) (get_or (law_parts at fs) n no_part)
          by none w y = absurd cc
          by (some l) w y =
              let fr : g ∷ l ≡ fs = cc in
              subst (λ (k : List Frame). OwnPart s (get_or (law_places at k) n 0) (get_or (law_parts at k) n no_part)) fr
              (test g l (leb 0xA5 g.kind) n (here s at g o) (rec (at + length (stored g)) l w) (subst (λ (k : List Frame). n < length (law_places at k)) (sym fr) h))

-- the index has the places of the domain's laws
pub law_place : (store : List ℕ) (d : Domain) (x : Index) → found_in store ≡ Some x → (g : domain_in store ≡ got d) (n : ℕ) → n < length (law_places 0 (domained store d g).frames)
    → get_or x.laws n 0 ≡ get_or (law_places 0 (domained store d g).frames) n 0
unfolding index_with
law_place store d x e g n h =
    ap (λ (i : Index). get_or i.laws n 0) (let k = sym e ∙ found_got store d g in let same : x ≡ index_with d (law_places 0 (domained store d g).frames) = cc in same) ∙ row_at 128 0 (law_places 0 (domained store d g).frames) 0 n h

-- ---- the part that is the law in force

-- its place and its size are those that are found, and its bytes are there
pub record PartIs (store laws supplement over : List ℕ) (n : ℕ) (p : Part) : Type 0 where
  pub stretch : record { stands = p.stands; size = length p.bytes } ≡ law_stretch store laws supplement over n
  pub there : payload_of store laws supplement over n ≡ p.bytes

-- a law that is replaced stands in the supplement, any other in the domain's store
module _ (store supplement laws : List ℕ) (s : List Replacement) (n : ℕ) (few : n < 128) where
  own_is : (p : Part) → OwnPart store (get_or laws n 0) p → replacement_of s n ≡ none → PartIs store laws supplement (over_of s) n p
  own_is p o q =
      let zero_there : get_or (over_of s) n 0 ≡ 0 = over_none s n few q in
      let stretch : law_stretch store laws supplement (over_of s) n ≡ record { stands = in_domain (get_or laws n 0 + 2); size = get_or store (get_or laws n 0 + 1) 0 }
      = ap (λ (b : Bool). if_else b (record { stands = in_domain (get_or laws n 0 + 2); size = get_or store (get_or laws n 0 + 1) 0 }) (record { stands = in_supplement (get_or (over_of s) n 0 + 3); size = get_or supplement (get_or (over_of s) n 0) 0 - 2 })) (eq-eqb (get_or (over_of s) n 0) 0 zero_there) in
      record {
        stretch = ap (λ (w : Where). record { stands = w; size = length p.bytes }) o.stands ∙ ap (λ (k : ℕ). record { stands = in_domain (get_or laws n 0 + 2); size = k }) o.size ∙ sym stretch;
        there = ap (λ (x : Stretch). bytes_in x store supplement) stretch ∙ sym o.bytes;
      }

  replaced_is : (r : Replacement) (p : Part) → Stood supplement r p → replacement_part 0 s n ≡ some p → PartIs store laws supplement (over_of s) n p
  replaced_is r p t q =
      let place : get_or (over_of s) n 0 ≡ t.count = over_count s n few supplement r p q t in
      let stretch : law_stretch store laws supplement (over_of s) n ≡ record { stands = in_supplement (t.count + 3); size = get_or supplement t.count 0 - 2 }
      = ap (stretch_at store (get_or laws n 0) supplement) place
      ∙ ap (λ (b : Bool). if_else b (record { stands = in_domain (get_or laws n 0 + 2); size = get_or store (get_or laws n 0 + 1) 0 }) (record { stands = in_supplement (t.count + 3); size = get_or supplement t.count 0 - 2 })) (ne_eqb t.count 0 (λ e. omega (arith, t.some_place))) in
      record {
        stretch =
            ap (λ (w : Where). record { stands = w; size = length p.bytes }) t.stands
            ∙ ap (λ (k : ℕ). record { stands = in_supplement (t.count + 3); size = k }) (ap length t.bytes ∙ sym t.size) ∙ sym stretch;
        there = ap (λ (x : Stretch). bytes_in x store supplement) stretch ∙ t.there ∙ sym t.bytes;
      }

-- ---- for the calls

-- the part of law n
abbrev part_in : List ℕ → List Replacement → ℕ → Part
part_in store s n = maybe (replacement_part 0 s n) (get_or (maybe (frames_in store) [] (law_parts 0)) n no_part) (λ part. part)

pub then_refused : {A B C : Type 0} (a : Answer A) (f : A → Answer B) (g : A → B → Answer C) (m : ℕ) → then a f ≡ refused m → then a (λ x. then (f x) (g x)) ≡ refused m
then_refused (refused k) f g m e = let z : k ≡ m = cc in ap refused z
then_refused (got x) f g m e = ap (λ b. then b (g x)) e

module _ (store supplement : List ℕ) (n : ℕ) where
  pub not_found : (under_in store supplement).ok ≡ false → refused 15 ≡ stretch_of (law_in_force store supplement n)
  unfolding law_in_force
  not_found e =
      sym (ap stretch_of (then_refused (domain_in store) (λ d. supplement_in d supplement) (λ d s. need (ltb n (length d.laws)) 20 (got (part_in store s n))) 15 (under_none store supplement e)))

  module _ (u : Under) (h : UnderIs store supplement u) where
    answers : law_in_force store supplement n ≡ need (ltb n u.index.counts.laws) 20 (got (part_in store h.replacements n))
    unfolding law_in_force
    answers = rw (h.domain, h.accepted, law_count store u.index)

    pub not_numbered : u.index.counts.laws ≤ n → refused 20 ≡ stretch_of (law_in_force store supplement n)
    not_numbered q = sym (ap stretch_of (answers ∙ ap (λ (b : Bool). need b 20 (got (part_in store h.replacements n))) (le-ltb n u.index.counts.laws q)))

    module _ (q : n < u.index.counts.laws) where
      pub numbered : law_in_force store supplement n ≡ got (part_in store h.replacements n)
      numbered = answers ∙ ap (λ (b : Bool). need b 20 (got (part_in store h.replacements n))) (lt-ltb n u.index.counts.laws q)

      own_here : OwnPart store (get_or u.index.laws n 0) (get_or (maybe (frames_in store) [] (law_parts 0)) n no_part)
      own_here =
          let d = domain_of store u.index in
          let m = domained store d h.domain in
          let places = law_places 0 m.frames in
          let in_places : n < length places = omega (arith, as_many store d places m.all, law_count store u.index) in
          let its : get_or u.index.laws n 0 ≡ get_or places n 0 = law_place store d u.index h.found h.domain n in_places in
          subst (λ (k : ℕ). OwnPart store k (get_or (maybe (frames_in store) [] (law_parts 0)) n no_part)) (sym its)
          (subst (λ (o : Option (List Frame)). OwnPart store (get_or places n 0) (get_or (maybe o [] (law_parts 0)) n no_part)) (sym m.are) (own_part store (suc (length store)) 0 m.frames m.are n in_places))

      part_is : PartIs store u.index.laws supplement u.over n (part_in store h.replacements n)
      part_is = subst (λ (o : List ℕ). PartIs store u.index.laws supplement o n (part_in store h.replacements n)) (sym h.places) (go (replacement_of h.replacements n) refl)
        where
          go : (o : Option Replacement) → replacement_of h.replacements n ≡ o → PartIs store u.index.laws supplement (over_of h.replacements) n (part_in store h.replacements n)
          go none e =
              subst (λ (o : Option Part). PartIs store u.index.laws supplement (over_of h.replacements) n (maybe o (get_or (maybe (frames_in store) [] (law_parts 0)) n no_part) (λ part. part))) (sym (no_part_lem 0 h.replacements n e))
              (own_is store supplement u.index.laws h.replacements n (omega (arith, h.sound.laws)) (get_or (maybe (frames_in store) [] (law_parts 0)) n no_part) own_here e)
          go (some r) e =
              let m = supplemented (domain_of store u.index) supplement h.replacements h.accepted in
              let t = stood supplement n r (suc (length supplement)) 0 h.replacements m.frames_there m.are m.all.frames_are e in
              subst (λ (o : Option Part). PartIs store u.index.laws supplement (over_of h.replacements) n (maybe o (get_or (maybe (frames_in store) [] (law_parts 0)) n no_part) (λ part. part))) (sym t.1.0)
              (replaced_is store supplement u.index.laws h.replacements n (omega (arith, h.sound.laws)) r t.0 t.1.1 t.1.0)

      pub stretch_is : got (law_stretch store u.index.laws supplement u.over n) ≡ stretch_of (law_in_force store supplement n)
      stretch_is = ap got (sym part_is.stretch) ∙ sym (ap stretch_of numbered)

-- whose law it is: what is known where a law is in force
pub record Known (store supplement : List ℕ) (n : ℕ) (p : Part) : Type 0 where
  pub under : UnderIs store supplement (under_in store supplement)
  pub number : n < (under_in store supplement).index.counts.laws
  pub part : PartIs store (under_in store supplement).index.laws supplement (under_in store supplement).over n p

pub known_law : (store supplement : List ℕ) (n : ℕ) (p : Part) → law_in_force store supplement n ≡ got p → Known store supplement n p
known_law store supplement n p e = by (under_in store supplement).ok refl
  where
    no_answer : (m : ℕ) → refused m ≡ stretch_of (law_in_force store supplement n) → ⊥
    no_answer m q = let y : refused m ≡ stretch_of (got p) = q ∙ ap stretch_of e in cc

    by : (b : Bool) → (under_in store supplement).ok ≡ b → Known store supplement n p
    by false k = absurd (no_answer 15 (not_found store supplement n k))
    by true k =
        let h = under_ok store supplement k in
        elim (dec_lt n (under_in store supplement).index.counts.laws) [
          | yes q ↦
              let same : part_in store h.replacements n ≡ p = (let y = sym (numbered store supplement n (under_in store supplement) h q) ∙ e in cc) in
              record {
                under = h;
                number = q;
                part = subst (PartIs store (under_in store supplement).index.laws supplement (under_in store supplement).over n) same (part_is store supplement n (under_in store supplement) h q);
              }
          | no q ↦ absurd (no_answer 20 (not_numbered store supplement n (under_in store supplement) h (omega arith)))
        ]

-- its bytes are where they are said to stand
pub bytes_there_lem : (store supplement : List ℕ) (n : ℕ) (p : Part) → law_in_force store supplement n ≡ got p → bytes_there p.stands (length p.bytes) store supplement ≡ p.bytes
bytes_there_lem store supplement n p e =
    let k = known_law store supplement n p e in
    ap (λ (x : Stretch). bytes_in x store supplement) k.part.stretch ∙ k.part.there

-- what is handed out of the place of the law in force is the law in force
module _ (store supplement r : Bor (List ℕ)) (n : ℕ) where
  pub in_force_out : (x : Stretch) → got x ≡ stretch_of (law_in_force store.now supplement.now n) → StandsIn x.stands store supplement (bytes_in x store.now supplement.now) r → InForce (law_in_force store.now supplement.now n) store supplement r
  in_force_out x e h = go (law_in_force store.now supplement.now n) refl e
    where
      go : (a : Answer Part) → law_in_force store.now supplement.now n ≡ a → got x ≡ stretch_of a → InForce a store supplement r
      go (refused m) k e = absurd cc
      go (got p) k e =
          let is : x ≡ record { stands = p.stands; size = length p.bytes } = cc in
          subst (λ (l : List ℕ). StandsIn p.stands store supplement l r) (bytes_there_lem store.now supplement.now n p k)
          (subst (λ (x : Stretch). StandsIn x.stands store supplement (bytes_in x store.now supplement.now) r) is h)

  pub nothing_out : (m : ℕ) → refused m ≡ stretch_of (law_in_force store.now supplement.now n) → r.now ≡ [] → InForce (law_in_force store.now supplement.now n) store supplement r
  nothing_out m e h = go (law_in_force store.now supplement.now n) e
    where
      go : (a : Answer Part) → refused m ≡ stretch_of a → InForce a store supplement r
      go (refused k) e = h
      go (got p) e = absurd cc
