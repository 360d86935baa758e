-- For callers: the laws in force, by the bytes of a domain and of a supplement accepted for it. Assumes nothing.
use Prim.Native.Nat.{ℕ, zero, suc, ◌+◌, ◌-◌, ◌≤◌, ◌<◌}
use native.Mathlib.Omega.{arith}
use mathlib.Core.Path.{◌≡◌, refl, sym, ap, subst, ◌∙◌}
use mathlib.Core.Bool.{Bool, true, false}
use mathlib.Core.List.{List, [], ◌∷◌, ◌++◌, map}
use mathlib.Core.Option.{Option, none, some}
use Rattle.std.specs.Prelude.{Option as Maybe, None, Some}
use lib.Dec.{eqb}
use lib.ListN.{length, get_or, take, drop, length-drop}
use lib.Seq.{drop-drop, take-append_seam}
use borrow.Author.Tests.{eqb-true, eq-eqb, ne_eqb}
use Rattle.bmap.specs.Plain.{if_else, maybe}
use Rattle.bmap.specs.Limits.{most_payload}
use Rattle.bmap.specs.Refusal.{Answer, got, refused, known, then, Reading, read, refused_at}
use Rattle.bmap.specs.Line.{Frame, stored}
use Rattle.bmap.specs.Domain.{Domain, Law}
use Rattle.bmap.specs.Payload.{byte, law_in}
use Rattle.bmap.specs.Store.{frame_at, zeros, frames_from, frames_in, what_was_read, domain_in}
use Rattle.bmap.specs.Supplement.{Replacement, replaces, replacement_of, in_force_from, replaced, kind_in, payload_in, stands_for, supplement_from, supplement_in, Where, in_domain, in_supplement, Part, replacement_part}
use Rattle.bmap.proofs.PlainLaws.{both_true}
use Rattle.bmap.specs.declared.limits.Counts.{Counts}
use Rattle.index.specs.declared.Index.{Index}
use Rattle.index.specs.Index.{frame_bytes, law_bytes, law_of, domain_of, Sound, law_number, no_law}
use Rattle.index.proofs.DomainLaws.{counts_are, law_count, law_number_lem}
use Rattle.domain.specs.Found.{found_in}
use Rattle.domain.proofs.Rows.{two_off}
use Rattle.domain.proofs.Stands.{Here, here, no_more}
use Rattle.domain.proofs.Accepted.{found_ok, refused_15}
use Rattle.domain.proofs.RoundTrip.{frame_off}
use Rattle.supplement.specs.declared.under.Under.{Under}
use Rattle.supplement.specs.Check.{place_in, count_place, over_of}
use Rattle.supplement.specs.Under.{index_found, under_of, under_in}
use Rattle.supplement.specs.Force.{stretch_at, bytes_in, payload_of}
use Rattle.supplement.proofs.OverLaws.{over_at_lem}
use Rattle.supplement.proofs.CheckLaws.{stands_by}
use Rattle.supplement.proofs.UnderLaws.{under_by, under_not}
use Rattle.supplement.proofs.Passes.{no_more as fit_none, found_fits, frames, AllRead, all_read}

-- ---- the laws in force, number by number

in_force_at : (s : List Replacement) (from : ℕ) (laws : List Law) (i : ℕ) → i < length laws
    → get_or (in_force_from s from laws) i no_law ≡ maybe (replacement_of s (from + i)) (get_or laws i no_law) (λ r. r.law)
unfolding in_force_from
in_force_at s from [] i h = absurd (omega arith)
in_force_at s from (l ∷ laws) zero h = let z : from ≡ from + 0 = omega arith in ap (λ (k : ℕ). maybe (replacement_of s k) l (λ r. r.law)) z
in_force_at s from (l ∷ laws) (suc i) h =
    let z : suc from + i ≡ from + suc i = omega arith in
    in_force_at s (suc from) laws i (omega arith) ∙ ap (λ (k : ℕ). maybe (replacement_of s k) (get_or laws i no_law) (λ r. r.law)) z

length_in_force_from : (s : List Replacement) (from : ℕ) (laws : List Law) → length (in_force_from s from laws) ≡ length laws
unfolding in_force_from
length_in_force_from s from [] = refl
length_in_force_from s from (l ∷ laws) = ap suc (length_in_force_from s (suc from) laws)

pub length_in_force : (s : List Replacement) (d : Domain) → length (replaced s d).laws ≡ length d.laws
unfolding replaced
length_in_force s d = length_in_force_from s 0 d.laws

pub in_force : (s : List Replacement) (d : Domain) (i : ℕ) → i < length d.laws → law_number (replaced s d) i ≡ maybe (replacement_of s i) (law_number d i) (λ r. r.law)
unfolding replaced
in_force s d i h = let z : 0 + i ≡ i = omega arith in in_force_at s 0 d.laws i h ∙ ap (λ (k : ℕ). maybe (replacement_of s k) (law_number d i) (λ r. r.law)) z

-- ---- where a replacement's bytes stand

-- the count of its frame, and the payload of its law behind number and kind
pub record Stood (s : List ℕ) (r : Replacement) (p : Part) : Type 0 where
  pub count : ℕ
  pub some_place : 1 ≤ count
  pub stands : p.stands ≡ in_supplement (count + 3)
  pub bytes : p.bytes ≡ payload_in r.frame
  pub there : take (get_or s count 0 - 2) (drop (count + 3) s) ≡ payload_in r.frame
  pub size : get_or s count 0 - 2 ≡ length (payload_in r.frame)
  pub short : length r.frame.payload ≤ 120
  -- the whole frame, from its kind on
  pub frame : take (get_or s count 0 + 2) (drop (count - 1) s) ≡ stored r.frame

-- the frames from a place on are the replacements'
module _ (s : List ℕ) (n : ℕ) (r : Replacement) where
  stood_here : (at : ℕ) → Here s at r.frame → Stood s r (record { stands = in_supplement (at + 4); bytes = payload_in r.frame })
  stood_here at h = record {
    count = at + 1;
    some_place = omega arith;
    stands = ap in_supplement (omega arith);
    bytes = refl;
    there =
        let z : at + 2 + 2 ≡ at + 1 + 3 = omega arith in
        sym (ap (drop 2) h.payload ∙ two_off (get_or s (at + 1) 0) (drop (at + 2) s) ∙ ap (take (get_or s (at + 1) 0 - 2)) (drop-drop 2 (at + 2) s ∙ ap (λ (k : ℕ). drop k s) z));
    size = omega (arith, h.count, length-drop 2 r.frame.payload);
    short = h.most;
    frame =
        let z : at + 1 - 1 ≡ at = omega arith in
        let n : get_or s (at + 1) 0 + 2 ≡ length (stored r.frame) = omega (arith, h.count) in
        ap (λ (k : ℕ). take (get_or s (at + 1) 0 + 2) (drop k s)) z ∙ ap (take (get_or s (at + 1) 0 + 2)) (frame_off s at r.frame h)
        ∙ ap (λ (k : ℕ). take k (stored r.frame ++ drop (at + length (stored r.frame)) s)) n ∙ take-append_seam (stored r.frame) (drop (at + length (stored r.frame)) s);
  }

  pub stood : (looks at : ℕ) (rs : List Replacement) (fs : List Frame) → frames_from looks s at ≡ some fs → frames rs ≡ fs → replacement_of rs n ≡ some r
      → (p : Part) × ((replacement_part at rs n ≡ some p) × Stood s r p)
  unfolding frames_from replacement_of replacement_part
  stood looks at [] fs e f q = absurd cc
  stood zero at (q ∷ rs) fs e f h = absurd cc
  stood (suc looks) at (q ∷ rs) fs e f h = go (frame_at s at) refl e (λ t k z. stood looks t rs k z)
    where
      go : (o : Option Frame) → frame_at s at ≡ o
          → maybe o (if_else (zeros (drop at s)) (some []) none) (λ g. maybe (frames_from looks s (at + length (stored g))) none (λ l. some (g ∷ l))) ≡ some fs
          → ((t : ℕ) (k : List Frame) → frames_from looks s t ≡ some k → frames rs ≡ k → replacement_of rs n ≡ some r → (p : Part) × ((replacement_part t rs n ≡ some p) × Stood s r p))
          → (p : Part) × ((if_else (eqb (replaces q) n) (some (record { stands = in_supplement (at + 4); bytes = payload_in q.frame })) (replacement_part (at + length (stored q.frame)) rs n) ≡ some p) × Stood s r p)
      go none o z rec = absurd (let y = f ∙ no_more (zeros (drop at s)) z in cc)
      go (some g) o z rec = by (frames_from looks s (at + length (stored g))) refl z
        where
          by : (k : Option (List Frame)) → frames_from looks s (at + length (stored g)) ≡ k → maybe k none (λ l. some (g ∷ l)) ≡ some fs
              → (p : Part) × ((if_else (eqb (replaces q) n) (some (record { stands = in_supplement (at + 4); bytes = payload_in q.frame })) (replacement_part (at + length (stored q.frame)) rs n) ≡ some p) × Stood s r p)
          by none w y = absurd cc
          by (some l) w y =
              let fr : q.frame ∷ frames rs ≡ g ∷ l = f ∙ (let x : fs ≡ g ∷ l = cc in x) in
              let its : q.frame ≡ g = cc in
              let rest : frames rs ≡ l = cc in
              test (eqb (replaces q) n) h (subst (λ (x : Frame). Here s at x) (sym its) (here s at g o)) (rec (at + length (stored q.frame)) l (ap (λ (x : Frame). frames_from looks s (at + length (stored x))) its ∙ w) rest)
            where
              test : (b : Bool) → if_else b (some q) (replacement_of rs n) ≡ some r → Here s at q.frame
                  → (replacement_of rs n ≡ some r → (p : Part) × ((replacement_part (at + length (stored q.frame)) rs n ≡ some p) × Stood s r p))
                  → (p : Part) × ((if_else b (some (record { stands = in_supplement (at + 4); bytes = payload_in q.frame })) (replacement_part (at + length (stored q.frame)) rs n) ≡ some p) × Stood s r p)
              test true h k rec =
                  let same : q ≡ r = cc in
                  (record { stands = in_supplement (at + 4); bytes = payload_in q.frame }, (refl, subst (λ (x : Replacement). Stood s r (record { stands = in_supplement (at + 4); bytes = payload_in x.frame })) (sym same) (stood_here at (subst (λ (x : Replacement). Here s at x.frame) same k))))
              test false h k rec = rec h

-- and a number that has none has no part
pub no_part_lem : (at : ℕ) (rs : List Replacement) (n : ℕ) → replacement_of rs n ≡ none → replacement_part at rs n ≡ none
unfolding replacement_of replacement_part
no_part_lem at [] n e = refl
no_part_lem at (q ∷ rs) n e = go (eqb (replaces q) n) e (no_part_lem (at + length (stored q.frame)) rs n)
  where
    go : (b : Bool) → if_else b (some q) (replacement_of rs n) ≡ none → (replacement_of rs n ≡ none → replacement_part (at + length (stored q.frame)) rs n ≡ none)
        → if_else b (some (record { stands = in_supplement (at + 4); bytes = payload_in q.frame })) (replacement_part (at + length (stored q.frame)) rs n) ≡ none
    go true h rec = absurd cc
    go false h rec = rec h

-- the place of its count, of each law number
module _ (rs : List Replacement) (n : ℕ) (few : n < 128) where
  pub over_none : replacement_of rs n ≡ none → get_or (over_of rs) n 0 ≡ 0
  over_none q = over_at_lem rs n few ∙ ap count_place (no_part_lem 0 rs n q)

  pub over_count : (s : List ℕ) (r : Replacement) (p : Part) → replacement_part 0 rs n ≡ some p → (t : Stood s r p) → get_or (over_of rs) n 0 ≡ t.count
  over_count s r p q t = over_at_lem rs n few ∙ ap count_place q ∙ ap (λ (w : Where). place_in w - 3) t.stands ∙ omega arith

-- ---- the payload of each law in force, by what was found

-- the payload of the domain's own law
payload_own : (store supplement : List ℕ) (frame over : ℕ) → over ≡ 0 → bytes_in (stretch_at store frame supplement over) store supplement ≡ drop 2 (frame_bytes store frame)
unfolding frame_bytes
payload_own store supplement frame over e =
    let z : get_or store (frame + 1) 0 + 2 - 2 ≡ get_or store (frame + 1) 0 = omega arith in
    ap (λ (b : Bool). bytes_in (if_else b (record { stands = in_domain (frame + 2); size = get_or store (frame + 1) 0 }) (record { stands = in_supplement (over + 3); size = get_or supplement over 0 - 2 })) store supplement) (eq-eqb over 0 e)
    ∙ ap (λ (n : ℕ). take n (drop (frame + 2) store)) (sym z)
    ∙ sym (two_off (get_or store (frame + 1) 0 + 2) (drop frame store) ∙ ap (take (get_or store (frame + 1) 0 + 2 - 2)) (drop-drop 2 frame store))

-- the payload of a law that replaces it
payload_over : (store supplement : List ℕ) (frame over : ℕ) → 1 ≤ over → bytes_in (stretch_at store frame supplement over) store supplement ≡ take (get_or supplement over 0 - 2) (drop (over + 3) supplement)
payload_over store supplement frame over h =
    ap (λ (b : Bool). bytes_in (if_else b (record { stands = in_domain (frame + 2); size = get_or store (frame + 1) 0 }) (record { stands = in_supplement (over + 3); size = get_or supplement over 0 - 2 })) store supplement) (ne_eqb over 0 (λ e. omega arith))

-- a law that stands for another has its kind
same_kind : (n : Counts) (kind : ℕ) (p : List ℕ) (f : Frame) (l : Law) → law_in n kind p ≡ some l → stands_for f l ≡ true → kind_in f ≡ kind
same_kind n kind p f l e h = eqb-true (kind_in f) kind (both_true (eqb (kind_in f) kind) _ (stands_by n kind p f l e ∙ h)).0

-- what is so of law i in force: its number, its payload and its place
pub record LawStands (store supplement : List ℕ) (x : Index) (d : Domain) (s : List Replacement) (i : ℕ) : Type 0 where
  pub law : law_in x.counts (byte (law_bytes store x i) 0) (payload_of store x.laws supplement (over_of s) i) ≡ some (law_number (replaced s d) i)
  pub short : length (payload_of store x.laws supplement (over_of s) i) ≤ most_payload

module _ (store supplement : List ℕ) (x : Index) (h : Sound store x) (s : List Replacement) where
  abbrev d : Domain
  d = domain_of store x

  module _ (fs : List Frame) (e : frames_in supplement ≡ some fs) (w : AllRead d [] fs s) (i : ℕ) (k : i < x.counts.laws) where
    few : i < 128
    few = omega (arith, h.laws)

    abbrev frame : ℕ
    frame = get_or x.laws i 0

    own : replacement_of s i ≡ none → LawStands store supplement x d s i
    unfolding law_of
    own q =
        let zero_there : get_or (over_of s) i 0 ≡ 0 = over_none s i few q in
        let bytes : payload_of store x.laws supplement (over_of s) i ≡ drop 2 (law_bytes store x i) = payload_own store supplement frame (get_or (over_of s) i 0) zero_there in
        record {
          law =
              ap (law_in x.counts (byte (law_bytes store x i) 0)) bytes ∙ h.law i k ∙ ap some (sym (law_number_lem store x i k))
              ∙ ap some (sym (in_force s d i (omega (arith, law_count store x)) ∙ ap (λ (o : Option Replacement). maybe o (law_number d i) (λ r. r.law)) q));
          short = omega (arith, ap length bytes, length-drop 2 (law_bytes store x i), h.short i k);
        }

    replacing : (r : Replacement) → replacement_of s i ≡ some r → LawStands store supplement x d s i
    unfolding law_of
    replacing r q =
        let t = stood supplement i r (suc (length supplement)) 0 s fs e w.frames_are q in
        let there = t.1.1 in
        let place : get_or (over_of s) i 0 ≡ there.count = over_count s i few supplement r t.0 t.1.0 there in
        let bytes : payload_of store x.laws supplement (over_of s) i ≡ payload_in r.frame
        = ap (λ (n : ℕ). bytes_in (stretch_at store frame supplement n) store supplement) place ∙ payload_over store supplement frame there.count there.some_place ∙ there.there in
        let f = found_fits d s i r w.fit q in
        let kind : kind_in r.frame ≡ byte (law_bytes store x i) 0
        = same_kind x.counts (byte (law_bytes store x i) 0) (drop 2 (law_bytes store x i)) r.frame (law_number d i) (h.law i k ∙ ap some (sym (law_number_lem store x i k)))
        (ap (λ (n : ℕ). stands_for r.frame (law_number d n)) (sym f.has) ∙ f.fits.same) in
        record {
          law =
              ap (law_in x.counts (byte (law_bytes store x i) 0)) bytes ∙ ap (λ (n : ℕ). law_in x.counts n (payload_in r.frame)) (sym kind)
              ∙ ap (λ (c : Counts). law_in c (kind_in r.frame) (payload_in r.frame)) (sym (counts_are store x)) ∙ f.fits.law
              ∙ ap some (sym (in_force s d i (omega (arith, law_count store x)) ∙ ap (λ (o : Option Replacement). maybe o (law_number d i) (λ r. r.law)) q));
          short = omega (arith, ap length bytes, length-drop 2 r.frame.payload, there.short);
        }

    pub law_stands : LawStands store supplement x d s i
    law_stands = go (replacement_of s i) refl
      where
        go : (o : Option Replacement) → replacement_of s i ≡ o → LawStands store supplement x d s i
        go none q = own q
        go (some r) q = replacing r q

-- ---- for callers

-- the replacements of an accepted store, and its frames
pub record Supplemented (d : Domain) (supplement : List ℕ) (s : List Replacement) : Type 0 where
  pub frames_there : List Frame
  pub are : frames_in supplement ≡ some frames_there
  pub all : AllRead d [] frames_there s

pub supplemented : (d : Domain) (supplement : List ℕ) (s : List Replacement) → supplement_in d supplement ≡ got s → Supplemented d supplement s
unfolding supplement_in
supplemented d supplement s e = go (frames_in supplement) refl e
  where
    by : (fs : List Frame) → frames_in supplement ≡ some fs → (r : Reading (List Replacement)) → supplement_from d [] (map got fs) ≡ r → known 15 (what_was_read r) ≡ got s → Supplemented d supplement s
    by fs f (refused_at n l) r q = absurd cc
    by fs f (read x) r q = let same : x ≡ s = cc in record { frames_there = fs; are = f; all = all_read d [] fs s fit_none (r ∙ ap read same) }

    go : (o : Option (List Frame)) → frames_in supplement ≡ o → known 15 (maybe o none (λ fs. what_was_read (supplement_from d [] (map got fs)))) ≡ got s → Supplemented d supplement s
    go none f q = absurd cc
    go (some fs) f q = by fs f (supplement_from d [] (map got fs)) refl q

-- the frame that replaces a law number, by the place of its count
pub record FrameOver (supplement : List ℕ) (count : ℕ) (f : Frame) : Type 0 where
  pub some_place : 1 ≤ count
  pub frame : take (get_or supplement count 0 + 2) (drop (count - 1) supplement) ≡ stored f

pub frame_over : (d : Domain) (supplement : List ℕ) (s : List Replacement) → supplement_in d supplement ≡ got s → (n : ℕ) → n < 128 → (r : Replacement) → replacement_of s n ≡ some r → FrameOver supplement (get_or (over_of s) n 0) r.frame
frame_over d supplement s e n few r q =
    let m = supplemented d supplement s e in
    let t = stood supplement n r (suc (length supplement)) 0 s m.frames_there m.are m.all.frames_are q in
    let there = t.1.1 in
    subst (λ (k : ℕ). FrameOver supplement k r.frame) (sym (over_count s n few supplement r t.0 t.1.0 there))
    (record { some_place = there.some_place; frame = there.frame })

pub supplement_15 : (d : Domain) (supplement : List ℕ) (n : ℕ) → supplement_in d supplement ≡ refused n → n ≡ 15
unfolding supplement_in
supplement_15 d supplement n e = go (maybe (frames_in supplement) none (λ fs. what_was_read (supplement_from d [] (map got fs)))) e
  where
    go : (o : Option (List Replacement)) → known 15 o ≡ refused n → n ≡ 15
    go none q = cc
    go (some s) q = absurd cc

-- what a caller has of two stores that are found
pub record UnderIs (store supplement : List ℕ) (u : Under) : Type 0 where
  pub found : found_in store ≡ Some u.index
  pub sound : Sound store u.index
  pub domain : domain_in store ≡ got (domain_of store u.index)
  pub replacements : List Replacement
  pub accepted : supplement_in (domain_of store u.index) supplement ≡ got replacements
  pub places : u.over ≡ over_of replacements
  -- law i in force, by its bytes
  pub law : (i : ℕ) → i < u.index.counts.laws
      → law_in u.index.counts (byte (law_bytes store u.index i) 0) (payload_of store u.index.laws supplement u.over i) ≡ some (law_number (replaced replacements (domain_of store u.index)) i)
  pub short : (i : ℕ) → i < u.index.counts.laws → length (payload_of store u.index.laws supplement u.over i) ≤ most_payload

module _ (store supplement : List ℕ) where
  abbrev pub UnderHere : Type 0
  UnderHere = UnderIs store supplement (under_in store supplement)

  under_from : (x : Index) → found_in store ≡ Some x → (s : List Replacement) → supplement_in (domain_of store x) supplement ≡ got s
      → UnderIs store supplement (record { ok = true; index = x; over = over_of s })
  under_from x e s q =
      let f = found_ok store x e in
      let m = supplemented (domain_of store x) supplement s q in
      let stands : (i : ℕ) → i < x.counts.laws → LawStands store supplement x (domain_of store x) s i = law_stands store supplement x f.sound s m.frames_there m.are m.all in
      record { found = e; sound = f.sound; domain = f.domain; replacements = s; accepted = q; places = refl; law = λ i h. (stands i h).law; short = λ i h. (stands i h).short }

  pub under_ok : (under_in store supplement).ok ≡ true → UnderHere
  under_ok e = go (found_in store) refl
    where
      by : (x : Index) → found_in store ≡ Some x → (a : Answer (List Replacement)) → supplement_in (domain_of store x) supplement ≡ a → under_of x a ≡ under_in store supplement → UnderHere
      by x f (refused n) q k = absurd (let b : false ≡ true = ap (λ (y : Under). y.ok) k ∙ e in cc)
      by x f (got s) q k = subst (UnderIs store supplement) k (under_from x f s q)

      go : (o : Maybe Index) → found_in store ≡ o → UnderHere
      go (Some x) f = by x f (supplement_in (domain_of store x) supplement) refl (under_by store supplement x f)
      go None f = absurd (let b : false ≡ true = ap (λ (y : Under). y.ok) (under_not store supplement f) ∙ e in cc)

  pub under_is : (u : Under) → u ≡ under_in store supplement → u.ok ≡ true → UnderIs store supplement u
  under_is u e ok = subst (UnderIs store supplement) (sym e) (under_ok (sym (ap (λ (y : Under). y.ok) e) ∙ ok))

  pub under_none : (under_in store supplement).ok ≡ false → then (domain_in store) (λ d. supplement_in d supplement) ≡ refused 15
  unfolding under_in
  under_none e = go (domain_in store) refl
    where
      by : (d : Domain) (a : Answer (List Replacement)) → supplement_in d supplement ≡ a → (under_of (index_found (found_in store)) a).ok ≡ false → a ≡ refused 15
      by d (got s) q k = absurd cc
      by d (refused n) q k = ap refused (supplement_15 d supplement n q)

      go : (a : Answer Domain) → domain_in store ≡ a → then a (λ d. supplement_in d supplement) ≡ refused 15
      go (refused n) q = ap refused (refused_15 store n q)
      go (got d) q = by d (supplement_in d supplement) refl (ap (λ (a : Answer Domain). (under_of (index_found (found_in store)) (then a (λ d. supplement_in d supplement))).ok) (sym q) ∙ e)
