-- The check of one frame of a supplement, refusal by refusal. Assumes nothing.
use Prim.Native.Nat.{ℕ, ◌+◌, ◌≤◌, ◌<◌}
use native.Mathlib.Omega.{arith}
use mathlib.Core.Path.{◌≡◌, refl, sym, ap, ◌∙◌}
use mathlib.Core.Bool.{Bool, true, false}
use mathlib.Core.List.{List, ◌∷◌, map}
use mathlib.Core.Option.{Option, none, some}
use lib.Dec.{eqb}
use lib.ListN.{length, get_or, set, drop}
use lib.Seq.{get_or-drop}
use Rattle.std.proofs.lemmas.List.{get_or_past, get_or-map, length-map}
use borrow.Author.Tests.{eqb-true, eq-eqb, ne_eqb, le-leb, lt-leb}
use Rattle.bmap.specs.Plain.{both, implies, maybe, any}
use Rattle.bmap.specs.Refusal.{Answer, got, refused, known, then}
use Rattle.bmap.specs.Line.{Frame, supplement_kind}
use Rattle.bmap.specs.Domain.{Domain, Law, executable, effect, must, Scope, static, concurrency, goal}
use Rattle.bmap.specs.Payload.{byte, scope_kind, law_in}
use Rattle.bmap.specs.Accept.{counts_of}
use Rattle.bmap.specs.Supplement.{Replacement, replaces, number_in, kind_in, payload_in, law_numbered, stands_for, replacement_in, replacement_part}
use Rattle.bmap.specs.declared.limits.Counts.{Counts}
use Rattle.bmap.proofs.PlainLaws.{both_true, both_end}
use Rattle.index.specs.declared.Index.{Index}
use Rattle.index.specs.Index.{frame_bytes, law_of, domain_of, Sound, law_number, no_law}
use Rattle.index.proofs.DomainLaws.{counts_are, law_count, law_number_lem}
use Rattle.domain.specs.Check.{is_some}
use Rattle.domain.proofs.Passed.{Form, is_executable, is_effect, is_must, law_form}
use Rattle.supplement.specs.Check.{LawsStand, has_entry, stands_in, count_place, over_of, number_taken, noted_at}
use Rattle.supplement.proofs.OverLaws.{gives, given, not_given, over_at_lem}

-- ---- 20: kind and entry, by the bytes of the domain's law

no_entry_lem : (s : Scope) → has_entry (scope_kind s) ≡ false
no_entry_lem static = refl
no_entry_lem concurrency = refl
no_entry_lem goal = refl

-- a byte after others
byte_after : (k : ℕ) (l : List ℕ) (i : ℕ) → byte (drop k l) i ≡ byte l (k + i)
byte_after k l i = get_or-drop k l i 0

-- whether a frame's law has this kind and, where the kind has one, this entry
abbrev pub has : Frame → ℕ → ℕ → Bool
has f kind entry = both (eqb (kind_in f) kind) (implies (has_entry kind) (eqb (byte (payload_in f) 0) entry))

-- what stands for a law has kind and entry of any frame that stands for it
pub stands_alike : (f g : Frame) (l : Law) → stands_for g l ≡ true → has f (kind_in g) (byte (payload_in g) 0) ≡ stands_for f l
stands_alike f g (executable e c) h =
    let t = both_true (eqb (kind_in g) 0xA5) _ h in
    ap (λ (k : ℕ). has f k (byte (payload_in g) 0)) (eqb-true (kind_in g) 0xA5 t.0) ∙ ap (has f 0xA5) (eqb-true (byte (payload_in g) 0) e t.1)
stands_alike f g (effect e c x y) h =
    let t = both_true (eqb (kind_in g) 0xA6) _ h in
    ap (λ (k : ℕ). has f k (byte (payload_in g) 0)) (eqb-true (kind_in g) 0xA6 t.0) ∙ ap (has f 0xA6) (eqb-true (byte (payload_in g) 0) e t.1)
stands_alike f g (must s c) h =
    ap (λ (k : ℕ). has f k (byte (payload_in g) 0)) (eqb-true (kind_in g) (scope_kind s) h)
    ∙ ap (λ (b : Bool). both (eqb (kind_in f) (scope_kind s)) (implies b (eqb (byte (payload_in f) 0) (byte (payload_in g) 0)))) (no_entry_lem s)
    ∙ both_end (eqb (kind_in f) (scope_kind s))

-- a frame stands for its own law
pub stands_itself : (n : Counts) (g : Frame) (l : Law) → law_in n (kind_in g) (payload_in g) ≡ some l → stands_for g l ≡ true
stands_itself n g l e = go (law_form n (kind_in g) (payload_in g) l e)
  where
    go : Form n (kind_in g) (payload_in g) l → stands_for g l ≡ true
    go (is_executable q below c z) = ap (stands_for g) z ∙ rw (eq-eqb (kind_in g) 0xA5 q) (eq-eqb (byte (payload_in g) 0) (byte (payload_in g) 0) refl)
    go (is_effect q c f x z) = ap (stands_for g) z ∙ rw (eq-eqb (kind_in g) 0xA6 q) (eq-eqb (byte (payload_in g) 0) (byte (payload_in g) 0) refl)
    go (is_must s q c z) = ap (stands_for g) z ∙ eq-eqb (kind_in g) (scope_kind s) q

-- by a law's kind and payload
pub stands_by : (n : Counts) (kind : ℕ) (p : List ℕ) (f : Frame) (l : Law) → law_in n kind p ≡ some l
    → has f kind (byte p 0) ≡ stands_for f l
stands_by n kind p f l e =
    let g : Frame = record { kind = supplement_kind; payload = 0 ∷ kind ∷ p } in
    stands_alike f g l (stands_itself n g l e)

pub stands_is : (n : Counts) (frame : List ℕ) (f : Frame) (l : Law) → law_in n (byte frame 0) (drop 2 frame) ≡ some l → stands_in frame f.payload ≡ stands_for f l
stands_is n frame f l e =
    -- the entries of both, by their places
    let entries : eqb (byte f.payload 2) (byte frame 2) ≡ eqb (byte (payload_in f) 0) (byte (drop 2 frame) 0)
    = ap (λ (x : ℕ). eqb x (byte frame 2)) (sym (byte_after 2 f.payload 0)) ∙ ap (eqb (byte (payload_in f) 0)) (sym (byte_after 2 frame 0)) in
    ap (λ (b : Bool). both (eqb (kind_in f) (byte frame 0)) (implies (has_entry (byte frame 0)) b)) entries ∙ stands_by n (byte frame 0) (drop 2 frame) f l e

-- ---- the law of a number

pub numbered_none : {A : Type 0} (l : List A) (n : ℕ) → length l ≤ n → get_or (map some l) n none ≡ none
numbered_none l n h = get_or_past (map some l) n none (omega (arith, length-map l some))

pub numbered_some : {A : Type 0} (l : List A) (n : ℕ) (d : A) → n < length l → get_or (map some l) n none ≡ some (get_or l n d)
numbered_some l n d h = get_or-map some l n d none h

-- ---- the refusals in their order

-- the law that it says, or 4
abbrev saying : Frame → Option Law → Answer Replacement
saying f x = then (known 4 x) (λ l. got (record { frame = f; law = l }))

module _ (d : Domain) (earlier : List Replacement) (f : Frame) where
  abbrev stands : Bool
  stands = maybe (law_numbered d (number_in f)) false (stands_for f)

  abbrev twice : Bool
  twice = any (λ r. eqb (replaces r) (number_in f)) earlier

  pub not_kind : (f.kind ≡ 0xAF → ⊥) → refused 3 ≡ number_taken (replacement_in d earlier f)
  unfolding replacement_in
  not_kind k = rw (ne_eqb f.kind 0xAF k)

  module _ (k : f.kind ≡ 0xAF) where
    pub not_long : length f.payload < 3 → refused 4 ≡ number_taken (replacement_in d earlier f)
    unfolding replacement_in
    not_long l = rw (eq-eqb f.kind 0xAF k, lt-leb 3 (length f.payload) l)

    module _ (l : 3 ≤ length f.payload) where
      not_there_by : stands ≡ false → refused 20 ≡ number_taken (replacement_in d earlier f)
      unfolding replacement_in
      not_there_by e = rw (eq-eqb f.kind 0xAF k, le-leb 3 (length f.payload) l, e)

      module _ (there : stands ≡ true) where
        twice_by : twice ≡ true → refused 20 ≡ number_taken (replacement_in d earlier f)
        unfolding replacement_in
        twice_by e = rw (eq-eqb f.kind 0xAF k, le-leb 3 (length f.payload) l, there, e)

        module _ (new : twice ≡ false) where
          law_asked : number_taken (saying f (law_in (counts_of d) (kind_in f) (payload_in f))) ≡ number_taken (replacement_in d earlier f)
          unfolding replacement_in
          law_asked = rw (eq-eqb f.kind 0xAF k, le-leb 3 (length f.payload) l, there, new)

-- ---- in the code's terms

module _ {d : Domain} {store : List ℕ} {n : Counts} {laws over : List ℕ} (h : LawsStand d store n laws) (earlier : List Replacement) (o : over ≡ over_of earlier)
    (f : Frame) (k : f.kind ≡ 0xAF) (l : 3 ≤ length f.payload) (number : ℕ) (is : number ≡ number_in f) where
  how_many : length d.laws ≡ n.laws
  how_many = ap (λ (c : Counts). c.laws) h.counts

  abbrev frame : List ℕ
  frame = frame_bytes store (get_or laws number 0)

  pub not_there : n.laws ≤ number → refused 20 ≡ number_taken (replacement_in d earlier f)
  not_there q = not_there_by d earlier f k l (ap (λ (x : Option Law). maybe x false (stands_for f)) (numbered_none d.laws (number_in f) (omega (arith, how_many))))

  module _ (q : number < n.laws) where
    stands_in_lem : stands_in frame f.payload ≡ stands d earlier f
    stands_in_lem =
        let e : law_numbered d number ≡ some (law_number d number) = numbered_some d.laws number no_law (omega (arith, how_many)) in
        stands_is n frame f (law_number d number) (h.law number q ∙ e)
        ∙ ap (λ (x : Option Law). maybe x false (stands_for f)) (sym e) ∙ ap (λ (i : ℕ). maybe (law_numbered d i) false (stands_for f)) is

    pub other_law : stands_in frame f.payload ≡ false → refused 20 ≡ number_taken (replacement_in d earlier f)
    other_law e = not_there_by d earlier f k l (sym stands_in_lem ∙ e)

    module _ (same : stands_in frame f.payload ≡ true) (few : n.laws ≤ 128) where
      over_is : get_or over number 0 ≡ count_place (replacement_part 0 earlier (number_in f))
      over_is = ap (λ (x : List ℕ). get_or x number 0) o ∙ over_at_lem earlier number (omega arith) ∙ ap (λ (i : ℕ). count_place (replacement_part 0 earlier i)) is

      -- 0 is the place of no replacement
      is_twice : (t : Bool) → any (gives (number_in f)) earlier ≡ t → (get_or over number 0 ≡ 0 → ⊥) → t ≡ true
      is_twice true e p = refl
      is_twice false e p = absurd (p (over_is ∙ ap count_place (not_given 0 earlier (number_in f) e)))

      is_new : (t : Bool) → any (gives (number_in f)) earlier ≡ t → get_or over number 0 ≡ 0 → t ≡ false
      is_new true e p = absurd (omega (arith, given 0 earlier (number_in f) e, over_is))
      is_new false e p = refl

      pub given_twice : (get_or over number 0 ≡ 0 → ⊥) → refused 20 ≡ number_taken (replacement_in d earlier f)
      given_twice p = twice_by d earlier f k l (sym stands_in_lem ∙ same) (is_twice (twice d earlier f) refl p)

      module _ (p : get_or over number 0 ≡ 0) (kind : ℕ) (its : kind ≡ kind_in f) where
        asked : number_taken (saying f (law_in n kind (payload_in f))) ≡ number_taken (replacement_in d earlier f)
        asked =
            ap (λ (x : ℕ). number_taken (saying f (law_in n x (payload_in f)))) its
            ∙ ap (λ (c : Counts). number_taken (saying f (law_in c (kind_in f) (payload_in f)))) (sym h.counts)
            ∙ law_asked d earlier f k l (sym stands_in_lem ∙ same) (is_new (twice d earlier f) refl p)

        pub no_law_lem : false ≡ is_some (law_in n kind (payload_in f)) → refused 4 ≡ number_taken (replacement_in d earlier f)
        no_law_lem e = go (law_in n kind (payload_in f)) e ∙ asked
          where
            go : (x : Option Law) → false ≡ is_some x → refused 4 ≡ number_taken (saying f x)
            go none q = refl
            go (some l) q = absurd cc

        pub is_law_lem : true ≡ is_some (law_in n kind (payload_in f)) → got number ≡ number_taken (replacement_in d earlier f)
        is_law_lem e = go (law_in n kind (payload_in f)) e ∙ asked
          where
            go : (x : Option Law) → true ≡ is_some x → got number ≡ number_taken (saying f x)
            go none q = absurd cc
            go (some l) q = ap got is

-- ---- the index of an accepted domain has its laws

pub laws_stand : (store : List ℕ) (x : Index) → Sound store x → LawsStand (domain_of store x) store x.counts x.laws
unfolding law_of
laws_stand store x h = record {
  counts = counts_are store x;
  law = λ i k.
      h.law i k ∙ ap some (sym (law_number_lem store x i k)) ∙ sym (numbered_some (domain_of store x).laws i no_law (omega (arith, law_count store x)));
}

-- ---- the places with a frame more, by what its check answers

module _ (over : List ℕ) (at : ℕ) where
  pub noted_taken : (a : Answer Replacement) (n : ℕ) → got n ≡ number_taken a → got (set over n (at + 1)) ≡ noted_at over at a
  noted_taken (got r) n e = let same : n ≡ replaces r = cc in ap (λ (k : ℕ). got (set over k (at + 1))) same
  noted_taken (refused m) n e = absurd cc

  pub noted_refused : (a : Answer Replacement) (m : ℕ) → refused m ≡ number_taken a → refused m ≡ noted_at over at a
  noted_refused (got r) m e = absurd cc
  noted_refused (refused k) m e = cc
