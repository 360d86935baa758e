-- What a frame that passes its check says, and the replacements of a supplement that is read. Assumes nothing.
use Prim.Native.Nat.{ℕ, suc, ◌+◌, ◌≤◌, ◌<◌}
use native.Mathlib.Decide.{dec_lt}
use native.Mathlib.Omega.{arith}
use mathlib.Core.Path.{◌≡◌, refl, sym, ap, subst, ◌∙◌}
use mathlib.Core.Bool.{Bool, true, false, not}
use mathlib.Core.List.{List, [], ◌∷◌, ◌++◌, append_assoc, append-nil, map}
use mathlib.Core.Option.{Option, none, some}
use lib.Dec.{eqb, leb}
use lib.ListN.{length, set}
use borrow.Author.Tests.{eqb-true, leb-true, not-true}
use Rattle.bmap.specs.Plain.{if_else, maybe, any}
use Rattle.bmap.specs.Refusal.{Answer, got, refused, known, then, read, at_line}
use Rattle.bmap.specs.Line.{Frame, stored}
use Rattle.bmap.specs.Domain.{Domain, Law}
use Rattle.bmap.specs.Payload.{law_in}
use Rattle.bmap.specs.Accept.{counts_of}
use Rattle.bmap.specs.Supplement.{Replacement, replaces, replacement_of, number_in, kind_in, payload_in, law_numbered, stands_for, replacement_in, supplement_from}
use Rattle.index.specs.Index.{law_number, no_law}
use Rattle.line.proofs.Answers.{need_got}
use Rattle.domain.proofs.Rows.{map_snoc}
use Rattle.supplement.proofs.OverLaws.{gives, Over, over_next}
use Rattle.supplement.proofs.CheckLaws.{numbered_none, numbered_some}

-- ---- a replacement that fits the domain

pub record Fits (d : Domain) (r : Replacement) : Type 0 where
  pub kind : r.frame.kind ≡ 0xAF
  pub long : 3 ≤ length r.frame.payload
  pub number : replaces r < length d.laws
  pub same : stands_for r.frame (law_number d (replaces r)) ≡ true
  pub law : law_in (counts_of d) (kind_in r.frame) (payload_in r.frame) ≡ some r.law

-- after those before it
pub record Passes (d : Domain) (earlier : List Replacement) (f : Frame) (r : Replacement) : Type 0 where
  pub frame : r.frame ≡ f
  pub new : any (gives (replaces r)) earlier ≡ false
  pub fits : Fits d r

-- the law that has the number
module _ (d : Domain) (f : Frame) where
  has_number : maybe (law_numbered d (number_in f)) false (stands_for f) ≡ true → (number_in f < length d.laws) × (stands_for f (law_number d (number_in f)) ≡ true)
  has_number e = elim (dec_lt (number_in f) (length d.laws)) [
    | yes h ↦ (h, sym (ap (λ (o : Option Law). maybe o false (stands_for f)) (numbered_some d.laws (number_in f) no_law h)) ∙ e)
    | no h ↦
        absurd (let b : false ≡ true = sym (ap (λ (o : Option Law). maybe o false (stands_for f)) (numbered_none d.laws (number_in f) (omega arith))) ∙ e in cc)
  ]

pub passes : (d : Domain) (earlier : List Replacement) (f : Frame) (r : Replacement) → replacement_in d earlier f ≡ got r → Passes d earlier f r
unfolding replacement_in
passes d earlier f r e =
    let a = need_got (eqb f.kind 0xAF) 3 _ r e in
    let b = need_got (leb 3 (length f.payload)) 4 _ r a.1 in
    let c = need_got (maybe (law_numbered d (number_in f)) false (stands_for f)) 20 _ r b.1 in
    let t = need_got (not (any (gives (number_in f)) earlier)) 20 _ r c.1 in
    go (law_in (counts_of d) (kind_in f) (payload_in f)) refl (eqb-true f.kind 0xAF a.0) (leb-true 3 (length f.payload) b.0) (has_number d f c.0) (not-true _ t.0) t.1
  where
    go : (o : Option Law) → law_in (counts_of d) (kind_in f) (payload_in f) ≡ o → f.kind ≡ 0xAF → 3 ≤ length f.payload
        → (number_in f < length d.laws) × (stands_for f (law_number d (number_in f)) ≡ true) → any (gives (number_in f)) earlier ≡ false
        → then (known 4 o) (λ l. got (record { frame = f; law = l })) ≡ got r → Passes d earlier f r
    go none q a b n t z = absurd cc
    go (some l) q a b n t z =
        let same : record { frame = f; law = l } ≡ r = cc in
        subst (Passes d earlier f) same (record { frame = refl; new = t; fits = record { kind = a; long = b; number = n.0; same = n.1; law = q } })

-- where it stands after the others
pub over_passed : {d : Domain} {earlier : List Replacement} {f : Frame} {over : List ℕ} {at : ℕ} {r : Replacement} → Over earlier over at → Passes d earlier f r → length d.laws ≤ 128 → length f.payload ≤ 120
    → Over (earlier ++ (r ∷ [])) (set over (replaces r) (at + 1)) (at + length (stored f))
over_passed {d} {earlier} {f} {over} {at} {r} h v few short =
    subst (λ (x : Frame). Over (earlier ++ (r ∷ [])) (set over (replaces r) (at + 1)) (at + length (stored x))) v.frame
    (over_next h r v.new (omega (arith, v.fits.number, few)) (omega (arith, ap (λ (x : Frame). length x.payload) v.frame, short)))

-- ---- all of a supplement's

pub data AllFit (d : Domain) : List Replacement → Type 0 where
  no_more : AllFit d []
  and_more : {r : Replacement} {s : List Replacement} → Fits d r → AllFit d s → AllFit d (r ∷ s)

fit_snoc : (d : Domain) (s : List Replacement) (r : Replacement) → AllFit d s → Fits d r → AllFit d (s ++ (r ∷ []))
fit_snoc d [] r no_more f = and_more f no_more
fit_snoc d (q ∷ s) r (and_more g h) f = and_more g (fit_snoc d s r h f)

-- what is found fits, and has the number
pub record FoundFits (d : Domain) (n : ℕ) (r : Replacement) : Type 0 where
  pub fits : Fits d r
  pub has : replaces r ≡ n

pub found_fits : (d : Domain) (s : List Replacement) (n : ℕ) (r : Replacement) → AllFit d s → replacement_of s n ≡ some r → FoundFits d n r
unfolding replacement_of
found_fits d [] n r h e = absurd cc
found_fits d (q ∷ s) n r (and_more g h) e = go (eqb (replaces q) n) refl e (found_fits d s n r h)
  where
    go : (t : Bool) → eqb (replaces q) n ≡ t → if_else t (some q) (replacement_of s n) ≡ some r → (replacement_of s n ≡ some r → FoundFits d n r) → FoundFits d n r
    go true k z rec = let y : q ≡ r = cc in record { fits = subst (Fits d) y g; has = ap replaces (sym y) ∙ eqb-true (replaces q) n k }
    go false k z rec = rec z

abbrev pub frames : List Replacement → List Frame
frames s = map (λ (r : Replacement). r.frame) s

pub record AllRead (d : Domain) (earlier : List Replacement) (fs : List Frame) (s : List Replacement) : Type 0 where
  pub fit : AllFit d s
  pub frames_are : frames s ≡ frames earlier ++ fs

pub all_read : (d : Domain) (earlier : List Replacement) (fs : List Frame) (s : List Replacement) → AllFit d earlier → supplement_from d earlier (map got fs) ≡ read s → AllRead d earlier fs s
unfolding supplement_from
all_read d earlier [] s h e = let z : earlier ≡ s = cc in record { fit = subst (AllFit d) z h; frames_are = ap frames (sym z) ∙ sym (append-nil (frames earlier)) }
all_read d earlier (f ∷ fs) s h e = go (replacement_in d earlier f) refl e (λ r. all_read d (earlier ++ (r ∷ [])) fs s)
  where
    go : (a : Answer Replacement) → replacement_in d earlier f ≡ a → at_line (suc (length earlier)) a (λ r. supplement_from d (earlier ++ (r ∷ [])) (map got fs)) ≡ read s
        → ((r : Replacement) → AllFit d (earlier ++ (r ∷ [])) → supplement_from d (earlier ++ (r ∷ [])) (map got fs) ≡ read s → AllRead d (earlier ++ (r ∷ [])) fs s)
        → AllRead d earlier (f ∷ fs) s
    go (refused n) a t rec = absurd cc
    go (got r) a t rec =
        let v = passes d earlier f r a in
        let w = rec r (fit_snoc d earlier r h v.fits) t in
        record {
          fit = w.fit;
          frames_are =
              w.frames_are ∙ ap (λ (l : List Frame). l ++ fs) (map_snoc (λ (q : Replacement). q.frame) earlier r) ∙ append_assoc (frames earlier) (r.frame ∷ []) fs
              ∙ ap (λ (x : Frame). frames earlier ++ (x ∷ fs)) v.frame;
        }
