-- Where laws stand: below 2 ^ 16, in a domain's store and in a supplement's. Assumes nothing.
use Prim.Native.Nat.{ℕ, zero, suc, ◌+◌, ◌-◌, ◌≤◌, ◌<◌, ◌^◌}
use native.Mathlib.Omega.{arith}
use mathlib.Core.Path.{◌≡◌, refl, sym, ap, subst, ◌∙◌}
use mathlib.Core.Bool.{Bool, true, false}
use mathlib.Core.List.{List, [], ◌∷◌, ◌++◌, map}
use mathlib.Core.Option.{Option, none, some}
use lib.Dec.{eqb, leb}
use lib.ListN.{length, get_or, set, drop, length-append}
use Rattle.bmap.specs.Plain.{if_else, maybe, flat}
use Rattle.bmap.specs.Refusal.{Answer, got, refused}
use Rattle.bmap.specs.Line.{Frame, stored, line_for}
use Rattle.bmap.specs.Domain.{Domain}
use Rattle.bmap.specs.Store.{frame_at, zeros, frames_in, domain_in, text_of}
use Rattle.bmap.specs.Supplement.{Replacement, replaces, payload_in, replacement_in, supplement_in, in_domain, in_supplement, Part, replacement_part, law_in_force}
use Rattle.bmap.specs.Laying.{bytes_of}
use Rattle.bmap.specs.Limits.{most_payload}
use Rattle.line.proofs.WriteLaws.{length_line}
use Rattle.index.specs.Index.{domain_of}
use Rattle.index.proofs.DomainLaws.{law_count}
use Rattle.domain.specs.Found.{law_places}
use Rattle.domain.proofs.Accepted.{domained, as_many}
use Rattle.domain.proofs.TextLaws.{domain_text_fits}
use Rattle.supplement.specs.Check.{place_in, count_place}
use Rattle.supplement.specs.Under.{under_in}
use Rattle.supplement.specs.Force.{Stretch, stretch_at, law_stretch}
use Rattle.supplement.proofs.OverLaws.{Over, over_at_lem}
use Rattle.supplement.proofs.UnderLaws.{Passing, passing_first, passing_junk, passing_done, passing_refused, passing_next}
use Rattle.supplement.proofs.ForceLaws.{known_law, law_place}

-- ---- a domain's laws: no place lies behind its text, and that has a limit

line_longer : (f : Frame) → length (stored f) ≤ length (line_for f)
line_longer f = omega (arith, length_line f.kind f.payload)

pub place_within : (at : ℕ) (fs : List Frame) (n : ℕ) → n < length (law_places at fs) → get_or (law_places at fs) n 0 ≤ at + length (flat (map line_for fs))
unfolding law_places flat
place_within at [] n h = absurd (omega arith)
place_within at (f ∷ fs) n h = go (leb 0xA5 f.kind) n h (place_within (at + length (stored f)) fs)
  where
    longer : length (line_for f ++ flat (map line_for fs)) ≡ length (line_for f) + length (flat (map line_for fs))
    longer = length-append (line_for f) (flat (map line_for fs))

    go : (b : Bool) (n : ℕ) → n < length (if_else b (at ∷ law_places (at + length (stored f)) fs) (law_places (at + length (stored f)) fs))
        → ((n : ℕ) → n < length (law_places (at + length (stored f)) fs) → get_or (law_places (at + length (stored f)) fs) n 0 ≤ at + length (stored f) + length (flat (map line_for fs)))
        → get_or (if_else b (at ∷ law_places (at + length (stored f)) fs) (law_places (at + length (stored f)) fs)) n 0 ≤ at + length (line_for f ++ flat (map line_for fs))
    go true zero h rec = omega arith
    go true (suc n) h rec = omega (arith, rec n (omega arith), longer, line_longer f)
    go false n h rec = omega (arith, rec n h, longer, line_longer f)

pub own_low : (store : List ℕ) (d : Domain) (fs : List Frame) → domain_in store ≡ got d → frames_in store ≡ some fs → (n : ℕ) → n < length (law_places 0 fs) → get_or (law_places 0 fs) n 0 ≤ 33_447
own_low store d fs g e n h =
    let t : text_of store ≡ flat (map line_for fs) = ap (λ (o : Option (List Frame)). maybe o [] (λ (l : List Frame). flat (map line_for l))) e in
    omega (arith, place_within 0 fs n h, ap length t, domain_text_fits.most store d g)

-- ---- a supplement's: few and short

-- the pass over an accepted store ends with its replacements
ends_with : (left : ℕ) (d : Domain) (s over : List ℕ) (at : ℕ) (rs : List Replacement) → length d.laws ≤ 128 → (h : Passing d s over at) → length s < at + left → supplement_in d s ≡ got rs
    → (o : List ℕ) × ((end : ℕ) × Over rs o end)
ends_with zero d s over at rs few h fuel e = absurd (omega (arith, h.inside))
ends_with (suc left) d s over at rs few h fuel e = go (frame_at s at) refl (λ o k next g. ends_with left d s o k rs few next g e)
  where
    not_refused : supplement_in d s ≡ refused 15 → ⊥
    not_refused z = let y : got rs ≡ refused 15 = sym e ∙ z in cc

    done : (b : Bool) → b ≡ zeros (drop at s) → frame_at s at ≡ none → (o : List ℕ) × ((end : ℕ) × Over rs o end)
    done false z n = absurd (not_refused (passing_junk h n z))
    done true z n =
        let same : h.earlier ≡ rs = (let y = sym (passing_done h n z) ∙ e in cc) in
        (over, (at, subst (λ (r : List Replacement). Over r over at) same h.stand))

    by : (f : Frame) → frame_at s at ≡ some f → (a : Answer Replacement) → replacement_in d h.earlier f ≡ a
        → ((o : List ℕ) (k : ℕ) → Passing d s o k → length s < k + left → (p : List ℕ) × ((end : ℕ) × Over rs p end))
        → (p : List ℕ) × ((end : ℕ) × Over rs p end)
    by f q (refused m) t rec = absurd (not_refused (passing_refused h f q m t))
    by f q (got r) t rec =
        rec (set over (replaces r) (at + 1)) (at + length (stored f)) (passing_next h f q r t few (at + length (stored f)) refl) (omega arith)

    go : (o : Option Frame) → frame_at s at ≡ o → ((o : List ℕ) (k : ℕ) → Passing d s o k → length s < k + left → (p : List ℕ) × ((end : ℕ) × Over rs p end))
        → (p : List ℕ) × ((end : ℕ) × Over rs p end)
    go none q rec = done (zeros (drop at s)) refl q
    go (some f) q rec = by f q (replacement_in d h.earlier f) refl rec

-- no part lies behind them
part_within : (at : ℕ) (rs : List Replacement) (n : ℕ) (p : Part) → replacement_part at rs n ≡ some p → place_in p.stands ≤ at + length (bytes_of rs) + 4
unfolding replacement_part flat
part_within at [] n p e = absurd cc
part_within at (r ∷ rs) n p e = go (eqb (replaces r) n) e (part_within (at + length (stored r.frame)) rs n p)
  where
    longer : length (stored r.frame ++ bytes_of rs) ≡ length (stored r.frame) + length (bytes_of rs)
    longer = length-append (stored r.frame) (bytes_of rs)

    go : (b : Bool) → if_else b (some (record { stands = in_supplement (at + 4); bytes = payload_in r.frame })) (replacement_part (at + length (stored r.frame)) rs n) ≡ some p
        → (replacement_part (at + length (stored r.frame)) rs n ≡ some p → place_in p.stands ≤ at + length (stored r.frame) + length (bytes_of rs) + 4)
        → place_in p.stands ≤ at + length (stored r.frame ++ bytes_of rs) + 4
    go true q rec = let same : place_in (in_supplement (at + 4)) ≡ place_in p.stands = ap (λ (o : Option Part). maybe o 0 (λ (x : Part). place_in x.stands)) q in omega (arith, same)
    go false q rec = omega (arith, rec q, longer)

pub replaced_low : (d : Domain) (s : List ℕ) (rs : List Replacement) → length d.laws ≤ 128 → supplement_in d s ≡ got rs → (n : ℕ) (p : Part) → replacement_part 0 rs n ≡ some p → place_in p.stands ≤ 15_620
replaced_low d s rs few e n p q =
    let w = ends_with (suc (length s)) d s _ 0 rs few (passing_first d s) (omega arith) e in
    let o = w.1.1 in
    omega (arith, part_within 0 rs n p q, o.here, o.before, o.rest)

-- ---- the law in force

stretch_low : (store : List ℕ) (frame : ℕ) (supplement : List ℕ) (over : ℕ) → place_in (stretch_at store frame supplement over).stands ≤ frame + over + 5
stretch_low store frame supplement over = go (eqb over 0)
  where
    go : (b : Bool) → place_in (if_else {A = Stretch} b (record { stands = in_domain (frame + 2); size = get_or store (frame + 1) 0 }) (record { stands = in_supplement (over + 3); size = get_or supplement over 0 - 2 })).stands ≤ frame + over + 5
    go true = omega arith
    go false = omega arith

-- its place and its length
pub record Low (p : Part) : Type 0 where
  pub place : place_in p.stands < 2 ^ 16
  pub size : length p.bytes ≤ most_payload

pub law_low : (store supplement : List ℕ) (n : ℕ) (p : Part) → law_in_force store supplement n ≡ got p → Low p
law_low store supplement n p e =
    let k = known_law store supplement n p e in
    let u = under_in store supplement in
    let d = domain_of store u.index in
    let m = domained store d k.under.domain in
    let places = law_places 0 m.frames in
    let few : length d.laws ≤ 128 = omega (arith, law_count store u.index, k.under.sound.laws) in
    let in_places : n < length places = omega (arith, as_many store d places m.all, law_count store u.index, k.number) in
    let frame : get_or u.index.laws n 0 ≤ 33_447 = subst (λ (i : ℕ). i ≤ 33_447) (sym (law_place store d u.index k.under.found k.under.domain n in_places)) (own_low store d m.frames k.under.domain m.are n in_places) in
    let over : get_or u.over n 0 ≤ 15_617 = subst (λ (i : ℕ). i ≤ 15_617) (sym (ap (λ (o : List ℕ). get_or o n 0) k.under.places ∙ over_at_lem k.under.replacements n (omega (arith, k.under.sound.laws, k.number)))) (low k.under.replacements (replaced_low d supplement k.under.replacements few k.under.accepted n)) in
    let there : place_in p.stands ≡ place_in (law_stretch store u.index.laws supplement u.over n).stands = ap (λ (x : Stretch). place_in x.stands) k.part.stretch in
    record {
      place = omega (arith, there, frame, over, stretch_low store (get_or u.index.laws n 0) supplement (get_or u.over n 0));
      size = subst (λ (l : List ℕ). length l ≤ most_payload) k.part.there (k.under.short n k.number);
    }
  where
    low : (rs : List Replacement) → ((q : Part) → replacement_part 0 rs n ≡ some q → place_in q.stands ≤ 15_620) → count_place (replacement_part 0 rs n) ≤ 15_617
    low rs h = go (replacement_part 0 rs n) refl
      where
        go : (o : Option Part) → replacement_part 0 rs n ≡ o → count_place o ≤ 15_617
        go none q = omega arith
        go (some q) r = omega (arith, h q r)
