-- What is laid is again a supplement that the domain accepts; the domain with laws replaced accepts the same ones; the
-- law that is handed out hangs on its number's replacement alone. Assumes nothing.
use Prim.Native.Nat.{ℕ, zero, suc, ◌+◌, ◌*◌, ◌≤◌, ◌<◌}
use native.Mathlib.Decide.{dec_lt}
use native.Mathlib.Omega.{arith}
use mathlib.Core.Path.{◌≡◌, refl, sym, ap, ◌∙◌}
use mathlib.Core.Bool.{Bool, true, false}
use mathlib.Core.List.{List, [], ◌∷◌, ◌++◌, append_assoc, append-nil, map, map-map}
use mathlib.Core.Option.{Option, none, some}
use lib.Dec.{ltb}
use lib.ListN.{length, get_or, replicate, length-append}
use borrow.Author.Tests.{eq-eqb, ne_eqb, le-leb}
use Rattle.bmap.specs.Plain.{either, if_else, maybe, any, flat, numbers}
use Rattle.bmap.specs.Limits.{supplement_size}
use Rattle.bmap.specs.Refusal.{Answer, got, refused, need, known, then, Reading, read, at_line}
use Rattle.bmap.specs.Line.{Frame, stored}
use Rattle.bmap.specs.Domain.{Domain, Law}
use Rattle.bmap.specs.Accept.{counts_of}
use Rattle.bmap.specs.Buffer.{padded}
use Rattle.bmap.specs.Store.{frames_in, what_was_read, domain_in}
use Rattle.bmap.specs.Supplement.{Replacement, replaces, replacement_of, number_in, payload_in, replaced, law_numbered, stands_for, replacement_in, supplement_from, supplement_in, in_supplement, Part, law_parts, replacement_part, no_part, law_in_force}
use Rattle.bmap.specs.Laying.{listed, by_number, winning, laid, bytes_of, lay_supplements}
use Rattle.bmap.specs.Theorems.{Supplements}
use Rattle.index.specs.Index.{law_number, no_law}
use Rattle.theorems.proofs.ByNumberLaws.{from}
use Rattle.domain.proofs.Rows.{any_snoc}
use Rattle.domain.proofs.RoundTrip.{Fines, no_frames, and_frame, frames_back}
use Rattle.supplement.proofs.OverLaws.{gives}
use Rattle.supplement.proofs.CheckLaws.{stands_alike, stands_itself, numbered_none, numbered_some}
use Rattle.supplement.proofs.Passes.{Fits, FoundFits, found_fits, frames}
use Rattle.supplement.proofs.Accepted.{length_in_force, in_force, stood, Supplemented, supplemented}

-- ---- a replacement that fits, and whose number is new, is taken

taken : (d : Domain) (earlier : List Replacement) (r : Replacement) → Fits d r → any (gives (replaces r)) earlier ≡ false → replacement_in d earlier r.frame ≡ got r
unfolding replacement_in
taken d earlier r f new =
    rw (
      eq-eqb r.frame.kind 0xAF f.kind,
      le-leb 3 (length r.frame.payload) f.long,
      numbered_some d.laws (replaces r) no_law f.number,
      f.same,
      new,
      f.law,
    )

-- ---- what was found of each number

-- none of these has this number or a higher one
abbrev Below : ℕ → List Replacement → Type 0
Below i s = (n : ℕ) → i ≤ n → any (gives n) s ≡ false

below_more : (i : ℕ) (s : List Replacement) (r : Replacement) → Below i s → replaces r ≡ i → Below (suc i) (s ++ (r ∷ []))
below_more i s r h e n k =
    any_snoc (gives n) s r ∙ ap (λ b. either b (gives n r)) (h n (omega arith)) ∙ ne_eqb (replaces r) n (λ z. omega arith)

module _ (d : Domain) (found : ℕ → Option Replacement) (fit : (n : ℕ) (r : Replacement) → found n ≡ some r → FoundFits d n r) where
  reads_from : (n i : ℕ) (earlier : List Replacement) → Below i earlier → supplement_from d earlier (map got (frames (from found i n))) ≡ read (earlier ++ from found i n)
  unfolding supplement_from flat numbers
  reads_from zero i earlier h = ap read (sym (append-nil earlier))
  reads_from (suc n) i earlier h = go (found i) refl (reads_from n (suc i))
    where
      go : (o : Option Replacement) → found i ≡ o
          → ((s : List Replacement) → Below (suc i) s → supplement_from d s (map got (frames (from found (suc i) n))) ≡ read (s ++ from found (suc i) n))
          → supplement_from d earlier (map got (frames (listed o ++ from found (suc i) n))) ≡ read (earlier ++ (listed o ++ from found (suc i) n))
      go none q rec = rec earlier (λ k l. h k (omega arith))
      go (some r) q rec =
          let f = fit i r q in
          ap (λ a. at_line (suc (length earlier)) a (λ x. supplement_from d (earlier ++ (x ∷ [])) (map got (frames (from found (suc i) n)))))
          (taken d earlier r f.fits (h (replaces r) (omega (arith, f.has))))
          ∙ rec (earlier ++ (r ∷ [])) (below_more i earlier r h f.has)
          ∙ ap read (append_assoc earlier (r ∷ []) (from found (suc i) n))

  -- the frames of what was found are read as it
  pub reads_found : supplement_from d [] (map got (frames (by_number found))) ≡ read (by_number found)
  unfolding by_number any
  reads_found = reads_from 128 0 [] (λ n h. refl)

  module _ (short : (n : ℕ) (r : Replacement) → found n ≡ some r → length r.frame.payload ≤ 120) where
    fines_from : (n i : ℕ) → Fines (frames (from found i n))
    unfolding flat numbers
    fines_from zero i = no_frames
    fines_from (suc n) i = go (found i) refl (fines_from n (suc i))
      where
        go : (o : Option Replacement) → found i ≡ o → Fines (frames (from found (suc i) n)) → Fines (frames (listed o ++ from found (suc i) n))
        go none q rec = rec
        go (some r) q rec = let k = (fit i r q).fits.kind in and_frame (record { some_kind = λ (z : r.frame.kind ≡ 0). omega arith; most = short i r q }) rec

    -- in bytes, with any zeros after, it is a supplement that the domain accepts
    pub accepts_found : (zeros : ℕ) → supplement_in d (bytes_of (by_number found) ++ replicate zeros 0) ≡ got (by_number found)
    unfolding supplement_in by_number
    accepts_found zeros =
        let s = by_number found in
        let bytes : bytes_of s ≡ flat (map stored (frames s)) = ap flat (sym (map-map stored (λ (r : Replacement). r.frame) s)) in
        rw (bytes, frames_back (frames s) zeros (fines_from 128 0))
        (ap (λ (r : Reading (List Replacement)). known 15 (what_was_read r)) reads_found)

-- it has few enough bytes for any buffer
module _ (found : ℕ → Option Replacement) (short : (n : ℕ) (r : Replacement) → found n ≡ some r → length r.frame.payload ≤ 120) where
  pub few_from : (n i : ℕ) → length (bytes_of (from found i n)) ≤ n * 122
  unfolding flat numbers
  few_from zero i = omega arith
  few_from (suc n) i = go (found i) refl (few_from n (suc i))
    where
      go : (o : Option Replacement) → found i ≡ o → length (bytes_of (from found (suc i) n)) ≤ n * 122 → length (bytes_of (listed o ++ from found (suc i) n)) ≤ suc n * 122
      go none q rec = omega arith
      go (some r) q rec = omega (arith, short i r q, length-append (stored r.frame) (bytes_of (from found (suc i) n)))

  pub few_found : length (bytes_of (by_number found)) ≤ 128 * 122
  unfolding by_number
  few_found = few_from 128 0

-- ---- what an accepted supplement has of a number

module _ (d : Domain) (supplement : List ℕ) (s : List Replacement) (e : supplement_in d supplement ≡ got s) (n : ℕ) (r : Replacement) (q : replacement_of s n ≡ some r) where
  there : Supplemented d supplement s
  there = supplemented d supplement s e

  pub fits_in : FoundFits d n r
  fits_in = found_fits d s n r there.all.fit q

  pub short_in : length r.frame.payload ≤ 120
  short_in = (stood supplement n r (suc (length supplement)) 0 s there.frames_there there.are there.all.frames_are q).1.1.short

-- ---- laid

-- what is so of both supplements' is so of what wins
won : (P : Replacement → Type 0) (upper lower : Option Replacement) → ((r : Replacement) → upper ≡ some r → P r) → ((r : Replacement) → lower ≡ some r → P r)
    → (r : Replacement) → maybe upper lower some ≡ some r → P r
won P none lower f g r e = g r e
won P (some q) lower f g r e = f r e

module _ (d : Domain) (lower upper : List ℕ) (l u : List Replacement) (below : supplement_in d lower ≡ got l) (above : supplement_in d upper ≡ got u) where
  fits_won : (n : ℕ) (r : Replacement) → winning l u n ≡ some r → FoundFits d n r
  fits_won n = won (FoundFits d n) (replacement_of u n) (replacement_of l n) (fits_in d upper u above n) (fits_in d lower l below n)

  short_won : (n : ℕ) (r : Replacement) → winning l u n ≡ some r → length r.frame.payload ≤ 120
  short_won n = won (λ (r : Replacement). length r.frame.payload ≤ 120) (replacement_of u n) (replacement_of l n) (short_in d upper u above n) (short_in d lower l below n)

  pub accepts_laid : (zeros : ℕ) → supplement_in d (bytes_of (laid l u) ++ replicate zeros 0) ≡ got (laid l u)
  unfolding laid
  accepts_laid = accepts_found d (winning l u) fits_won short_won

  pub few_laid : length (bytes_of (laid l u)) ≤ supplement_size
  unfolding laid
  few_laid = omega (arith, few_found (winning l u) short_won)

pub laid_result : (store lower upper result : List ℕ) (d : Domain) (l u : List Replacement) → Supplements store lower upper d l u → supplement_size ≤ length result
    → lay_supplements store lower upper result ≡ record { answer = got (length (bytes_of (laid l u))); buffer = padded (length result) (bytes_of (laid l u)) }
unfolding lay_supplements
laid_result store lower upper result d l u s h = rw (le-leb supplement_size (length result) h, s.domain, s.below, s.above)

-- ---- the domain with some laws replaced accepts the same supplements

module _ (d : Domain) (supplement : List ℕ) (l : List Replacement) (e : supplement_in d supplement ≡ got l) where
  counts_kept : counts_of (replaced l d) ≡ counts_of d
  unfolding replaced
  counts_kept = ap (λ (n : ℕ). record { agents = d.agents; fluents = length d.fluents; knowledge = length d.knowledge; entries = length d.entries; laws = n }) (length_in_force l d)

  -- a law that stands in for another has its kind and its entry
  law_kept : (f : Frame) (n : ℕ) → n < length d.laws → stands_for f (law_number (replaced l d) n) ≡ stands_for f (law_number d n)
  law_kept f n h = ap (stands_for f) (in_force l d n h) ∙ go (replacement_of l n) refl
    where
      go : (o : Option Replacement) → replacement_of l n ≡ o → stands_for f (maybe o (law_number d n) (λ r. r.law)) ≡ stands_for f (law_number d n)
      go none q = refl
      go (some r) q =
          let g = fits_in d supplement l e n r q in
          sym (stands_alike f r.frame r.law (stands_itself (counts_of d) r.frame r.law g.fits.law))
          ∙ stands_alike f r.frame (law_number d n) (ap (λ (i : ℕ). stands_for r.frame (law_number d i)) (sym g.has) ∙ g.fits.same)

  stands_kept : (f : Frame) (n : ℕ) → maybe (law_numbered (replaced l d) n) false (stands_for f) ≡ maybe (law_numbered d n) false (stands_for f)
  stands_kept f n = elim (dec_lt n (length d.laws)) [
    | yes h ↦
        ap (λ (o : Option Law). maybe o false (stands_for f)) (numbered_some (replaced l d).laws n no_law (omega (arith, length_in_force l d)))
        ∙ law_kept f n h ∙ sym (ap (λ (o : Option Law). maybe o false (stands_for f)) (numbered_some d.laws n no_law h))
    | no h ↦
        ap (λ (o : Option Law). maybe o false (stands_for f)) (numbered_none (replaced l d).laws n (omega (arith, length_in_force l d)))
        ∙ sym (ap (λ (o : Option Law). maybe o false (stands_for f)) (numbered_none d.laws n (omega arith)))
  ]

  taken_alike : (earlier : List Replacement) (f : Frame) → replacement_in (replaced l d) earlier f ≡ replacement_in d earlier f
  unfolding replacement_in
  taken_alike earlier f = rw (stands_kept f (number_in f), counts_kept)

  read_alike : (fs : List (Answer Frame)) (earlier : List Replacement) → supplement_from (replaced l d) earlier fs ≡ supplement_from d earlier fs
  unfolding supplement_from
  read_alike [] earlier = refl
  read_alike (a ∷ fs) earlier = first a ∙ go (then a (replacement_in d earlier)) (read_alike fs)
    where
      first : (a : Answer Frame) → at_line (suc (length earlier)) (then a (replacement_in (replaced l d) earlier)) (λ r. supplement_from (replaced l d) (earlier ++ (r ∷ [])) fs)
          ≡ at_line (suc (length earlier)) (then a (replacement_in d earlier)) (λ r. supplement_from (replaced l d) (earlier ++ (r ∷ [])) fs)
      first (refused n) = refl
      first (got f) = ap (λ b. at_line (suc (length earlier)) b (λ r. supplement_from (replaced l d) (earlier ++ (r ∷ [])) fs)) (taken_alike earlier f)

      go : (a : Answer Replacement) → ((before : List Replacement) → supplement_from (replaced l d) before fs ≡ supplement_from d before fs)
          → at_line (suc (length earlier)) a (λ r. supplement_from (replaced l d) (earlier ++ (r ∷ [])) fs) ≡ at_line (suc (length earlier)) a (λ r. supplement_from d (earlier ++ (r ∷ [])) fs)
      go (refused n) rec = refl
      go (got r) rec = rec (earlier ++ (r ∷ []))

  pub accepts_alike : (other : List ℕ) → supplement_in (replaced l d) other ≡ supplement_in d other
  unfolding supplement_in
  accepts_alike other = go (frames_in other)
    where
      go : (o : Option (List Frame)) → known 15 (maybe o none (λ fs. what_was_read (supplement_from (replaced l d) [] (map got fs)))) ≡ known 15 (maybe o none (λ fs. what_was_read (supplement_from d [] (map got fs))))
      go none = refl
      go (some fs) = ap (λ (r : Reading (List Replacement)). known 15 (what_was_read r)) (read_alike (map got fs) [])

-- ---- the law that is handed out hangs on the number's replacement

-- the bytes of its part
part_bytes : (at : ℕ) (s : List Replacement) (n : ℕ) (own : Part) → (maybe (replacement_part at s n) own (λ p. p)).bytes ≡ maybe (replacement_of s n) own.bytes (λ r. payload_in r.frame)
unfolding replacement_part replacement_of
part_bytes at [] n own = refl
part_bytes at (r ∷ s) n own = go (gives n r) (part_bytes (at + length (stored r.frame)) s n own)
  where
    go : (b : Bool)
        → (maybe (replacement_part (at + length (stored r.frame)) s n) own (λ p. p)).bytes ≡ maybe (replacement_of s n) own.bytes (λ q. payload_in q.frame)
        → (maybe (if_else b (some (record { stands = in_supplement (at + 4); bytes = payload_in r.frame })) (replacement_part (at + length (stored r.frame)) s n)) own (λ p. p)).bytes
        ≡ maybe (if_else b (some r) (replacement_of s n)) own.bytes (λ q. payload_in q.frame)
    go true rec = refl
    go false rec = rec

abbrev pub bytes_asked : List ℕ → List ℕ → ℕ → Answer (List ℕ)
bytes_asked store supplement n = then (law_in_force store supplement n) (λ p. got p.bytes)

module _ (store : List ℕ) (d : Domain) (g : domain_in store ≡ got d) (n : ℕ) where
  asked_is : (supplement : List ℕ) (s : List Replacement) → supplement_in d supplement ≡ got s
      → bytes_asked store supplement n ≡ need (ltb n (length d.laws)) 20 (got (maybe (replacement_of s n) (get_or (maybe (frames_in store) [] (law_parts 0)) n no_part).bytes (λ r. payload_in r.frame)))
  unfolding law_in_force
  asked_is supplement s e = rw (g, e) (go (ltb n (length d.laws)))
    where
      own : Part
      own = get_or (maybe (frames_in store) [] (law_parts 0)) n no_part

      go : (b : Bool) → then (need b 20 (got (maybe (replacement_part 0 s n) own (λ p. p)))) (λ p. got p.bytes) ≡ need b 20 (got (maybe (replacement_of s n) own.bytes (λ r. payload_in r.frame)))
      go true = ap got (part_bytes 0 s n own)
      go false = refl

  -- two that have the same replacement of a number hand out the same law
  pub asked_alike : (supplement other : List ℕ) (s t : List Replacement) → supplement_in d supplement ≡ got s → supplement_in d other ≡ got t → replacement_of s n ≡ replacement_of t n
      → bytes_asked store supplement n ≡ bytes_asked store other n
  asked_alike supplement other s t e f q =
      asked_is supplement s e
      ∙ ap (λ (o : Option Replacement). need (ltb n (length d.laws)) 20 (got (maybe o (get_or (maybe (frames_in store) [] (law_parts 0)) n no_part).bytes (λ r. payload_in r.frame)))) q
      ∙ sym (asked_is other t f)
