-- Laying: by the places that were found, the frames put are those of what is laid. Assumes nothing.
use Prim.Native.Nat.{ℕ, zero, suc, ◌+◌, ◌≤◌, ◌<◌}
use native.Mathlib.Omega.{arith}
use mathlib.Core.Path.{◌≡◌, refl, sym, ap, ◌∙◌}
use mathlib.Core.Bool.{true, false}
use mathlib.Core.List.{List, [], ◌∷◌, ◌++◌, append-nil, map}
use mathlib.Core.Option.{Option, none, some}
use lib.ListN.{length, get_or, take, drop}
use lib.Seq.{take_at}
use borrow.Author.Tests.{lt-leb, le-leb}
use Rattle.bmap.specs.Plain.{maybe, flat, numbers}
use Rattle.bmap.specs.Limits.{supplement_size}
use Rattle.bmap.specs.Refusal.{Answer, got, refused, then}
use Rattle.bmap.specs.Line.{stored}
use Rattle.bmap.specs.Domain.{Domain}
use Rattle.bmap.specs.Buffer.{padded, over}
use Rattle.bmap.specs.Store.{domain_in}
use Rattle.bmap.specs.Supplement.{Replacement, replacement_of, supplement_in}
use Rattle.bmap.specs.Laying.{listed, by_number, winning, laid, bytes_of, both_laid, lay_supplements}
use Rattle.bmap.specs.Theorems.{Supplements}
use Rattle.theorems.proofs.ByNumberLaws.{from}
use Rattle.index.specs.declared.Index.{Index}
use Rattle.index.specs.Index.{domain_of}
use Rattle.supplement.specs.declared.under.Under.{Under}
use Rattle.supplement.specs.Check.{over_of}
use Rattle.supplement.specs.Under.{under_of, under_in}
use Rattle.supplement.specs.Laid.{frame_with, winner, winner_of, frames_laid}
use Rattle.supplement.proofs.Accepted.{over_none, frame_over, supplement_15, UnderIs, under_none}
use Rattle.supplement.proofs.ForceLaws.{then_refused}
use Rattle.supplement.proofs.PuttingLaws.{no_frame_with, frame_with_lem, lower_wins, upper_wins}
use Rattle.supplement.proofs.LaidLaws.{few_laid, laid_result}

-- ---- the frame of a law number, by the place of its count

module _ (d : Domain) (bytes : List ℕ) (s : List Replacement) (e : supplement_in d bytes ≡ got s) (n : ℕ) (few : n < 128) where
  frame_some : (r : Replacement) → replacement_of s n ≡ some r → (get_or (over_of s) n 0 ≡ 0 → ⊥) × (frame_with bytes (get_or (over_of s) n 0) ≡ bytes_of (r ∷ []))
  unfolding flat
  frame_some r q =
      let f = frame_over d bytes s e n few r q in
      let there : get_or (over_of s) n 0 ≡ 0 → ⊥ = λ z. omega (arith, f.some_place) in
      (there, frame_with_lem bytes (get_or (over_of s) n 0) there ∙ f.frame ∙ sym (append-nil (stored r.frame)))

  frame_is : frame_with bytes (get_or (over_of s) n 0) ≡ bytes_of (listed (replacement_of s n))
  unfolding flat
  frame_is = go (replacement_of s n) refl
    where
      go : (o : Option Replacement) → replacement_of s n ≡ o → frame_with bytes (get_or (over_of s) n 0) ≡ bytes_of (listed o)
      go none q = no_frame_with bytes (get_or (over_of s) n 0) (over_none s n few q)
      go (some r) q = (frame_some r q).1

-- ---- of all law numbers

module _ (d : Domain) (lower upper : List ℕ) (l u : List Replacement) (below : supplement_in d lower ≡ got l) (above : supplement_in d upper ≡ got u) where
  winner_is : (n : ℕ) → n < 128 → winner_of lower (over_of l) upper (over_of u) n ≡ bytes_of (listed (winning l u n))
  winner_is n few = go (replacement_of u n) refl
    where
      go : (o : Option Replacement) → replacement_of u n ≡ o → winner lower (get_or (over_of l) n 0) upper (get_or (over_of u) n 0) ≡ bytes_of (listed (maybe o (replacement_of l n) some))
      go none q = lower_wins lower (get_or (over_of l) n 0) upper (get_or (over_of u) n 0) (over_none u n few q) ∙ frame_is d lower l below n few
      go (some r) q = let f = frame_some d upper u above n few r q in upper_wins lower (get_or (over_of l) n 0) upper (get_or (over_of u) n 0) f.0 ∙ f.1

  frames_from_lem : (m i : ℕ) → i + m ≤ 128 → flat (map (winner_of lower (over_of l) upper (over_of u)) (numbers i m)) ≡ bytes_of (from (winning l u) i m)
  unfolding flat numbers
  frames_from_lem zero i h = refl
  frames_from_lem (suc m) i h =
      ap (λ (x : List ℕ). x ++ flat (map (winner_of lower (over_of l) upper (over_of u)) (numbers (suc i) m))) (winner_is i (omega arith))
      ∙ ap (λ (x : List ℕ). bytes_of (listed (winning l u i)) ++ x) (frames_from_lem m (suc i) (omega arith))
      ∙ go (winning l u i)
    where
      go : (o : Option Replacement) → bytes_of (listed o) ++ bytes_of (from (winning l u) (suc i) m) ≡ bytes_of (listed o ++ from (winning l u) (suc i) m)
      go none = refl
      go (some r) = ap (λ (x : List ℕ). x ++ bytes_of (from (winning l u) (suc i) m)) (append-nil (stored r.frame))

  pub frames_are : frames_laid lower (over_of l) upper (over_of u) ≡ bytes_of (laid l u)
  unfolding frames_laid laid by_number
  frames_are = frames_from_lem 128 0 (omega arith)

-- ---- what the call finds of both

pub record Layers (store lower upper : List ℕ) (x : Index) (low high : List ℕ) : Type 0 where
  pub below_ones : List Replacement
  pub above_ones : List Replacement
  pub both : Supplements store lower upper (domain_of store x) below_ones above_ones
  pub low_is : low ≡ over_of below_ones
  pub high_is : high ≡ over_of above_ones

pub layers : (store lower upper : List ℕ) (below above : Under) → UnderIs store lower below → above ≡ under_of below.index (supplement_in (domain_of store below.index) upper) → above.ok ≡ true
    → Layers store lower upper below.index below.over above.over
layers store lower upper below above h e ok = go (supplement_in (domain_of store below.index) upper) refl e
  where
    go : (a : Answer (List Replacement)) → supplement_in (domain_of store below.index) upper ≡ a → above ≡ under_of below.index a → Layers store lower upper below.index below.over above.over
    go (refused n) q k = absurd (let b : false ≡ true = sym (ap (λ (y : Under). y.ok) k) ∙ ok in cc)
    go (got u) q k = record {
      below_ones = h.replacements;
      above_ones = u;
      both = record { domain = h.domain; below = h.accepted; above = q };
      low_is = h.places;
      high_is = ap (λ (y : Under). y.over) k;
    }

module _ {store lower upper : List ℕ} {x : Index} {low high : List ℕ} (h : Layers store lower upper x low high) where
  pub layers_frames : frames_laid lower low upper high ≡ bytes_of (laid h.below_ones h.above_ones)
  layers_frames =
      ap (λ (l : List ℕ). frames_laid lower l upper high) h.low_is ∙ ap (λ (l : List ℕ). frames_laid lower (over_of h.below_ones) upper l) h.high_is
      ∙ frames_are (domain_of store x) lower upper h.below_ones h.above_ones h.both.below h.both.above

  pub layers_room : (result : List ℕ) → supplement_size ≤ length result → length (frames_laid lower low upper high) ≤ length result
  layers_room result r =
      omega (arith, r, ap length layers_frames, few_laid (domain_of store x) lower upper h.below_ones h.above_ones h.both.below h.both.above)

-- ---- the call

module _ (store lower upper result : List ℕ) where
  pub lay_10 : length result < supplement_size → (refused 10 ≡ (lay_supplements store lower upper result).answer) × (result ≡ (lay_supplements store lower upper result).buffer)
  unfolding lay_supplements
  lay_10 h = rw (lt-leb supplement_size (length result) h) (refl, refl)

  refused_both : supplement_size ≤ length result → both_laid store lower upper ≡ refused 15 → (refused 15 ≡ (lay_supplements store lower upper result).answer) × (result ≡ (lay_supplements store lower upper result).buffer)
  unfolding lay_supplements
  refused_both h e = rw (le-leb supplement_size (length result) h, e) (refl, refl)

  pub lay_15_below : supplement_size ≤ length result → (under_in store lower).ok ≡ false → (refused 15 ≡ (lay_supplements store lower upper result).answer) × (result ≡ (lay_supplements store lower upper result).buffer)
  lay_15_below h e =
      refused_both h
      (then_refused (domain_in store) (λ d. supplement_in d lower) (λ d l. then (supplement_in d upper) (λ u. got (laid l u))) 15 (under_none store lower e))

  pub lay_15_above : supplement_size ≤ length result → (below above : Under) → UnderIs store lower below → above ≡ under_of below.index (supplement_in (domain_of store below.index) upper) → above.ok ≡ false
      → (refused 15 ≡ (lay_supplements store lower upper result).answer) × (result ≡ (lay_supplements store lower upper result).buffer)
  lay_15_above h below above is e ok = refused_both h (rw (is.domain, is.accepted) (go (supplement_in (domain_of store below.index) upper) refl e))
    where
      go : (a : Answer (List Replacement)) → supplement_in (domain_of store below.index) upper ≡ a → above ≡ under_of below.index a → then a (λ u. got (laid is.replacements u)) ≡ refused 15
      go (got u) q k = absurd (let b : true ≡ false = sym (ap (λ (y : Under). y.ok) k) ∙ ok in cc)
      go (refused n) q k = ap refused (supplement_15 (domain_of store below.index) upper n q)

  -- the frames are put, and zeros after them
  pub lay_done : supplement_size ≤ length result → {x : Index} {low high : List ℕ} → Layers store lower upper x low high → (used : ℕ) (put exit : List ℕ)
      → (used ≡ length (frames_laid lower low upper high)) × (put ≡ over (frames_laid lower low upper high) result) → exit ≡ padded (length put) (take used put) → length put ≡ length result
      → (got used ≡ (lay_supplements store lower upper result).answer) × (exit ≡ (lay_supplements store lower upper result).buffer)
  lay_done room {x} {low} {high} h used put exit p q same =
      let bytes = bytes_of (laid h.below_ones h.above_ones) in
      let n : used ≡ length bytes = p.0 ∙ ap length (layers_frames h) in
      let front : take used put ≡ bytes = ap (take used) (p.1 ∙ ap (λ (l : List ℕ). over l result) (layers_frames h)) ∙ take_at bytes (drop (length bytes) result) used (sym n) in
      rw (laid_result store lower upper result (domain_of store x) h.below_ones h.above_ones h.both room)
      (ap got n, q ∙ ap (λ (k : ℕ). padded k (take used put)) same ∙ ap (padded (length result)) front)
