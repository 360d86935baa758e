-- Acceptance of a store and its index, frame by frame. Assumes nothing.
use Prim.Native.Nat.{ℕ, zero, suc, ◌+◌}
use mathlib.Core.Path.{◌≡◌, refl, sym, ap, ◌∙◌}
use mathlib.Core.Bool.{Bool, true, false}
use mathlib.Core.List.{List, [], ◌∷◌, ◌++◌, append_assoc, append-nil, map}
use mathlib.Core.Option.{Option, none, some}
use lib.Dec.{leb}
use lib.ListN.{length, drop}
use Rattle.bmap.specs.Plain.{if_else, maybe}
use Rattle.bmap.specs.Refusal.{Answer, got, refused, need, known, read, at_line}
use Rattle.bmap.specs.Line.{Frame, stored}
use Rattle.bmap.specs.Domain.{Domain}
use Rattle.bmap.specs.Accept.{Partial, nothing, accept, complete, finished, taken_from}
use Rattle.bmap.specs.Store.{frame_at, zeros, frames_from, frames_in, what_was_read, domain_in}
use Rattle.std.specs.Prelude.{Option as Maybe, None, Some}
use Rattle.index.specs.declared.Index.{Index}
use Rattle.domain.specs.Found.{law_places, index_with, found_of, found_in}
use Rattle.domain.proofs.Stands.{places_with}

-- ---- the index so far, and the frames from a place on; so many looks are left

abbrev onward : Answer Partial → (Partial → Maybe Index) → Maybe Index
onward (got q) k = k q
onward (refused n) k = None

unfoldable pub found_from : ℕ → Partial → List ℕ → List ℕ → ℕ → Maybe Index
found_from zero p places s at = None
found_from (suc looks) p places s at =
    maybe (frame_at s at) (if_else (zeros (drop at s)) (found_of places (finished p)) None) (λ f.
    onward (accept p f) (λ q. found_from looks q (places_with places at f) s (at + length (stored f))))

-- what the frames from a place on come to
abbrev found_by : ℕ → Partial → List ℕ → ℕ → Option (List Frame) → Maybe Index
found_by lines p places at none = None
found_by lines p places at (some fs) = found_of (places ++ law_places at fs) (known 15 (what_was_read (taken_from lines p (map got fs))))

found_by_lem : (looks lines : ℕ) (p : Partial) (places : List ℕ) (s : List ℕ) (at : ℕ) → found_by lines p places at (frames_from looks s at) ≡ found_from looks p places s at
unfolding frames_from found_from taken_from law_places
found_by_lem zero lines p places s at = refl
found_by_lem (suc looks) lines p places s at = step (frame_at s at) (λ f q. found_by_lem looks (suc lines) q (places_with places at f) s (at + length (stored f)))
  where
    ended : (b : Bool) → found_of (places ++ []) (known 15 (what_was_read (at_line lines (need b 7 (got p.domain)) read))) ≡ found_of places (need b 7 (got p.domain))
    ended true = ap (λ l. Some (index_with p.domain l)) (append-nil places)
    ended false = refl

    last : (b : Bool) → found_by lines p places at (if_else b (some []) none) ≡ if_else b (found_of places (finished p)) None
    last true = ended (complete p.domain)
    last false = refl

    seam : (f : Frame) (rest : List Frame) (a : Answer Domain) (b : Bool)
        → found_of (places ++ if_else b (at ∷ law_places (at + length (stored f)) rest) (law_places (at + length (stored f)) rest)) a
        ≡ found_of (if_else b (places ++ (at ∷ [])) places ++ law_places (at + length (stored f)) rest) a
    seam f rest a true = ap (λ l. found_of l a) (sym (append_assoc places (at ∷ []) (law_places (at + length (stored f)) rest)))
    seam f rest a false = refl

    more : (f : Frame) (a : Answer Partial) (o : Option (List Frame))
        → ((q : Partial) → found_by (suc lines) q (places_with places at f) (at + length (stored f)) o ≡ found_from looks q (places_with places at f) s (at + length (stored f)))
        → accept p f ≡ a
        → found_by lines p places at (maybe o none (λ rest. some (f ∷ rest))) ≡ onward a (λ q. found_from looks q (places_with places at f) s (at + length (stored f)))
    more f (got q) none rec e = rec q
    more f (refused n) none rec e = refl
    more f (got q) (some rest) rec e =
        seam f rest (known 15 (what_was_read (taken_from lines p (map got (f ∷ rest))))) (leb 0xA5 f.kind)
        ∙ ap (λ a. found_of (places_with places at f ++ law_places (at + length (stored f)) rest) (known 15 (what_was_read (at_line (suc lines) a (λ q. taken_from (suc lines) q (map got rest)))))) e
        ∙ rec q
    more f (refused n) (some rest) rec e =
        ap (λ a. found_of (places ++ law_places at (f ∷ rest)) (known 15 (what_was_read (at_line (suc lines) a (λ q. taken_from (suc lines) q (map got rest)))))) e

    step : (o : Option Frame)
        → ((f : Frame) (q : Partial) → found_by (suc lines) q (places_with places at f) (at + length (stored f)) (frames_from looks s (at + length (stored f))) ≡ found_from looks q (places_with places at f) s (at + length (stored f)))
        → found_by lines p places at (maybe o (if_else (zeros (drop at s)) (some []) none) (λ f. maybe (frames_from looks s (at + length (stored f))) none (λ rest. some (f ∷ rest))))
        ≡ maybe o (if_else (zeros (drop at s)) (found_of places (finished p)) None) (λ f. onward (accept p f) (λ q. found_from looks q (places_with places at f) s (at + length (stored f))))
    step none rec = last (zeros (drop at s))
    step (some f) rec = more f (accept p f) (frames_from looks s (at + length (stored f))) (rec f) refl

-- it starts with nothing
pub found_start : (s : List ℕ) → found_in s ≡ found_from (suc (length s)) nothing [] s 0
unfolding found_in domain_in
found_start s = go (frames_in s) ∙ found_by_lem (suc (length s)) 0 nothing [] s 0
  where
    go : (o : Option (List Frame)) → found_of (maybe o [] (law_places 0)) (known 15 (maybe o none (λ fs. what_was_read (taken_from 0 nothing (map got fs))))) ≡ found_by 0 nothing [] 0 o
    go none = refl
    go (some fs) = refl

-- one look
module _ (looks : ℕ) (p : Partial) (places : List ℕ) (s : List ℕ) (at : ℕ) (f : Frame) (e : frame_at s at ≡ some f) where
  pub found_refused : (m : ℕ) → accept p f ≡ refused m → found_from (suc looks) p places s at ≡ None
  unfolding found_from
  found_refused m a = rw (e, a)

  pub found_next : (q : Partial) → accept p f ≡ got q → found_from (suc looks) p places s at ≡ found_from looks q (places_with places at f) s (at + length (stored f))
  unfolding found_from
  found_next q a = rw (e, a)
