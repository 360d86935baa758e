-- The frame reader's start and its next frame. Assumes nothing.
use Prim.Native.Nat.{ℕ, ◌+◌, ◌<◌, ◌≤◌}
use native.Mathlib.Omega.{arith}
use mathlib.Core.Path.{◌≡◌, refl, sym, ap, ◌∙◌}
use mathlib.Core.Bool.{true, false}
use mathlib.Core.List.{List, []}
use mathlib.Core.Logic.{◌⊎◌, inl, inr}
use mathlib.Core.Option.{Option, none}
use Rattle.std.specs.Prelude.{Option as Maybe, None, Some, unwrap_or}
use lib.ListN.{length, take, drop}
use Rattle.bmap.specs.Refusal.{Answer, got, refused, is_got}
use Rattle.bmap.specs.Plain.{maybe}
use Rattle.bmap.specs.Line.{Frame, stored}
use Rattle.bmap.specs.Domain.{Domain}
use Rattle.bmap.specs.Store.{frame_at, domain_in, start, Next, next_frame}
use Rattle.line.specs.Frame.{frame_size_at}
use Rattle.domain.specs.Frames.{part_at, place_after}
use Rattle.domain.proofs.Held.{Framed, framed, no_frame}
use Rattle.domain.proofs.Accepted.{refused_15}

module _ (s : List ℕ) where
  pub starts : true ≡ is_got (domain_in s) → start s ≡ record { answer = got tt; place = record { store = s; at = 0 } }
  unfolding start
  starts q = go (domain_in s) refl q
    where
      go : (a : Answer Domain) → domain_in s ≡ a → true ≡ is_got a → start s ≡ record { answer = got tt; place = record { store = s; at = 0 } }
      go (got d) e k = rw e
      go (refused n) e k = cc

  -- "else 15, and it stands over no bytes"
  pub starts_not : false ≡ is_got (domain_in s) → start s ≡ record { answer = refused 15; place = record { store = []; at = 0 } }
  unfolding start
  starts_not q = go (domain_in s) refl q
    where
      go : (a : Answer Domain) → domain_in s ≡ a → false ≡ is_got a → start s ≡ record { answer = refused 15; place = record { store = []; at = 0 } }
      go (got d) e k = cc
      go (refused n) e k = let z = refused_15 s n e in rw (e, z)

  module _ (at : ℕ) where
    next_is : {o : Option Frame} → frame_at s at ≡ o
        → next_frame (record { store = s; at = at }) ≡ maybe o (record { part = []; at = at }) (λ f. record { part = take (length (stored f)) (drop at s); at = at + length (stored f) })
    unfolding next_frame
    next_is e = ap (λ o. maybe o (record { part = []; at = at }) (λ f. record { part = take (length (stored f)) (drop at s); at = at + length (stored f) })) e

    no_part_lem : frame_at s at ≡ none → take 0 (drop at s) ≡ part_at s at
    no_part_lem e = sym (ap (λ (n : Next). n.part) (next_is e))

    pub no_move : frame_at s at ≡ none → at ≡ place_after s at
    no_move e = sym (ap (λ (n : Next). n.at) (next_is e))

    module _ (size : ℕ) (f : Framed s at size) where
      a_part : take size (drop at s) ≡ part_at s at
      a_part = ap (λ (n : ℕ). take n (drop at s)) f.is ∙ sym (ap (λ (n : Next). n.part) (next_is f.stands))

      pub a_move : at + size ≡ place_after s at
      a_move = ap (λ (n : ℕ). at + n) f.is ∙ sym (ap (λ (n : Next). n.at) (next_is f.stands))

    -- as many bytes as the frame has, none where there is no frame
    pub part_is : (o : Maybe ℕ) → o ≡ frame_size_at s at → take (unwrap_or o 0) (drop at s) ≡ part_at s at
    part_is None e = no_part_lem (no_frame s at e)
    part_is (Some size) e = a_part size (framed s at size e)

    -- no bytes, and the place stays; or the place moves on, within the store: so there is an end
    abbrev pub StaysOrMoves : Type 0
    StaysOrMoves = ((length (part_at s at) ≡ 0) × (place_after s at ≡ at)) ⊎ ((at < place_after s at) × (place_after s at ≤ length s))

    pub stays_or_moves : StaysOrMoves
    stays_or_moves = go (frame_size_at s at) refl
      where
        go : (o : Maybe ℕ) → o ≡ frame_size_at s at → StaysOrMoves
        go None e = let gone = no_frame s at e in inl (ap length (sym (no_part_lem gone)), sym (no_move gone))
        go (Some size) e =
            let f = framed s at size e in
            let moved : at + size ≡ place_after s at = a_move size f in
            inr (omega (arith, f.two), omega (arith, f.within))
