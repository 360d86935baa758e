-- The laws in force, each copied to a place of its own. Assumes nothing.
use Prim.Native.Nat.{ℕ, ◌+◌, ◌*◌, ◌≤◌, ◌<◌}
use mathlib.Core.Path.{◌≡◌, sym, ap, ◌∙◌, subst}
use mathlib.Core.List.{List, ◌++◌}
use mathlib.Core.Option.{some}
use native.Mathlib.Omega.{arith}
use native.Mathlib.Decide.{dec_lt}
use lib.ListN.{length, get_or, take, drop, set, length-set, length-take, take-append-drop}
use lib.Seq.{take_all, paste, take-paste, take-take, take-length, take_at, take-set-le, drop_at, drop-drop, get_or-take, get_or-drop, get_or-set_same, length-take-le}
use denote.Ref.{Bor}
use Rattle.bmap.specs.Limits.{most_laws, most_payload, frame_size}
use Rattle.bmap.specs.Domain.{Domain, Law}
use Rattle.bmap.specs.Payload.{law_in}
use Rattle.bmap.specs.Accept.{counts_of}
use Rattle.bmap.specs.Supplement.{Where, in_domain, in_supplement}
use Rattle.index.specs.Place.{StandsAt}
use Rattle.supplement.specs.Force.{StandsIn, law_stretch, payload_of}
use Rattle.law.specs.Evaluate.{held_size}
use Rattle.judge.specs.Told.{Says, HeldLaw, Held, kind_there, frame_of}
use Rattle.judge.proofs.StateLaws.{part_take}

-- ---- what is handed out

contents_in : (w : Where) (store supplement : Bor (List ℕ)) (bytes : List ℕ) (r : Bor (List ℕ)) → StandsIn w store supplement bytes r → r.now ≡ bytes
contents_in (in_domain at) store supplement bytes r s = s.contents
contents_in (in_supplement at) store supplement bytes r s = s.contents

module _ (store : Bor (List ℕ)) (laws : List ℕ) (supplement : Bor (List ℕ)) (over : List ℕ) (i : ℕ) (r : Bor (List ℕ)) where
  pub handed_out : StandsIn (law_stretch store.now laws supplement.now over i).stands store supplement (payload_of store.now laws supplement.now over i) r → r.now ≡ payload_of store.now laws supplement.now over i
  handed_out h = contents_in (law_stretch store.now laws supplement.now over i).stands store supplement (payload_of store.now laws supplement.now over i) r h

-- and as much of it as a frame has
module _ (p : List ℕ) (whole : Bor (List ℕ)) (r : Bor (List ℕ)) (e : whole.now ≡ p) where
  pub cut_short : StandsAt whole 0 (take most_payload (drop 0 whole.now)) r → r.now ≡ take most_payload p
  cut_short h = h.contents ∙ ap (take most_payload) e

-- ---- a kind and a payload, laid

module _ (held part : List ℕ) (at : ℕ) (room : at + length part ≤ length held) where
  -- what stands before a copy
  before_copy : take at (paste held at part (length part)) ≡ take at held
  before_copy =
      sym (take-take at (at + length part) (paste held at part (length part)) (omega arith))
      ∙ (ap (take at) (take-paste held at part (length part) (omega arith) (omega arith)) ∙ take_at (take at held) (take (length part) part) at (length-take-le at held (omega arith)))

  -- the copy
  copied : take (length part) (drop at (paste held at part (length part))) ≡ part
  copied =
      sym (part_take at (length part) (at + length part) (paste held at part (length part)) (omega arith))
      ∙ (ap (λ (l : List ℕ). take (length part) (drop at l)) (take-paste held at part (length part) (omega arith) (omega arith))
      ∙ (ap (take (length part)) (drop_at (take at held) (take (length part) part) at (length-take-le at held (omega arith)))
      ∙ (ap (take (length part)) (take-length part) ∙ take-length part)))

-- the first of the bytes from a place on
first_from : (at n : ℕ) (l : List ℕ) → at < n → get_or (drop at l) 0 0 ≡ get_or (take n l) at 0
first_from at n l h = get_or-drop at l 0 0 ∙ (ap (λ (k : ℕ). get_or l k 0) (let z : at + 0 ≡ at = omega arith in z) ∙ sym (get_or-take n l at 0 h))

module _ (held payload : List ℕ) (at kind : ℕ) (room : at + 2 + length payload ≤ length held) where
  abbrev laid : List ℕ
  laid = paste (set held at kind) (at + 2) payload (length payload)

  fits : at + 2 + length payload ≤ length (set held at kind)
  fits = omega (arith, length-set held at kind)

  front : take (at + 2) laid ≡ take (at + 2) (set held at kind)
  front = before_copy (set held at kind) payload (at + 2) fits

  before_laid : take at laid ≡ take at held
  before_laid = sym (take-take at (at + 2) laid (omega arith)) ∙ (ap (take at) front ∙ (take-take at (at + 2) (set held at kind) (omega arith) ∙ take-set-le at held at kind (omega arith)))

  law_laid : HeldLaw kind payload (drop at laid)
  law_laid = record {
    first = first_from at (at + 2) laid (omega arith) ∙ (ap (λ (l : List ℕ). get_or l at 0) front ∙ (get_or-take (at + 2) (set held at kind) at 0 (omega arith) ∙ get_or-set_same held at kind 0 (omega arith)));
    rest = ap (take (length payload)) (drop-drop 2 at laid) ∙ copied (set held at kind) payload (at + 2) fits;
  }

-- a law stays where nothing before a place beyond it changes
law_kept : (held held' : List ℕ) (at n kind : ℕ) (payload : List ℕ) → take n held' ≡ take n held → at + 2 + length payload ≤ n → HeldLaw kind payload (drop at held) → HeldLaw kind payload (drop at held')
law_kept held held' at n kind payload e h w =
    let size = length payload in
    record {
      first = first_from at n held' (omega arith) ∙ (ap (λ (l : List ℕ). get_or l at 0) e ∙ (sym (first_from at n held (omega arith)) ∙ w.first));
      rest = ap (take size) (drop-drop 2 at held')
          ∙ (sym (part_take (at + 2) size n held' h) ∙ (ap (λ (l : List ℕ). take size (drop (at + 2) l)) e ∙ (part_take (at + 2) size n held h ∙ (ap (take size) (sym (drop-drop 2 at held)) ∙ w.rest))));
    }

-- ---- one law more

module _ (store laws supplement over held : List ℕ) (i : ℕ) (before : Held store laws supplement over i held) (few : i < most_laws) (long : length held ≡ held_size)
    {payload : List ℕ} (its_payload : payload ≡ take most_payload (payload_of store laws supplement over i)) where
  pub room_for_law : frame_size * i + 2 + length payload ≤ length held
  room_for_law = let z : length payload ≡ length (take most_payload (payload_of store laws supplement over i)) = ap length its_payload in omega (arith, z, length-take most_payload (payload_of store laws supplement over i), long)

  pub hold_more : {kind : ℕ} {held' : List ℕ} → kind ≡ kind_there store laws i → held' ≡ paste (set held (frame_size * i) kind) (frame_size * i + 2) payload (length payload) → Held store laws supplement over (i + 1) held'
  hold_more {kind} {held'} its-kind e = record {
    law = λ k h short. elim (dec_lt k i) [
      | yes q ↦
          let p : frame_size * k + 2 + length (payload_of store laws supplement over k) ≤ frame_size * i = omega (arith, short) in
          law_kept held held' (frame_size * k) (frame_size * i) (kind_there store laws k) (payload_of store laws supplement over k) (ap (take (frame_size * i)) e ∙ before_laid held payload (frame_size * i) kind room_for_law) p (before.law k q short)
      | no q ↦
          let z : k ≡ i = omega arith in
          let whole : payload ≡ payload_of store laws supplement over i
          = its_payload ∙ take_all most_payload (payload_of store laws supplement over i) (subst (λ (m : ℕ). length (payload_of store laws supplement over m) ≤ most_payload) z short) in
          subst (λ (m : ℕ). HeldLaw (kind_there store laws m) (payload_of store laws supplement over m) (frame_of held' m)) (sym z)
          (subst (λ (n : ℕ). HeldLaw n (payload_of store laws supplement over i) (frame_of held' i)) its-kind
          (subst (λ (l : List ℕ). HeldLaw kind l (frame_of held' i)) whole
          (subst (λ (l : List ℕ). HeldLaw kind payload (frame_of l i)) (sym e) (law_laid held payload (frame_size * i) kind room_for_law))))
    ];
  }

-- a law that is held is said there
pub held_says : (d : Domain) {kind : ℕ} (payload bytes : List ℕ) (l : Law) → HeldLaw kind payload bytes → law_in (counts_of d) kind payload ≡ some l → length payload ≤ most_payload → Says d bytes l
held_says d payload bytes l w e few = record {
  payload = payload;
  more = drop (length payload) (drop 2 bytes);
  stands = sym (take-append-drop (length payload) (drop 2 bytes)) ∙ ap (λ (p : List ℕ). p ++ drop (length payload) (drop 2 bytes)) w.rest;
  law = ap (λ (k : ℕ). law_in (counts_of d) k payload) w.first ∙ e;
  short = few;
}
