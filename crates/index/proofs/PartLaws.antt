-- Parts of a store, where they stand. Assumes nothing.
use Rattle.std.proofs.Common.{ℕ, ◌+◌, ◌-◌, ◌≤◌, ◌<◌, ◌≡◌, sym, ap, subst, ◌∙◌, inl, inr, List, length, get_or, take, drop, min, arith, length-drop, length-take}
use Rattle.std.proofs.Math.ListN.{drop_of_length-le}
use Rattle.std.proofs.Math.Seq.{take-nil}
use Rattle.std.proofs.lemmas.Bool.{cases_lt}
use Rattle.std.proofs.lemmas.List.{take_all, take_min}
use Rattle.std.specs.Borrow.{Bor}
use Rattle.index.specs.Index.{frame_bytes}
use Rattle.index.specs.Place.{StandsAt}

-- the same part, its bytes or its place said in another way
pub with_bytes : {s r : Bor (List ℕ)} {at : ℕ} {b c : List ℕ} → b ≡ c → StandsAt s at b r → StandsAt s at c r
with_bytes {s} {r} {at} e h = subst (λ (l : List ℕ). StandsAt s at l r) e h

module _ (s : List ℕ) (at : ℕ) where
  -- what is left of the store from a place on: nothing from its end on
  rest_there : drop (min at (length s)) s ≡ drop at s
  rest_there = elim (cases_lt at (length s)) [
    | inl h ↦ ap (λ n. drop n s) (omega arith)
    | inr h ↦ let e : min at (length s) ≡ length s = omega arith in ap (λ n. drop n s) e ∙ drop_of_length-le s (omega arith) ∙ sym (drop_of_length-le s h)
  ]

  module _ (from size n : ℕ) (e : from ≡ min at (length s)) where
    abbrev rest : List ℕ
    rest = take (length s - from) (drop from s)

    pub part_bytes : n ≡ min size (length rest) → take n rest ≡ take size (drop at s)
    part_bytes k =
        ap (λ n. take n rest) k ∙ take_min size rest
        ∙ ap (take size) (take_all _ (drop from s) (omega (arith, length-drop from s)) ∙ ap (λ n. drop n s) e ∙ rest_there)

    pub part_place : 0 < length (take n rest) → from ≡ at
    part_place h = omega (arith, length-take n rest, length-take (length s - from) (drop from s), length-drop from s)

  -- the bytes of a frame: as many as its count says, which has no number past the end
  pub frame_counted : (end : ℕ) → length s ≤ end → take (get_or s (min (at + 1) end) 0 + 2) (drop at s) ≡ frame_bytes s at
  unfolding frame_bytes
  frame_counted end h = elim (cases_lt at (length s)) [
    | inl k ↦ let e : min (at + 1) end ≡ at + 1 = omega arith in ap (λ n. take (get_or s n 0 + 2) (drop at s)) e
    | inr k ↦ let e = drop_of_length-le s k in rw e (take-nil _ ∙ sym (take-nil _))
  ]
