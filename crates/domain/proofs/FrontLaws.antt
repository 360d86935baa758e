-- Bytes put one after another to the front of a buffer that has room for all of them. Assumes nothing.
use Prim.Native.Nat.{ℕ, ◌+◌, ◌-◌, ◌≤◌}
use native.Mathlib.Omega.{arith}
use mathlib.Core.Path.{◌≡◌, refl, sym, ap, ◌∙◌}
use mathlib.Core.List.{List, [], ◌++◌, append_assoc, append-nil}
use lib.ListN.{length, take, drop, length-append, length-drop, take-append-drop, drop_of_length-le}
use lib.Seq.{length-take-le, take_at, drop_at, drop-drop}
use Rattle.bmap.specs.Buffer.{over}
use Rattle.line.proofs.Lists.{part_to_end}
use Rattle.domain.proofs.IntoStore.{lent, renewed}

-- of all the bytes, those up to `used` stand there and the rest are still to be put
pub record Fronts (all text₀ text : List ℕ) (used : ℕ) (rest : List ℕ) : Type 0 where
  pub bytes : all ≡ take used text ++ rest
  pub kept : drop used text ≡ drop used text₀
  pub same : length text ≡ length text₀
  pub inside : used ≤ length text
  pub room : length all ≤ length text

pub fronts_first : (all text : List ℕ) → length all ≤ length text → Fronts all text text 0 all
fronts_first all text h = record { bytes = refl; kept = refl; same = refl; inside = omega arith; room = h }

module _ {all text₀ text : List ℕ} {used : ℕ} {rest : List ℕ} (w : Fronts all text₀ text used rest) where
  pub fronts_done : rest ≡ [] → (used ≡ length all) × (text ≡ over all text₀)
  fronts_done e =
      let l : all ≡ take used text = w.bytes ∙ ap (λ r. take used text ++ r) e ∙ append-nil (take used text) in
      let n : length all ≡ used = ap length l ∙ length-take-le used text w.inside in
      (sym n, sym (take-append-drop used text) ∙ ap (λ r. take used text ++ r) w.kept ∙ ap (λ r. r ++ drop used text₀) (sym l) ∙ ap (λ (k : ℕ). all ++ drop k text₀) (sym n))

  -- the next of them
  module _ (next after : List ℕ) (n : ℕ) (long : length next ≡ n) (e : rest ≡ next ++ after) where
    all_bytes : all ≡ (take used text ++ next) ++ after
    all_bytes = w.bytes ∙ ap (λ r. take used text ++ r) e ∙ sym (append_assoc (take used text) next after)

    -- there is room for them
    pub fronts_room : used + n ≤ length text
    fronts_room =
        omega (
          arith,
          w.room,
          ap length all_bytes,
          length-append (take used text ++ next) after,
          length-append (take used text) next,
          length-take-le used text w.inside,
          long,
        )

    module _ (p : List ℕ) (put : p ≡ over next (lent text used)) where
      put_renewed : renewed text used p ≡ (take used text ++ next) ++ drop (used + n) text
      put_renewed =
          let none_left : drop (length text - used) (drop used text) ≡ [] = drop_of_length-le (drop used text) {i = length text - used} (omega (arith, length-drop used text)) in
          let part : drop (length next) (lent text used) ≡ drop (used + n) text
          = ap (drop (length next)) (part_to_end text used) ∙ drop-drop (length next) used text ∙ ap (λ k. drop (used + k) text) long in
          ap (λ r. take used text ++ (p ++ r)) none_left
          ∙ ap (λ r. take used text ++ r) (append-nil p ∙ put ∙ ap (λ r. next ++ r) part)
          ∙ sym (append_assoc (take used text) next (drop (used + n) text))

      pub fronts_next : length (renewed text used p) ≡ length text → Fronts all text₀ (renewed text used p) (used + n) after
      fronts_next same =
          let m : length (take used text ++ next) ≡ used + n = length-append (take used text) next ∙ omega (arith, length-take-le used text w.inside, long) in
          record {
            bytes =
                all_bytes
                ∙ ap (λ r. r ++ after) (sym (ap (take (used + n)) put_renewed ∙ take_at (take used text ++ next) (drop (used + n) text) (used + n) m));
            kept =
                ap (drop (used + n)) put_renewed ∙ drop_at (take used text ++ next) (drop (used + n) text) (used + n) m
                ∙ sym (drop-drop n used text) ∙ ap (drop n) w.kept ∙ drop-drop n used text₀;
            same = same ∙ w.same;
            inside = omega (arith, same, fronts_room);
            room = omega (arith, same, w.room);
          }
