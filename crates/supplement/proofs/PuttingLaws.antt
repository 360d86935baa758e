-- The frames of two supplements, put law number after law number to the front of a buffer. Assumes nothing.
use Prim.Native.Nat.{ℕ, suc, ◌+◌, ◌-◌, ◌≤◌, ◌<◌}
use native.Mathlib.Numerals.{add-one}
use native.Mathlib.Omega.{arith}
use mathlib.Core.Path.{◌≡◌, refl, sym, ap, ◌∙◌}
use mathlib.Core.Bool.{Bool}
use mathlib.Core.List.{List, [], ◌++◌, map}
use lib.ListN.{length, get_or, take, drop}
use lib.Seq.{take_all}
use borrow.Author.Tests.{eq-eqb, ne_eqb}
use Rattle.bmap.specs.Plain.{if_else, flat, numbers}
use Rattle.bmap.specs.Buffer.{over}
use Rattle.domain.proofs.IntoStore.{lent, renewed, lent_length}
use Rattle.domain.proofs.FrontLaws.{Fronts, fronts_first, fronts_done, fronts_room, fronts_next}
use Rattle.supplement.specs.Laid.{frame_with, winner, winner_of, frames_laid}

-- ---- one frame

module _ (s : List ℕ) (count : ℕ) where
  pub no_frame_with : count ≡ 0 → frame_with s count ≡ []
  no_frame_with e = ap (λ (b : Bool). if_else b [] (take (get_or s count 0 + 2) (drop (count - 1) s))) (eq-eqb count 0 e)

  pub frame_with_lem : (count ≡ 0 → ⊥) → frame_with s count ≡ take (get_or s count 0 + 2) (drop (count - 1) s)
  frame_with_lem e = ap (λ (b : Bool). if_else b [] (take (get_or s count 0 + 2) (drop (count - 1) s))) (ne_eqb count 0 e)

-- other bytes that are the same were put
pub copied : (bytes part out exit : List ℕ) (n : ℕ) → part ≡ bytes → n ≡ length part → exit ≡ take (length part) part ++ drop (length part) out → (n ≡ length bytes) × (exit ≡ over bytes out)
copied bytes part out exit n e m q =
    let p : exit ≡ over part out = q ∙ ap (λ (l : List ℕ). l ++ drop (length part) out) (take_all (length part) part (omega arith)) in
    (m ∙ ap length e, p ∙ ap (λ (l : List ℕ). over l out) e)

-- ---- the one that wins

module _ (lower : List ℕ) (low : ℕ) (upper : List ℕ) (high : ℕ) where
  pub lower_wins : high ≡ 0 → winner lower low upper high ≡ frame_with lower low
  lower_wins e = ap (λ (b : Bool). if_else b (frame_with lower low) (frame_with upper high)) (eq-eqb high 0 e)

  pub upper_wins : (high ≡ 0 → ⊥) → winner lower low upper high ≡ frame_with upper high
  upper_wins e = ap (λ (b : Bool). if_else b (frame_with lower low) (frame_with upper high)) (ne_eqb high 0 e)

-- ---- of all law numbers

module _ (lower low upper high : List ℕ) where
  -- those from a number on
  abbrev pub frames_from : ℕ → List ℕ
  frames_from n = flat (map (winner_of lower low upper high) (numbers n (128 - n)))

  pub record Putting (result₀ result : List ℕ) (used n : ℕ) : Type 0 where
    pub most : n ≤ 128
    pub front : Fronts (frames_laid lower low upper high) result₀ result used (frames_from n)

  pub putting_first : (result : List ℕ) → length (frames_laid lower low upper high) ≤ length result → Putting result result 0 0
  unfolding frames_laid
  putting_first result h = record { most = omega arith; front = fronts_first (frames_laid lower low upper high) result h }

  next_from : (n : ℕ) → n < 128 → frames_from n ≡ winner_of lower low upper high n ++ frames_from (n + 1)
  unfolding numbers flat
  next_from n h =
      let k : 128 - n ≡ suc (128 - suc n) = omega arith in
      ap (λ (m : ℕ). flat (map (winner_of lower low upper high) (numbers n m))) k
      ∙ ap (λ (m : ℕ). winner_of lower low upper high n ++ frames_from m) (sym (add-one n))

module _ {lower low upper high result₀ result : List ℕ} {used n : ℕ} (w : Putting lower low upper high result₀ result used n) where
  pub putting_done : 128 ≤ n → (used ≡ length (frames_laid lower low upper high)) × (result ≡ over (frames_laid lower low upper high) result₀)
  unfolding numbers flat
  putting_done h =
      let k : 128 - n ≡ 0 = omega arith in
      fronts_done w.front (ap (λ (m : ℕ). flat (map (winner_of lower low upper high) (numbers n m))) k)

  module _ (h : n < 128) where
    pub putting_room : used + length (winner_of lower low upper high n) ≤ length result
    putting_room = fronts_room w.front (winner_of lower low upper high n) (frames_from lower low upper high (n + 1)) (length (winner_of lower low upper high n)) refl (next_from lower low upper high n h)

    pub putting_fits : length (winner_of lower low upper high n) ≤ length (lent result used)
    putting_fits = omega (arith, putting_room, lent_length result used w.front.inside)

    pub putting_next : (size : ℕ) (p : List ℕ) → size ≡ length (winner_of lower low upper high n) → p ≡ over (winner_of lower low upper high n) (lent result used)
        → length (renewed result used p) ≡ length result → Putting lower low upper high result₀ (renewed result used p) (used + size) (n + 1)
    putting_next size p long put same = record {
      most = omega arith;
      front = fronts_next w.front (winner_of lower low upper high n) (frames_from lower low upper high (n + 1)) size (sym long) (next_from lower low upper high n h) p put same;
    }
