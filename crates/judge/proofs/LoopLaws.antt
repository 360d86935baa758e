-- A loop over numbers against a definition that goes through a list: where it starts, goes on, stops and ends. The definition
-- stands as R, what it gives of the elements from place i on. Assumes nothing.
use Prim.Native.Nat.{ℕ, zero, suc, ◌+◌, ◌-◌, ◌≤◌, ◌<◌}
use mathlib.Core.Path.{◌≡◌, refl, sym, ap, ◌∙◌}
use mathlib.Core.List.{List, [], ◌∷◌}
use native.Mathlib.Numerals.{add-one}
use native.Mathlib.Omega.{arith}
use native.Mathlib.Decide.{dec_lt}
use lib.ListN.{length, get_or, drop, drop_of_length-le}
use lib.Seq.{drop-cons}
use Rattle.std.specs.Prelude.{Ok, Err}
use Rattle.bmap.specs.Number.{Valued}
use Rattle.bmap.specs.declared.Reason.{Reason}
use Rattle.bmap.specs.Judge.{Pass, pass, fine, fault, reads, trouble_kind, each_from}

module _ {A Y : Type 0} (R : ℕ → List A → Y) (l : List A) (d : A) where
  module _ (i : ℕ) where
    -- the loop is through
    pub ends : length l ≤ i → R i (drop i l) ≡ R i []
    ends h = ap (R i) (drop_of_length-le l {i = i} h)

    -- a turn decides
    pub stops : {y : Y} → i < length l → R i (get_or l i d ∷ drop (suc i) l) ≡ y → R i (drop i l) ≡ y
    stops h e = ap (R i) (drop-cons l i d h) ∙ e

    -- a turn goes on
    pub on : i < length l → R i (get_or l i d ∷ drop (suc i) l) ≡ R (suc i) (drop (suc i) l) → R i (drop i l) ≡ R (i + 1) (drop (i + 1) l)
    on h e = stops h e ∙ ap (λ (k : ℕ). R k (drop k l)) (sym (add-one i))

  -- turns that would only go on may be left out
  abbrev pub Idle : ℕ → ℕ → Type 0
  Idle i n = (k : ℕ) → i ≤ k → k < n → R k (get_or l k d ∷ drop (suc k) l) ≡ R (suc k) (drop (suc k) l)

  idle_from : (m i n : ℕ) → n ≡ i + m → n ≤ length l → Idle i n → R i (drop i l) ≡ R n (drop n l)
  idle_from zero i n e h idle = ap (λ (k : ℕ). R k (drop k l)) (omega arith)
  idle_from (suc m) i n e h idle =
      on i (omega arith) (idle i (omega arith) (omega arith))
      ∙ idle_from m (i + 1) n (omega arith) h (λ k p q. idle k (omega arith) q)

  pub idles : (i n : ℕ) → i ≤ n → n ≤ length l → Idle i n → R i (drop i l) ≡ R n (drop n l)
  idles i n p h idle = idle_from (n - i) i n (omega arith) h idle

  -- a loop that starts late, and one that ends early
  pub starts : (n : ℕ) → n ≤ length l → Idle 0 n → R 0 l ≡ R n (drop n l)
  starts n h idle = idles 0 n (omega arith) h idle

  pub rests : (i : ℕ) {y : Y} → ((k : ℕ) → R k [] ≡ y) → Idle i (length l) → R i (drop i l) ≡ y
  rests i e idle = elim (dec_lt i (length l)) [
    | yes h ↦ idles i (length l) (omega arith) (omega arith) idle ∙ (ends (length l) (omega arith) ∙ e (length l))
    | no h ↦ ends i (omega arith) ∙ e i
  ]

-- ---- what is read of a value

pub read_fine : {A : Type 0} {r : Valued A} {x : A} (n : ℕ) → fine x ≡ reads n r → r ≡ Ok x
read_fine {A} {r = Ok y} {x} n e = let z : y ≡ x = cc in ap Ok z
read_fine {A} {r = Err why} {x} n e = absurd cc

-- why there is none
pub record Blank (kind m n : ℕ) {A : Type 0} (r : Valued A) : Type 0 where
  pub why : Reason
  pub is : r ≡ Err why
  pub kinds : kind ≡ trouble_kind why
  pub places : m ≡ n

pub read_fault : {A : Type 0} {r : Valued A} {kind m n : ℕ} → fault kind m ≡ reads n r → Blank kind m n r
read_fault {A} {r = Ok y} {kind} {m} {n} e = absurd cc
read_fault {A} {r = Err why} {kind} {m} {n} e = record { why = why; is = refl; kinds = cc; places = cc }

-- ---- checks of a list in turn

module _ {A : Type 0} (f : ℕ → A → Pass) (i : ℕ) (a : A) (l : List A) where
  pub each_on : f i a ≡ pass → each_from i f (a ∷ l) ≡ each_from (suc i) f l
  unfolding each_from
  each_on e = rw e

  pub each_stop : {kind n : ℕ} → f i a ≡ fault kind n → each_from i f (a ∷ l) ≡ fault kind n
  unfolding each_from
  each_stop e = rw e

pub each_none : {A : Type 0} (f : ℕ → A → Pass) (i : ℕ) → each_from i f [] ≡ pass
unfolding each_from
each_none f i = refl
