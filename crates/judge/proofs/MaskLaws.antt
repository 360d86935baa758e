-- Masks, bit by bit. Assumes nothing.
use Prim.Native.Nat.{ℕ, zero, suc, ◌+◌, ◌-◌, ◌*◌, ◌/◌, ◌%◌, ◌^◌, ◌≤◌, ◌<◌, min, max}
use mathlib.Core.Path.{◌≡◌, refl, sym, ap, ◌∙◌}
use mathlib.Core.List.{map}
use mathlib.Core.Bool.{Bool, true, false, not}
use native.Mathlib.Numerals.{add-one}
use native.Mathlib.Omega.{arith}
use lib.Bits.{bit_and, bit_or, or_shr, or_step, and_step, and_zero_l}
use lib.Dec.{eqb}
use lib.Pow.{pow-add, pow_mono, shr-shr, field, mod-mod-pow, shl_exact, pow_pos}
use native.Mathlib.Nat.{mod-le, lt_of_lt_of_le, div-eq_of_lt}
use native.Mathlib.Decide.{dec_lt}
use borrow.Author.Tests.{eq-eqb, ne_eqb}
use Rattle.bmap.specs.Plain.{either, both, if_else, any, numbers}
use Rattle.bmap.specs.Domain.{has}
use Rattle.law.proofs.Bits.{no_bit}
use Rattle.judge.specs.Masks.{flag_of, mask_from, union_from}

pub pow-suc : (n : ℕ) → 2 ^ suc n ≡ 2 ^ n * 2
pow-suc n = ap (λ (k : ℕ). 2 ^ k) (sym (add-one n)) ∙ pow-add 2 n 1

-- ---- building a mask, from the last number to the first

module _ (p : ℕ → Bool) where
  pub mask_none : (n : ℕ) → 0 ≡ mask_from p n (n - n)
  unfolding mask_from
  mask_none n = let z : n - n ≡ 0 = omega arith in rw z

  pub mask_more : (n i : ℕ) {mask : ℕ} {t : Bool} → 0 < i → i ≤ n → mask ≡ mask_from p i (n - i) → t ≡ p (i - 1) → mask * 2 + flag_of t ≡ mask_from p (i - 1) (n - (i - 1))
  unfolding mask_from
  mask_more n i h q e b =
      let z : n - (i - 1) ≡ suc (n - i) = omega arith in
      let y : i ≡ suc (i - 1) = omega arith in
      rw (z, e, b) (ap (λ (k : ℕ). mask_from p k (n - i) * 2 + flag_of (p (i - 1))) y)

  pub mask_whole : (n i : ℕ) {mask : ℕ} → i ≤ 0 → mask ≡ mask_from p i (n - i) → mask ≡ mask_from p 0 n
  mask_whole n i h e = let z : i ≡ 0 = omega arith in e ∙ (ap (λ (k : ℕ). mask_from p k (n - k)) z ∙ ap (mask_from p 0) (let y : n - 0 ≡ n = omega arith in y))

  flag_lt : (t : Bool) → flag_of t < 2
  flag_lt true = omega arith
  flag_lt false = omega arith

  pub mask_lt : (i n : ℕ) → mask_from p i n < 2 ^ n
  unfolding mask_from
  mask_lt i zero = omega arith
  mask_lt i (suc n) = let h : mask_from p (suc i) n < 2 ^ n = mask_lt (suc i) n in omega (arith, flag_lt (p i), pow-suc n)

  pub mask_small : (i n m : ℕ) {mask : ℕ} → n ≤ m → mask ≡ mask_from p i n → mask < 2 ^ m
  mask_small i n m h e = omega (arith, mask_lt i n, pow_mono {i = n} {j = m} h, e)

  bit_flag : (t : Bool) → eqb (flag_of t) 1 ≡ t
  bit_flag true = refl
  bit_flag false = refl

  -- bit e stands for the number i + e
  pub mask_bit : (i n e : ℕ) → e < n → has (mask_from p i n) e ≡ p (i + e)
  unfolding mask_from
  mask_bit i zero e h = absurd (omega arith)
  mask_bit i (suc n) zero h =
      let z : (mask_from p (suc i) n * 2 + flag_of (p i)) / 2 ^ 0 % 2 ≡ flag_of (p i) = omega (arith, flag_lt (p i)) in
      ap (λ (k : ℕ). eqb k 1) z ∙ (bit_flag (p i) ∙ ap p (omega arith))
  mask_bit i (suc n) (suc e) h =
      let z : (mask_from p (suc i) n * 2 + flag_of (p i)) / 2 ≡ mask_from p (suc i) n = omega (arith, flag_lt (p i)) in
      let y : (mask_from p (suc i) n * 2 + flag_of (p i)) / 2 ^ suc e ≡ mask_from p (suc i) n / 2 ^ e =
      ap (λ (k : ℕ). (mask_from p (suc i) n * 2 + flag_of (p i)) / 2 ^ k) (let w : suc e ≡ 1 + e = omega arith in w) ∙ (sym (shr-shr (mask_from p (suc i) n * 2 + flag_of (p i)) 1 e) ∙ ap (λ (k : ℕ). k / 2 ^ e) z) in
      ap (λ (k : ℕ). eqb (k % 2) 1) y ∙ (mask_bit (suc i) n e (omega arith) ∙ ap p (omega arith))

module _ (p : ℕ → Bool) (one : ℕ → ℕ) where
  pub union_none : (n : ℕ) → 0 ≡ union_from p one n (n - n)
  unfolding union_from
  union_none n = let z : n - n ≡ 0 = omega arith in rw z

  pub union_more : (n i : ℕ) {agents : ℕ} {t : Bool} → 0 < i → i ≤ n → agents ≡ union_from p one i (n - i) → t ≡ p (i - 1)
      → if_else t (bit_or agents (one (i - 1))) agents ≡ union_from p one (i - 1) (n - (i - 1))
  unfolding union_from
  union_more n i h q e b =
      let z : n - (i - 1) ≡ suc (n - i) = omega arith in
      let y : i ≡ suc (i - 1) = omega arith in
      rw (z, e, b) (ap (λ (k : ℕ). if_else (p (i - 1)) (bit_or (union_from p one k (n - i)) (one (i - 1))) (union_from p one k (n - i))) y)

  pub union_whole : (n i : ℕ) {agents : ℕ} → i ≤ 0 → agents ≡ union_from p one i (n - i) → agents ≡ union_from p one 0 n
  union_whole n i h e = let z : i ≡ 0 = omega arith in e ∙ (ap (λ (k : ℕ). union_from p one k (n - k)) z ∙ ap (union_from p one 0) (let y : n - 0 ≡ n = omega arith in y))

-- ---- the bits of a union, and of what two masks share

max_bit : (x y : ℕ) → x < 2 → y < 2 → eqb (max x y) 1 ≡ either (eqb x 1) (eqb y 1)
max_bit zero zero p q = refl
max_bit zero (suc zero) p q = refl
max_bit (suc zero) zero p q = refl
max_bit (suc zero) (suc zero) p q = refl
max_bit zero (suc (suc y)) p q = absurd (omega arith)
max_bit (suc zero) (suc (suc y)) p q = absurd (omega arith)
max_bit (suc (suc x)) y p q = absurd (omega arith)

pub or_bit : (x y a : ℕ) → has (bit_or x y) a ≡ either (has x a) (has y a)
or_bit x y a =
    let z : bit_or x y / 2 ^ a % 2 ≡ max (x / 2 ^ a % 2) (y / 2 ^ a % 2) = ap (λ (k : ℕ). k % 2) (or_shr x y a ∙ or_step (x / 2 ^ a) (y / 2 ^ a)) ∙ low_bit (bit_or (x / 2 ^ a / 2) (y / 2 ^ a / 2)) (max (x / 2 ^ a % 2) (y / 2 ^ a % 2)) (omega arith) in
    ap (λ (k : ℕ). eqb k 1) z ∙ max_bit (x / 2 ^ a % 2) (y / 2 ^ a % 2) (omega arith) (omega arith)
  where
    low_bit : (q r : ℕ) → r < 2 → (q * 2 + r) % 2 ≡ r
    low_bit q r h = omega arith

pub no_bits : (a : ℕ) → has 0 a ≡ false
no_bits a = sym (no_bit 0 0 a (omega arith) (omega arith))

either_comm : (s t : Bool) → either s t ≡ either t s
either_comm true true = refl
either_comm true false = refl
either_comm false true = refl
either_comm false false = refl

union_step : (t : Bool) (u m a : ℕ) (rest : Bool) → has u a ≡ rest → has (if_else t (bit_or u m) u) a ≡ either (both t (has m a)) rest
union_step true u m a rest e = or_bit u m a ∙ (ap (λ (s : Bool). either s (has m a)) e ∙ either_comm rest (has m a))
union_step false u m a rest e = e

pub union_bit : (p : ℕ → Bool) (one : ℕ → ℕ) (i n a : ℕ) → has (union_from p one i n) a ≡ any (λ k. both (p k) (has (one k) a)) (numbers i n)
unfolding union_from any numbers
union_bit p one i zero a = no_bits a
union_bit p one i (suc n) a = union_step (p i) (union_from p one (suc i) n) (one i) a (any (λ k. both (p k) (has (one k) a)) (numbers (suc i) n)) (union_bit p one (suc i) n a)

pub any_same : (p q : ℕ → Bool) (i n : ℕ) → ((k : ℕ) → i ≤ k → k < i + n → p k ≡ q k) → any p (numbers i n) ≡ any q (numbers i n)
unfolding any numbers
any_same p q i zero e = refl
any_same p q i (suc n) e = rw (e i (omega arith) (omega arith), any_same p q (suc i) n (λ k h g. e k (omega arith) (omega arith)))

pub any_next : (p : ℕ → Bool) (i n : ℕ) → any p (numbers (suc i) n) ≡ any (λ a. p (suc a)) (numbers i n)
unfolding any numbers
any_next p i zero = refl
any_next p i (suc n) = rw (any_next p (suc i) n)

pub any_map : {A : Type 0} (p : A → Bool) (g : ℕ → A) (i n : ℕ) → any p (map g (numbers i n)) ≡ any (λ k. p (g k)) (numbers i n)
unfolding any numbers
any_map p g i zero = refl
any_map p g i (suc n) = rw (any_map p g (suc i) n)

min_bit : (x y : ℕ) → x < 2 → y < 2 → eqb (min x y) 1 ≡ both (eqb x 1) (eqb y 1)
min_bit zero zero p q = refl
min_bit zero (suc zero) p q = refl
min_bit (suc zero) zero p q = refl
min_bit (suc zero) (suc zero) p q = refl
min_bit zero (suc (suc y)) p q = absurd (omega arith)
min_bit (suc zero) (suc (suc y)) p q = absurd (omega arith)
min_bit (suc (suc x)) y p q = absurd (omega arith)

some_bit : (q m : ℕ) → m < 2 → not (eqb (q * 2 + m) 0) ≡ either (eqb m 1) (not (eqb q 0))
some_bit zero zero h = refl
some_bit (suc q) zero h = ap not (ne_eqb (suc q * 2 + 0) 0 (λ e. omega arith)) ∙ sym (ap not (ne_eqb (suc q) 0 (λ e. omega arith)))
some_bit q (suc zero) h = ap not (ne_eqb (q * 2 + 1) 0 (λ e. omega arith))
some_bit q (suc (suc m)) h = absurd (omega arith)

first_bit : (x : ℕ) → eqb (x % 2) 1 ≡ has x 0
first_bit x = ap (λ (k : ℕ). eqb (k % 2) 1) (let z : x ≡ x / 2 ^ 0 = omega arith in z)

next_bit : (x a : ℕ) → has x (suc a) ≡ has (x / 2) a
next_bit x a = ap (λ (k : ℕ). eqb (k % 2) 1) (ap (λ (k : ℕ). x / 2 ^ k) (let w : suc a ≡ 1 + a = omega arith in w) ∙ sym (shr-shr x 1 a))

-- two masks share a bit
pub shares : (n x y : ℕ) → x < 2 ^ n → not (eqb (bit_and x y) 0) ≡ any (λ a. both (has x a) (has y a)) (numbers 0 n)
unfolding any numbers
shares zero x y h = let z : x ≡ 0 = omega arith in rw z (ap (λ (k : ℕ). not (eqb k 0)) (and_zero_l y))
shares (suc n) x y h =
    ap (λ (k : ℕ). not (eqb k 0)) (and_step x y)
    ∙ (some_bit (bit_and (x / 2) (y / 2)) (min (x % 2) (y % 2)) (omega arith)
    ∙ (ap (λ (t : Bool). either t (not (eqb (bit_and (x / 2) (y / 2)) 0))) (min_bit (x % 2) (y % 2) (omega arith) (omega arith) ∙ (ap (λ (t : Bool). both t (eqb (y % 2) 1)) (first_bit x) ∙ ap (λ (t : Bool). both (has x 0) t) (first_bit y)))
    ∙ ap (λ (t : Bool). either (both (has x 0) (has y 0)) t)
    (shares n (x / 2) (y / 2) (omega (arith, pow-suc n))
    ∙ (any_same (λ a. both (has (x / 2) a) (has (y / 2) a)) (λ a. both (has x (suc a)) (has y (suc a))) 0 n (λ k p q. ap (λ (t : Bool). both t (has (y / 2) k)) (sym (next_bit x k)) ∙ ap (λ (t : Bool). both (has x (suc k)) t) (sym (next_bit y k)))
    ∙ sym (any_next (λ a. both (has x a) (has y a)) 0 n)))))

-- a bit below the cut is kept
pub cut_bit : (x n a : ℕ) → a < n → has (x % 2 ^ n) a ≡ has x a
cut_bit x n a h =
    let split : n ≡ (n - a - 1) + 1 + a = omega arith in
    ap (λ (k : ℕ). eqb k 1)
    (ap (λ (k : ℕ). x % 2 ^ k / 2 ^ a % 2) split ∙ (ap (λ (k : ℕ). k % 2) (field x (n - a - 1 + 1) a) ∙ mod-mod-pow (x / 2 ^ a) (n - a - 1) 1))

-- the first number that has no bit below n
pub limit_is : (n : ℕ) → n ≤ 16 → (1 * 2 ^ n) % 4294967296 ≡ 2 ^ n
limit_is n h = shl_exact {a = 1} 1 n 32 (omega arith) (omega arith) ∙ (let z : 1 * 2 ^ n ≡ 2 ^ n = omega arith in z)

pub limit_some : (n : ℕ) → n ≤ 16 → 0 < (1 * 2 ^ n) % 4294967296
limit_some n h = rw (limit_is n h) (pow_pos n)

pub none_cut : (n : ℕ) → 0 ≡ 0 % 2 ^ n
none_cut n = let z : 0 % 2 ^ n ≤ 0 = mod-le 0 (2 ^ n) in omega arith

-- ---- a mask, halved until none is left

pub first_rest : (mask : ℕ) → mask ≡ mask / 2 ^ 0
first_rest mask = omega arith

pub next_rest : (mask i : ℕ) {rest : ℕ} → rest ≡ mask / 2 ^ i → rest / 2 ≡ mask / 2 ^ (i + 1)
next_rest mask i e = ap (λ (k : ℕ). k / 2) e ∙ shr-shr mask i 1

-- as long as some are left, their place is one of the mask's
pub rest_within : (mask w i : ℕ) {rest : ℕ} → mask < 2 ^ w → rest ≡ mask / 2 ^ i → (rest ≡ 0 → ⊥) → i < w
rest_within mask w i small e some = elim (dec_lt i w) [
  | yes h ↦ h
  | no h ↦ absurd (some (e ∙ div-eq_of_lt (lt_of_lt_of_le small (pow_mono {i = w} {j = i} (omega arith)))))
]

pub bit_set : (mask i : ℕ) {rest : ℕ} → rest ≡ mask / 2 ^ i → rest % 2 ≡ 1 → has mask i ≡ true
bit_set mask i {rest} e h = ap (λ (k : ℕ). eqb (k % 2) 1) (sym e) ∙ eq-eqb (rest % 2) 1 h

pub bit_clear : (mask i : ℕ) {rest : ℕ} → rest ≡ mask / 2 ^ i → (rest % 2 ≡ 1 → ⊥) → has mask i ≡ false
bit_clear mask i {rest} e h = ap (λ (k : ℕ). eqb (k % 2) 1) (sym e) ∙ ne_eqb (rest % 2) 1 h

-- none is left
pub bits_none : (mask i k : ℕ) → mask / 2 ^ i ≡ 0 → i ≤ k → false ≡ has mask k
bits_none mask i k e h =
    let y : k ≡ i + (k - i) = omega arith in
    no_bit 0 0 (k - i) (omega arith) (omega arith)
    ∙ ap (λ (n : ℕ). eqb (n % 2) 1) (sym (ap (λ (n : ℕ). mask / 2 ^ n) y ∙ (sym (shr-shr mask i (k - i)) ∙ ap (λ (n : ℕ). n / 2 ^ (k - i)) e)))
