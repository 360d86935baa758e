-- What a tree may: the word is read back, and asks what a test asks.
use mathlib.Core.Path.{◌≡◌, refl, sym, ap, ◌∙◌}
use mathlib.Core.Logic.{⊎_elim}
use mathlib.Core.Bool.{Bool, true, false, not}
use Prim.Native.Nat.{ℕ, zero, suc, ◌+◌, ◌-◌, ◌*◌, ◌/◌, ◌%◌, ◌^◌, ◌≤◌, ◌<◌}
use native.Mathlib.Nat.{eq-or-lt_of_le}
use native.Mathlib.Decide.{dec_le}
use native.Mathlib.Omega.{arith}
use borrow.Author.Tests.{lt-ltb, le-ltb, le-leb, eq-eqb, eqb-true}
use lib.Dec.{T, eqb, leb, ltb}
use Rattle.bmap.specs.Plain.{both, all, if_else}
use Rattle.bmap.specs.Domain.{has}
use Rattle.bmap.specs.Tree.{fluent, occurs, allowed_e, allowed_c, named_e, named_c}
use Rattle.bmap.specs.declared.limits.Context.{Context}
use Rattle.bmap.proofs.PlainLaws.{both_end, both_parts}
use Rattle.law.specs.Table.{operator_in}
use Rattle.law.specs.Check.{Test, allowed, in_mask, passes_e, passes_c, may_back, back_at, word_of, limit_of, fluents_in, entries_in, lag_in, back_in, mask_in, fluent_may, entry_may, back_may, again_may, back_once, inside_in, Asks, leaf_in}
use Rattle.law.proofs.Bits.{no_bit}
use Rattle.law.proofs.CheckLaws.{passes_constant}

-- the parts of the word
record Word (r fluents entries lag back mask : ℕ) : Type 0 where
  fluents_in : fluents_in r ≡ fluents
  entries_in : entries_in r ≡ entries
  lag_in : lag_in r ≡ lag
  back_in : back_in r ≡ back
  mask_in : mask_in r ≡ mask

word_back : (r fluents entries lag back mask : ℕ) → fluents ≤ 256 → entries ≤ 256 → lag < 256 → back < 4 → r ≡ word_of fluents entries lag back mask → Word r fluents entries lag back mask
word_back r fluents entries lag back mask f e l b is =
    let upper : r / 512 ≡ entries + 512 * lag + 131_072 * back + 8_388_608 * mask = omega arith in
    let top : r / 262_144 ≡ lag + 256 * back + 16_384 * mask = omega arith in
    let high : r / 67_108_864 ≡ back + 64 * mask = omega arith in
    record { fluents_in = omega arith; entries_in = omega arith; lag_in = omega arith; back_in = omega arith; mask_in = omega arith }

-- no byte reaches 256
pub limit_small : {r : ℕ} (x : ℕ) → r ≡ limit_of x → r ≤ 256
limit_small x e = elim (dec_le 256 x) [ yes h ↦ rw (e, le-ltb x 256 h) (omega arith) | no h ↦ rw (e, lt-ltb x 256 (omega arith)) (omega arith) ]

limit_same : (b x : ℕ) → b < 256 → ltb b (limit_of x) ≡ ltb b x
limit_same b x h = elim (dec_le 256 x) [ yes g ↦ rw (le-ltb x 256 g, lt-ltb b 256 h, lt-ltb b x (omega arith)) | no g ↦ rw (lt-ltb x 256 (omega arith)) ]

-- every bit of a full mask
abbrev full : ℕ
full = 4_294_967_295

abbrev bits : ℕ → ℕ → Bool
bits from zero = true
bits from (suc n) = both (eqb (full / 2 ^ from % 2) 1) (bits (suc from) n)

has_bits : (from n : ℕ) → T (bits from n) → (i : ℕ) → from ≤ i → i < from + n → has full i ≡ true
has_bits from zero t i lo hi = absurd (omega arith)
has_bits from (suc n) t i lo hi =
    let p = both_parts (eqb (full / 2 ^ from % 2) 1) (bits (suc from) n) t in
    ⊎_elim (λ e. ap (λ (k : ℕ). has full k) (sym e) ∙ is_true (has full from) p.0) (λ lt. has_bits (suc from) n p.1 i lt (omega arith)) (eq-or-lt_of_le lo)
  where
    is_true : (b : Bool) → T b → b ≡ true
    is_true true t = refl
    is_true false t = elim t [ ]

full_has : (i : ℕ) → i < 32 → has full i ≡ true
full_has i h = has_bits 0 32 tt i (omega arith) (omega arith)

-- looking back, once
pub once_small : {r : ℕ} (v : Bool) → r ≡ back_once v → r < 4
once_small true e = omega arith
once_small false e = omega arith

once_may : (v : Bool) → not (eqb (back_once v) 0) ≡ v
once_may true = refl
once_may false = refl

once_again : (v : Bool) → eqb (back_once v) 2 ≡ false
once_again true = refl
once_again false = refl

module _ (x : Context) {r f b : ℕ} (p : f ≡ limit_of x.fluents) (k : b ≡ back_once x.back) where
  fluents_allowed : {entries : ℕ} → Word r f entries 63 b full → (n lag : ℕ) → n < 256 → fluent_may r n lag ≡ passes_e (allowed x) (fluent n lag)
  unfolding fluent_may allowed_e
  fluents_allowed w n lag h = rw (w.fluents_in, w.lag_in, w.mask_in, full_has (n % 32) (omega arith), both_end (leb lag 63), p, limit_same n x.fluents h)

  back_allowed : {entries : ℕ} → Word r f entries 63 b full → back_may r ≡ x.back
  back_allowed w = rw (w.back_in, k) (once_may x.back)

  no_more : {entries : ℕ} → Word r f entries 63 b full → again_may r ≡ false
  no_more w = rw (w.back_in, k) (once_again x.back)

  pub asks_allowed : {e : ℕ} → e ≡ limit_of x.entries → r ≡ word_of f e 63 b full → x.occurrences ≡ true → Asks r (allowed x)
  unfolding entry_may allowed_c
  asks_allowed {e} q is o =
      let w = word_back r f e 63 b full (limit_small x.fluents p) (limit_small x.entries q) (omega arith) (once_small x.back k) is in
      record {
        fluents = λ n lag h k. fluents_allowed w n lag h;
        entries = λ n lag h k. rw (w.entries_in, w.lag_in, q, o, limit_same n x.entries h);
        back = back_allowed w;
        again = no_more w;
      }

  -- "Code 29 is refused in A7 and A9"
  pub asks_barred : r ≡ word_of f 0 63 b full → x.occurrences ≡ false → Asks r (allowed x)
  unfolding entry_may allowed_c
  asks_barred is o =
      let w = word_back r f 0 63 b full (limit_small x.fluents p) (omega arith) (omega arith) (once_small x.back k) is in
      record {
        fluents = λ n lag h k. fluents_allowed w n lag h;
        entries = λ n lag h k. rw (w.entries_in, o, le-ltb n 0 (omega arith));
        back = back_allowed w;
        again = no_more w;
      }

pub asks_mask : (m r : ℕ) → m < 2 ^ 32 → r ≡ word_of 32 256 255 2 m → Asks r (in_mask m)
unfolding fluent_may entry_may named_e named_c all
asks_mask m r small e =
    let w = word_back r 32 256 255 2 m (omega arith) (omega arith) (omega arith) (omega arith) e in
    record {
      fluents = λ f lag h k. rw (w.fluents_in, w.lag_in, w.mask_in, le-leb lag 255 (omega arith), both_end (has m f)) (named f);
      entries = λ n lag h k. rw (w.entries_in, w.lag_in, lt-ltb n 256 h, le-leb lag 255 (omega arith));
      back = rw w.back_in;
      again = rw w.back_in;
    }
  where
    named : (f : ℕ) → both (ltb f 32) (has m (f % 32)) ≡ has m f
    named f = elim (dec_le 32 f) [ yes g ↦ rw (le-ltb f 32 g) (no_bit 32 m f small g) | no g ↦ let z : f % 32 ≡ f = omega arith in rw (lt-ltb f 32 (omega arith), z) ]

-- Looking back: of the bytes that name, the word for what is looked back at asks the same; of looking back again, what the test asks.
same_fluent : (t : Test) (f lag : ℕ) → passes_e (back_at t) (fluent f lag) ≡ passes_e t (fluent f lag)
unfolding allowed_e
same_fluent (allowed x) f lag = refl
same_fluent (in_mask m) f lag = refl

same_entry : (t : Test) (e lag : ℕ) → passes_c (back_at t) (occurs e lag) ≡ passes_c t (occurs e lag)
unfolding allowed_c
same_entry (allowed x) e lag = refl
same_entry (in_mask m) e lag = refl

same_again : (t : Test) → may_back (back_at (back_at t)) ≡ may_back (back_at t)
same_again (allowed x) = refl
same_again (in_mask m) = refl

without_back : (w may top back low : ℕ) → back < 4 → low < 67_108_864 → may ≡ 268_435_456 * top + 67_108_864 * back + low → w ≡ 268_435_456 * top + low → Word w (fluents_in may) (entries_in may) (lag_in may) 0 (mask_in may)
without_back w may top back low b l e is =
    let upper : may / 512 ≡ 524_288 * top + 131_072 * back + low / 512 = omega arith in
    let upper' : w / 512 ≡ 524_288 * top + low / 512 = omega arith in
    let lags : may / 262_144 ≡ 1_024 * top + 256 * back + low / 262_144 = omega arith in
    let lags' : w / 262_144 ≡ 1_024 * top + low / 262_144 = omega arith in
    let high : w / 67_108_864 ≡ 4 * top = omega arith in
    let mask : may / 4_294_967_296 ≡ top / 16 = omega arith in
    let mask' : w / 4_294_967_296 ≡ top / 16 = omega arith in
    record { fluents_in = omega arith; entries_in = omega arith; lag_in = omega arith; back_in = omega arith; mask_in = mask' ∙ sym mask }

inside_word : (may : ℕ) → Word (may - 67_108_864 * back_in may) (fluents_in may) (entries_in may) (lag_in may) 0 (mask_in may)
inside_word may = without_back _ may (may / 67_108_864 / 4) (back_in may) (may % 67_108_864) (omega arith) (omega arith) (omega arith) (omega arith)

pub asks_inside : {may : ℕ} (t : Test) → Asks may t → Asks (inside_in may) (back_at t)
unfolding fluent_may entry_may
asks_inside {may} t a = go (again_may may) refl
  where
    go : (b : Bool) → again_may may ≡ b → Asks (if_else b may (may - 67_108_864 * back_in may)) (back_at t)
    go true e = record {
      fluents = λ f lag h k. a.fluents f lag h k ∙ sym (same_fluent t f lag);
      entries = λ f lag h k. a.entries f lag h k ∙ sym (same_entry t f lag);
      back = rw (eqb-true (back_in may) 2 e) (sym e ∙ a.again);
      again = a.again ∙ sym (same_again t);
    }
    go false e =
        let w = inside_word may in
        record {
          fluents = λ f lag h k. rw (w.fluents_in, w.lag_in, w.mask_in) (a.fluents f lag h k ∙ sym (same_fluent t f lag));
          entries = λ f lag h k. rw (w.entries_in, w.lag_in) (a.entries f lag h k ∙ sym (same_entry t f lag));
          back = rw w.back_in (sym e ∙ a.again);
          again = rw w.back_in (sym e ∙ (a.again ∙ sym (same_again t)));
        }

-- a leaf
module _ (t : Test) (row a b : ℕ) where
  pub leaf_constant : operator_in row ≡ 0 → true ≡ passes_e t (leaf_in row a b)
  leaf_constant e = rw (eq-eqb (operator_in row) 0 e) (sym (passes_constant t a b))
