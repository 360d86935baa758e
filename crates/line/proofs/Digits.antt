-- Digits, pairs of them, and the bytes that the pairs at the front of a text spell.
use Prim.Native.Nat.{ℕ, min, zero, suc, ◌+◌, ◌-◌, ◌*◌, ◌/◌, ◌%◌, ◌≤◌, ◌<◌, zero-le, suc-le-suc}
use native.Mathlib.Numerals.{add-one}
use native.Mathlib.Omega.{arith}
use mathlib.Core.Path.{◌≡◌, refl, sym, ap, ◌∙◌}
use mathlib.Core.Logic.{◌⊎◌, inl, inr}
use mathlib.Core.Bool.{Bool, true, false, ◌&&◌, ◌||◌}
use mathlib.Core.List.{List, [], ◌∷◌, ◌++◌, append-nil, append_assoc}
use lib.Dec.{T, eqb, leb, ltb, eqb→eq}
use lib.ListN.{length, get_or, take, drop, set, replicate, length-drop, take-append-drop}
use lib.Seq.{drop-cons, length-take-le, take-suc-set, drop-set-lt, drop-drop}
use borrow.Author.Tests.{ne_eqb, leb-true, ltb-true, ltb-false, le-leb, lt-leb, lt-ltb, le-ltb}
use Rattle.bmap.specs.Plain.{both, either, if_else, any}
use Rattle.bmap.specs.Refusal.{Answer, got, refused}
use Rattle.bmap.specs.Line.{digit, digit_for}
use Rattle.bmap.specs.Buffer.{over}
use Rattle.line.specs.Read.{pair, and_then, spelt}
use Rattle.line.specs.Within.{worth, pair_of, is_digit}
use Rattle.line.proofs.Table.{at}

-- ---- what is no digit

-- the digits, from the last
abbrev pub characters : List ℕ
characters = 70 ∷ 69 ∷ 68 ∷ 67 ∷ 66 ∷ 65 ∷ 57 ∷ 56 ∷ 55 ∷ 54 ∷ 53 ∷ 52 ∷ 51 ∷ 50 ∷ 49 ∷ 48 ∷ []

-- c is none of the numbers, as the last arm of a `match` has it
abbrev pub Apart : ℕ → List ℕ → Type 0
Apart c [] = Unit {0}
Apart c (k ∷ l) = Apart c l × (c ≡ k → ⊥)

apart_none : (c : ℕ) (l : List ℕ) → Apart c l → any (eqb c) l ≡ false
unfolding any
apart_none c [] a = refl
apart_none c (k ∷ l) a = simp (ne_eqb c k a.1) (apart_none c l a.0)

listed : ℕ → ℕ → Bool
listed c x = either (any (eqb c) characters) (eqb (worth (digit c)) 256)

pub no_digit : (c : ℕ) → c < 256 → Apart c characters → worth (digit c) ≡ 256
unfolding listed any digit
no_digit c h a =
    let t : T (either (any (eqb c) characters) (eqb (worth (digit c)) 256)) = at listed (replicate 256 0) tt c h in
    let u : T (eqb (worth (digit c)) 256) = rw (apart_none c characters a) at t in
    eqb→eq (worth (digit c)) 256 u

-- ---- a digit

-- what a character is: a digit, with its value and back, or none
pub record Digit (c d : ℕ) : Type 0 where
  pub is : digit c ≡ got d
  pub small : d < 16
  pub back : digit_for d ≡ c

pub digit_is : (c : ℕ) → ((d : ℕ) × Digit c d) ⊎ (digit c ≡ refused 1)
unfolding digit digit_for
digit_is c = go (leb 48 c) (leb c 57) (leb 65 c) (leb c 70) refl refl refl refl
  where
    low : leb 48 c ≡ true → leb c 57 ≡ true → ((d : ℕ) × Digit c d) ⊎ (digit c ≡ refused 1)
    low a b =
        let l = leb-true 48 c a in
        let m = leb-true c 57 b in
        inl (c - 48, record { is = simp (a, b); small = omega arith; back = simp (lt-ltb (c - 48) 10 (omega arith)) (omega arith) })

    high : both (leb 48 c) (leb c 57) ≡ false → leb 65 c ≡ true → leb c 70 ≡ true → ((d : ℕ) × Digit c d) ⊎ (digit c ≡ refused 1)
    high n a b =
        let l = leb-true 65 c a in
        let m = leb-true c 70 b in
        inl (c - 55, record { is = simp (n, a, b); small = omega arith; back = simp (le-ltb (c - 55) 10 (omega arith)) (omega arith) })

    go : (p q r t : Bool) → leb 48 c ≡ p → leb c 57 ≡ q → leb 65 c ≡ r → leb c 70 ≡ t → ((d : ℕ) × Digit c d) ⊎ (digit c ≡ refused 1)
    go true true r t a b d e = low a b
    go true false true true a b d e = high (simp (a, b)) d e
    go true false true false a b d e = inr (simp (a, b, d, e))
    go true false false t a b d e = inr (simp (a, b, d))
    go false q true true a b d e = high (simp a) d e
    go false q true false a b d e = inr (simp (a, d, e))
    go false q false t a b d e = inr (simp (a, d))

pub digit_back : (d : ℕ) → d < 16 → digit (digit_for d) ≡ got d
unfolding digit digit_for
digit_back d h = go (ltb d 10) refl
  where
    go : (b : Bool) → ltb d 10 ≡ b → digit (digit_for d) ≡ got d
    go true e =
        let l = ltb-true d 10 e in
        let m : d + 48 - 48 ≡ d = omega arith in
        simp (e, le-leb 48 (d + 48) (omega arith), le-leb (d + 48) 57 (omega arith), m)
    go false e =
        let l = ltb-false d 10 e in
        let m : d + 55 - 55 ≡ d = omega arith in
        simp (e, le-leb 48 (d + 55) (omega arith), lt-leb (d + 55) 57 (omega arith), le-leb 65 (d + 55) (omega arith), le-leb (d + 55) 70 (omega arith), m)

pub digit_for_least : (d : ℕ) → 48 ≤ digit_for d
unfolding digit_for
digit_for_least d = go (ltb d 10)
  where
    go : (b : Bool) → 48 ≤ if_else b (d + 48) (d + 55)
    go true = omega arith
    go false = omega arith

-- no digit ends a line
pub digit_no_feed : (c d : ℕ) → Digit c d → c ≡ 10 → ⊥
digit_no_feed c d x e = omega (arith, digit_for_least d, x.back)

pub worth_most : (c : ℕ) → worth (digit c) ≤ 256
worth_most c = go (digit_is c)
  where
    go : ((d : ℕ) × Digit c d) ⊎ (digit c ≡ refused 1) → worth (digit c) ≤ 256
    go (inl (d, x)) = rw x.is (omega (arith, x.small))
    go (inr e) = rw e (omega arith)

-- the ranges that the code tests
pub in_ranges : (c : ℕ) → ((leb 48 c && leb c 57) || (leb 65 c && leb c 70)) ≡ is_digit c
unfolding is_digit digit
in_ranges c = go (leb 48 c) (leb c 57) (leb 65 c) (leb c 70) refl refl
  where
    go : (p q r t : Bool) → leb c 57 ≡ q → leb c 70 ≡ t
        → ((p && q) || (r && t)) ≡ ltb (worth (if_else (both p q) (got (c - 48)) (if_else (both r t) (got (c - 55)) (refused 1)))) 256
    go true true r t e f = let l = leb-true c 57 e in sym (lt-ltb (c - 48) 256 (omega arith))
    go true false true true e f = let l = leb-true c 70 f in sym (lt-ltb (c - 55) 256 (omega arith))
    go true false true false e f = refl
    go true false false t e f = refl
    go false q true true e f = let l = leb-true c 70 f in sym (lt-ltb (c - 55) 256 (omega arith))
    go false q true false e f = refl
    go false q false t e f = refl

-- what the code subtracts from a digit
pub record Shifted (c : ℕ) : Type 0 where
  pub least : 48 ≤ c
  pub number : c ≤ 57 → c - 48 ≡ worth (digit c)
  pub least_letter : 57 < c → 65 ≤ c
  pub letter : 57 < c → c - 65 + 10 ≡ worth (digit c)

known : (c : ℕ) → is_digit c ≡ true → (d : ℕ) × Digit c d
unfolding is_digit
known c h = go (digit_is c)
  where
    go : ((d : ℕ) × Digit c d) ⊎ (digit c ≡ refused 1) → (d : ℕ) × Digit c d
    go (inl x) = x
    go (inr e) = absurd (let z : 256 < 256 = ltb-true 256 256 (ap (λ (y : Answer ℕ). ltb (worth y) 256) (sym e) ∙ h) in omega arith)

pub shifted : (c : ℕ) → is_digit c ≡ true → Shifted c
unfolding digit_for
shifted c h = let (d, x) = known c h in go d x (ltb d 10) refl
  where
    go : (d : ℕ) → Digit c d → (b : Bool) → ltb d 10 ≡ b → Shifted c
    go d x true e =
        let l = ltb-true d 10 e in
        let k : d + 48 ≡ c = simp e at x.back in
        record { least = omega arith; number = λ m. rw x.is (omega arith); least_letter = λ m. absurd (omega arith); letter = λ m. absurd (omega arith) }
    go d x false e =
        let l = ltb-false d 10 e in
        let k : d + 55 ≡ c = simp e at x.back in
        record { least = omega arith; number = λ m. absurd (omega arith); least_letter = λ m. omega arith; letter = λ m. rw x.is (omega arith) }

-- ---- a pair

-- a pair spells a byte where both characters are digits, and only there
pub digits_pair : (a b : ℕ) → is_digit a ≡ true → is_digit b ≡ true → pair_of a b ≤ 255
unfolding pair_of
digits_pair a b h k =
    let (d, x) = known a h in
    let (e, y) = known b k in
    rw (x.is, y.is) (omega (arith, x.small, y.small))

pub pair_digits : (a b : ℕ) → pair_of a b ≤ 255 → (is_digit a ≡ true) × (is_digit b ≡ true)
unfolding pair_of is_digit
pair_digits a b h = (lt-ltb (worth (digit a)) 256 (omega arith), lt-ltb (worth (digit b)) 256 (omega arith))

-- what two characters are: a byte's digits, or not
pub record Pair (a b x : ℕ) : Type 0 where
  pub is : pair a b ≡ got x
  pub of : pair_of a b ≡ x
  pub small : x < 256
  pub high : digit_for (x / 16) ≡ a
  pub low : digit_for (x % 16) ≡ b
  pub high_no_feed : a ≡ 10 → ⊥
  pub low_no_feed : b ≡ 10 → ⊥

pub record NoPair (a b : ℕ) : Type 0 where
  pub is : pair a b ≡ refused 1
  pub of : 255 < pair_of a b

pub pair_is : (a b : ℕ) → ((x : ℕ) × Pair a b x) ⊎ NoPair a b
unfolding pair_of
pair_is a b = go (digit_is a) (digit_is b)
  where
    go : ((d : ℕ) × Digit a d) ⊎ (digit a ≡ refused 1) → ((d : ℕ) × Digit b d) ⊎ (digit b ≡ refused 1) → ((x : ℕ) × Pair a b x) ⊎ NoPair a b
    go (inl (h, x)) (inl (l, y)) =
        let s = x.small in
        let t = y.small in
        let q : (h * 16 + l) / 16 ≡ h = omega arith in
        let r : (h * 16 + l) % 16 ≡ l = omega arith in
        inl (
          h * 16 + l,
          record {
            is = simp (x.is, y.is);
            of = simp (x.is, y.is);
            small = omega arith;
            high = rw q x.back;
            low = rw r y.back;
            high_no_feed = digit_no_feed a h x;
            low_no_feed = digit_no_feed b l y;
          },
        )
    go (inl (h, x)) (inr e) = inr (record { is = simp (x.is, e); of = simp (x.is, e) (omega arith) })
    go (inr e) y = inr (record { is = simp e; of = simp e (omega arith) })

pub pair_back : (x : ℕ) → x < 256 → pair (digit_for (x / 16)) (digit_for (x % 16)) ≡ got x
pair_back x h =
    let e : x / 16 * 16 + x % 16 ≡ x = omega arith in
    simp (digit_back (x / 16) (omega arith), digit_back (x % 16) (omega arith), e)

-- a byte's digits are the pair that spells it, and no other
pub pair_of_digits : (x : ℕ) → x < 256 → pair_of (digit_for (x / 16)) (digit_for (x % 16)) ≡ x
pair_of_digits x h = go (pair_is (digit_for (x / 16)) (digit_for (x % 16))) (pair_back x h)
  where
    go : ((y : ℕ) × Pair (digit_for (x / 16)) (digit_for (x % 16)) y) ⊎ NoPair (digit_for (x / 16)) (digit_for (x % 16)) → pair (digit_for (x / 16)) (digit_for (x % 16)) ≡ got x
        → pair_of (digit_for (x / 16)) (digit_for (x % 16)) ≡ x
    go (inl (y, p)) e = let q : got y ≡ got x = sym p.is ∙ e in let z : y ≡ x = cc in p.of ∙ z
    go (inr p) e = absurd (let q : refused 1 ≡ got x = sym p.is ∙ e in let z : ◌≡◌ {A = ℕ} 0 1 = cc in omega arith)

pub digits_of_pair : (a b x : ℕ) → x < 256 → pair_of a b ≡ x → (a ≡ digit_for (x / 16)) × (b ≡ digit_for (x % 16))
digits_of_pair a b x h e = go (pair_is a b)
  where
    go : ((y : ℕ) × Pair a b y) ⊎ NoPair a b → (a ≡ digit_for (x / 16)) × (b ≡ digit_for (x % 16))
    go (inl (y, p)) = let z : y ≡ x = sym p.of ∙ e in (sym p.high ∙ ap (λ (n : ℕ). digit_for (n / 16)) z, sym p.low ∙ ap (λ (n : ℕ). digit_for (n % 16)) z)
    go (inr p) = absurd (omega (arith, p.of))

-- ---- the bytes that pairs spell

pub two_suc : (n : ℕ) → 2 * suc n ≡ suc (suc (2 * n))
two_suc n = omega arith

-- the next pair
next_pair : (s : List ℕ) (n : ℕ) → 2 * n + 1 < length s → drop (2 * n) s ≡ get_or s (2 * n) 0 ∷ get_or s (2 * n + 1) 0 ∷ drop (2 * (n + 1)) s
next_pair s n h =
    rw (add-one n, two_suc n, drop-cons s (2 * n) 0 (omega arith), add-one (2 * n), drop-cons s (suc (2 * n)) 0 (omega arith))

-- in a turn: the pair spells a byte, or ends the bytes; and none is left
pub spelt_more : (m : ℕ) (s : List ℕ) (n : ℕ) → n < m → 2 * n + 1 < length s → pair_of (get_or s (2 * n) 0) (get_or s (2 * n + 1) 0) ≤ 255
    → spelt (m - n) (drop (2 * n) s) ≡ pair_of (get_or s (2 * n) 0) (get_or s (2 * n + 1) 0) ∷ spelt (m - (n + 1)) (drop (2 * (n + 1)) s)
unfolding spelt
spelt_more m s n h k l = go (pair_is (get_or s (2 * n) 0) (get_or s (2 * n + 1) 0))
  where
    left : m - n ≡ suc (m - (n + 1))
    left = omega arith

    go : ((x : ℕ) × Pair (get_or s (2 * n) 0) (get_or s (2 * n + 1) 0) x) ⊎ NoPair (get_or s (2 * n) 0) (get_or s (2 * n + 1) 0)
        → spelt (m - n) (drop (2 * n) s) ≡ pair_of (get_or s (2 * n) 0) (get_or s (2 * n + 1) 0) ∷ spelt (m - (n + 1)) (drop (2 * (n + 1)) s)
    go (inl (x, p)) = rw (left, next_pair s n k, p.of) (ap (λ (y : Answer ℕ). and_then y (spelt (m - (n + 1)) (drop (2 * (n + 1)) s))) p.is)
    go (inr p) = absurd (omega (arith, p.of))

pub spelt_stop : (m : ℕ) (s : List ℕ) (n : ℕ) → n < m → 2 * n + 1 < length s → 255 < pair_of (get_or s (2 * n) 0) (get_or s (2 * n + 1) 0)
    → spelt (m - n) (drop (2 * n) s) ≡ []
unfolding spelt
spelt_stop m s n h k l = go (pair_is (get_or s (2 * n) 0) (get_or s (2 * n + 1) 0))
  where
    left : m - n ≡ suc (m - (n + 1))
    left = omega arith

    go : ((x : ℕ) × Pair (get_or s (2 * n) 0) (get_or s (2 * n + 1) 0) x) ⊎ NoPair (get_or s (2 * n) 0) (get_or s (2 * n + 1) 0) → spelt (m - n) (drop (2 * n) s) ≡ []
    go (inl (x, p)) = absurd (omega (arith, p.of, p.small))
    go (inr p) = rw (left, next_pair s n k) (ap (λ (y : Answer ℕ). and_then y (spelt (m - (n + 1)) (drop (2 * (n + 1)) s))) p.is)

pub spelt_short : (m : ℕ) (s : List ℕ) → length s < 2 → spelt m s ≡ []
unfolding spelt
spelt_short zero s h = refl
spelt_short (suc m) [] h = refl
spelt_short (suc m) (a ∷ []) h = refl
spelt_short (suc m) (a ∷ b ∷ s) h = absurd (omega arith)

pub spelt_end : (m : ℕ) (s : List ℕ) (n : ℕ) → n ≡ min m (length s / 2) → spelt (m - n) (drop (2 * n) s) ≡ []
unfolding spelt
spelt_end m s n e = go (ltb n m) refl
  where
    go : (b : Bool) → ltb n m ≡ b → spelt (m - n) (drop (2 * n) s) ≡ []
    go true t = let l = ltb-true n m t in spelt_short (m - n) (drop (2 * n) s) (rw (length-drop (2 * n) s) (omega arith))
    go false t = let l = ltb-false n m t in let z : m - n ≡ 0 = omega arith in rw z refl

pub spelt_most : (m : ℕ) (s : List ℕ) → length (spelt m s) ≤ m
unfolding spelt
spelt_most zero s = zero-le
spelt_most (suc m) [] = zero-le
spelt_most (suc m) (a ∷ []) = zero-le
spelt_most (suc m) (a ∷ b ∷ s) = go (pair a b) (spelt_most m s)
  where
    go : (x : Answer ℕ) → length (spelt m s) ≤ m → length (and_then x (spelt m s)) ≤ suc m
    go (got x) h = suc-le-suc h
    go (refused n) h = zero-le

pub spelt_half : (m : ℕ) (s : List ℕ) → 2 * length (spelt m s) ≤ length s
unfolding spelt
spelt_half zero s = zero-le
spelt_half (suc m) [] = zero-le
spelt_half (suc m) (a ∷ []) = zero-le
spelt_half (suc m) (a ∷ b ∷ s) = go (pair a b) (spelt_half m s)
  where
    go : (x : Answer ℕ) → 2 * length (spelt m s) ≤ length s → 2 * length (and_then x (spelt m s)) ≤ suc (suc (length s))
    go (got x) h = omega arith
    go (refused n) h = omega arith

-- the loop that writes them: so far, and done
pub spell_more : (m : ℕ) (s out out₀ : List ℕ) (n x : ℕ) → n < length out
    → spelt m s ≡ take n out ++ (x ∷ spelt (m - (n + 1)) (drop (2 * (n + 1)) s)) → drop n out ≡ drop n out₀
    → (spelt m s ≡ take (n + 1) (set out n x) ++ spelt (m - (n + 1)) (drop (2 * (n + 1)) s)) × (drop (n + 1) (set out n x) ≡ drop (n + 1) out₀)
spell_more m s out out₀ n x h e d =
    let r = spelt (m - (n + 1)) (drop (2 * (n + 1)) s) in (
      rw (add-one n, take-suc-set out n x h, append_assoc (take n out) (x ∷ []) (spelt (m - suc n) (drop (2 * suc n) s))) (rw (← add-one n) e),
      rw (drop-set-lt (n + 1) out n x (omega arith), ← drop-drop 1 n out, ← drop-drop 1 n out₀, d) refl,
    )

pub spell_done : (m : ℕ) (s out out₀ : List ℕ) (n : ℕ) → n ≤ length out → spelt m s ≡ take n out ++ [] → drop n out ≡ drop n out₀
    → (n ≡ length (spelt m s)) × (out ≡ over (spelt m s) out₀)
spell_done m s out out₀ n h e d =
    rw (e, append-nil, length-take-le n out h) (refl, rw (← d) (sym (take-append-drop n out)))
