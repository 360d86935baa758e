-- A line that is whole and right by its own count: what is seen of it, and its bytes decoded block after block.
use Prim.Native.Nat.{ℕ, zero, suc, ◌+◌, ◌-◌, ◌*◌, ◌≤◌, ◌<◌}
use native.Mathlib.Nat.{zero-add, suc-add, le_of_lt}
use native.Mathlib.Omega.{arith}
use mathlib.Core.Path.{◌≡◌, refl, sym, ap, subst, ◌∙◌}
use mathlib.Core.Logic.{◌⊎◌, inl, inr}
use mathlib.Core.Bool.{true, false}
use mathlib.Core.Option.{some}
use mathlib.Core.List.{List, [], ◌∷◌, ◌++◌, append-nil, append_assoc}
use lib.ListN.{length, get_or, take, drop, drop_of_length-le, length-drop}
use lib.Seq.{take-length, length-take-le, get_or-take, get_or-drop, take_at}
use borrow.Author.Tests.{eq-eqb, ne_eqb}
use Rattle.bmap.specs.Plain.{all}
use Rattle.bmap.specs.Refusal.{Answer, got, refused}
use Rattle.bmap.specs.Line.{line_feed, lines_of}
use Rattle.bmap.specs.Limits.{most_payload, frame_size}
use Rattle.bmap.specs.Buffer.{over}
use Rattle.line.specs.Read.{first_of, pair, and_then, spelt}
use Rattle.line.specs.Within.{pair_of, is_digit, Spells, Whole, Begins, frame_of}
use Rattle.line.proofs.Lists.{part_to_end, all_at}
use Rattle.line.proofs.Digits.{Pair, NoPair, pair_is, digits_pair, pair_digits, two_suc, spelt_more}
use Rattle.line.proofs.FirstLaws.{line_ends}

-- ---- pairs that spell bytes

module _ (s : List ℕ) (n : ℕ) where
  pub digits_spell : 2 * n ≤ length s → all is_digit (take (2 * n) s) ≡ true → Spells s n
  digits_spell h e = record { within = h; pairs = λ i k. digits_pair (get_or s (2 * i) 0) (get_or s (2 * i + 1) 0) (asked (2 * i) (omega arith)) (asked (2 * i + 1) (omega arith)) }
    where
      asked : (i : ℕ) → i < 2 * n → is_digit (get_or s i 0) ≡ true
      asked i k = rw (get_or-take (2 * n) s i 0 k) at (all_at is_digit (take (2 * n) s) e i (rw (length-take-le (2 * n) s h) k))

  -- m of them from the a-th on
  pub spells_on : (a m : ℕ) → a + m ≤ n → Spells s n → Spells (drop (2 * a) s) m
  spells_on a m h w = record {
    within = rw (length-drop (2 * a) s) (omega (arith, w.within));
    pairs = λ i k.
        let e : 2 * a + 2 * i ≡ 2 * (a + i) = omega arith in
        let f : 2 * a + (2 * i + 1) ≡ 2 * (a + i) + 1 = omega arith in
        rw (get_or-drop (2 * a) s (2 * i) 0, get_or-drop (2 * a) s (2 * i + 1) 0, e, f) (w.pairs (a + i) (omega arith));
  }

  pub spells_part : (a m : ℕ) → a + m ≤ n → Spells s n → Spells (take (length s - 2 * a) (drop (2 * a) s)) m
  spells_part a m h w = rw (part_to_end s (2 * a)) (spells_on a m h w)

-- and each of their characters is a digit
pub spells_digits : (n : ℕ) (s : List ℕ) → Spells s n → all is_digit (take (2 * n) s) ≡ true
unfolding all
spells_digits zero s w = refl
spells_digits (suc n) [] w = absurd (omega (arith, w.within))
spells_digits (suc n) (a ∷ []) w = absurd (omega (arith, w.within))
spells_digits (suc n) (a ∷ b ∷ s) w =
    let d = pair_digits a b (w.pairs 0 (omega arith)) in
    rw (two_suc n, d.0, d.1) (spells_digits n s (spells_on (a ∷ b ∷ s) (suc n) 1 n (omega arith) w))

pub no_digits : (s : List ℕ) (n : ℕ) → all is_digit (take (2 * n) s) ≡ false → Spells s n → ⊥
no_digits s n a w = absurd (let d : true ≡ false = sym (spells_digits n s w) ∙ a in let z : ◌≡◌ {A = ℕ} 0 1 = cc in omega arith)

-- so many bytes
pub spelt_full : (n : ℕ) (s : List ℕ) → Spells s n → length (spelt n s) ≡ n
unfolding spelt
spelt_full zero s w = refl
spelt_full (suc n) [] w = absurd (omega (arith, w.within))
spelt_full (suc n) (a ∷ []) w = absurd (omega (arith, w.within))
spelt_full (suc n) (a ∷ b ∷ s) w = go (pair_is a b) (spelt_full n s (spells_on (a ∷ b ∷ s) (suc n) 1 n (omega arith) w))
  where
    go : ((x : ℕ) × Pair a b x) ⊎ NoPair a b → length (spelt n s) ≡ n → length (and_then (pair a b) (spelt n s)) ≡ suc n
    go (inl (x, p)) r = rw (p.is, r) refl
    go (inr p) r = absurd (omega (arith, p.of, w.pairs 0 (omega arith)))

-- the first of them, and those after them
pub spelt_join : (a b : ℕ) (s : List ℕ) → length (spelt a s) ≡ a → spelt (a + b) s ≡ spelt a s ++ spelt b (drop (2 * a) s)
unfolding spelt
spelt_join zero b s e = rw (zero-add b) refl
spelt_join (suc a) b [] e = absurd (omega arith)
spelt_join (suc a) b (x ∷ []) e = absurd (omega arith)
spelt_join (suc a) b (x ∷ y ∷ s) e = rw (suc-add a b, two_suc a) (go (pair x y) e (spelt_join a b s))
  where
    go : (z : Answer ℕ) → length (and_then z (spelt a s)) ≡ suc a
        → (length (spelt a s) ≡ a → spelt (a + b) s ≡ spelt a s ++ spelt b (drop (2 * a) s))
        → and_then z (spelt (a + b) s) ≡ and_then z (spelt a s) ++ spelt b (drop (2 * a) s)
    go (got z) k r = ap (λ (l : List ℕ). z ∷ l) (r (omega arith))
    go (refused m) k r = absurd (omega arith)

-- byte by byte, all are there
pub each_done : (m : ℕ) (s out : List ℕ) (n : ℕ) → n ≡ length out → m ≤ n → spelt m s ≡ take n out ++ spelt (m - n) (drop (2 * n) s) → out ≡ spelt m s
unfolding spelt
each_done m s out n e h q =
    let z : m - n ≡ 0 = omega arith in
    sym (q ∙ rw (z, e, take-length out) (append-nil out))

-- ---- block after block

module _ (text out : List ℕ) (m at : ℕ) (w : Spells text m) (size : length out ≡ m) (inside : at ≤ m) (so_far : take at out ≡ spelt at text) where
  with_next : (n : ℕ) → at + n ≤ m → spelt (at + n) text ≡ spelt at text ++ spelt n (drop (2 * at) text)
  with_next n h = spelt_join at n text (spelt_full at text (spells_on text m 0 at (omega arith) w))

  -- a block more
  pub block_more : (n : ℕ) (p : List ℕ) → at + n ≤ m
      → p ≡ over (spelt n (take (length text - 2 * at) (drop (2 * at) text))) (take (length out - at) (drop at out))
      → take (at + n) (take at out ++ (p ++ drop (length out - at) (drop at out))) ≡ spelt (at + n) text
  block_more n p h e =
      let b = spelt n (drop (2 * at) text) in
      let kept = drop (length b) (take (length out - at) (drop at out)) in
      let after = drop (length out - at) (drop at out) in
      let l : length (spelt (at + n) text) ≡ at + n = spelt_full (at + n) text (spells_on text m 0 (at + n) (omega arith) w) in
      let q : p ≡ b ++ kept = rw (part_to_end text (2 * at)) at e in
      let laid : take at out ++ (p ++ after) ≡ spelt (at + n) text ++ (kept ++ after)
      = rw (so_far, q, append_assoc b kept after, ← append_assoc (spelt at text) b (kept ++ after), with_next n h) refl in
      ap (take (at + n)) laid ∙ take_at (spelt (at + n) text) (kept ++ after) (at + n) l

  -- and the rest of them
  pub blocks_done : (p : List ℕ) → p ≡ spelt (length (take (length out - at) (drop at out))) (take (length text - 2 * at) (drop (2 * at) text))
      → take at out ++ (p ++ drop (length out - at) (drop at out)) ≡ spelt m text
  blocks_done p e =
      let none : drop (length out - at) (drop at out) ≡ [] = drop_of_length-le (drop at out) {i = length out - at} (simp length-drop (omega arith)) in
      let l : length (take (length out - at) (drop at out)) ≡ m - at = ap length (part_to_end out at) ∙ length-drop at out ∙ omega arith in
      let k : at + (m - at) ≡ m = omega arith in
      rw (none, append-nil, so_far, e, l, part_to_end text (2 * at)) (sym (with_next (m - at) (omega arith)) ∙ ap (λ (i : ℕ). spelt i text) k)

-- ---- the line

-- no pair begins with the LF
feed_first : (m : ℕ) (t : List ℕ) → get_or t 0 0 ≡ 10 → spelt m t ≡ []
unfolding spelt
feed_first zero t e = refl
feed_first (suc m) [] e = refl
feed_first (suc m) (a ∷ []) e = refl
feed_first (suc m) (a ∷ b ∷ t) e = go (pair_is a b)
  where
    go : ((x : ℕ) × Pair a b x) ⊎ NoPair a b → and_then (pair a b) (spelt m t) ≡ []
    go (inl (x, p)) = absurd (p.high_no_feed e)
    go (inr p) = rw p.is refl

-- a LF lies within the text
pub feed_within : (s : List ℕ) (i : ℕ) → get_or s i 0 ≡ 10 → i < length s
feed_within [] i e = absurd (omega arith)
feed_within (c ∷ s) zero e = omega arith
feed_within (c ∷ s) (suc i) e = let h = feed_within s i e in omega arith

-- what the code asks of it, and that where it does not hold the line is not whole
pub whole_is : (s : List ℕ) (count : ℕ) → count ≡ pair_of (get_or s 2 0) (get_or s 3 0) → count ≤ most_payload → get_or s (2 * (count + 2)) 0 ≡ line_feed
    → all is_digit (take (2 * (count + 2)) s) ≡ true → Whole s (count + 2)
whole_is s count e h f a = record {
  spells = digits_spell s (count + 2) (le_of_lt (feed_within s (2 * (count + 2)) f)) a;
  feed = f;
  count = ap (λ (k : ℕ). k + 2) (sym e);
  size = omega arith;
}

pub not_whole : (s : List ℕ) (count : ℕ) → count ≡ pair_of (get_or s 2 0) (get_or s 3 0) → all is_digit (take (2 * (count + 2)) s) ≡ false → (n : ℕ) → Whole s n → ⊥
not_whole s count e a n w =
    let k : count + 2 ≡ n = omega (arith, w.count) in
    no_digits s n (subst (λ (i : ℕ). all is_digit (take (2 * i) s) ≡ false) k a) w.spells

module _ (s : List ℕ) (n : ℕ) (w : Whole s n) where
  -- it spells its bytes and no more
  pub whole_spelt : spelt frame_size s ≡ spelt n s
  whole_spelt =
      let l = w.size in
      let k : n + (frame_size - n) ≡ frame_size = omega arith in
      let none : spelt (frame_size - n) (drop (2 * n) s) ≡ [] = feed_first (frame_size - n) (drop (2 * n) s) (get_or-drop (2 * n) s 0 0 ∙ ap (λ (i : ℕ). get_or s i 0) (omega arith) ∙ w.feed) in
      ap (λ (i : ℕ). spelt i s) (sym k) ∙ spelt_join n (frame_size - n) s (spelt_full n s w.spells) ∙ rw none (append-nil (spelt n s))

  -- and its second byte is its count
  whole_begins : Begins s n (pair_of (get_or s 2 0) (get_or s 3 0))
  whole_begins = record {
    some = omega (arith, w.spells.within, w.count);
    pairs = sym (ap length whole_spelt ∙ spelt_full n s w.spells);
    second = λ h.
        let a = spelt_more frame_size s 0 (omega arith) (omega (arith, w.spells.within)) (w.spells.pairs 0 (omega arith)) in
        let b = spelt_more frame_size s 1 (omega arith) (omega (arith, w.spells.within)) (w.spells.pairs 1 (omega arith)) in
        sym (ap (λ (l : List ℕ). get_or l 1 0) a ∙ ap (λ (l : List ℕ). get_or l 0 0) b);
  }

  pub whole_said : some (got (record { bytes = n; characters = 2 * n + 1 })) ≡ first_of (lines_of s)
  unfolding frame_of
  whole_said = simp (ne_eqb n 0 (λ z. omega (arith, w.count)), eq-eqb _ n w.count) at (line_ends s n (pair_of (get_or s 2 0) (get_or s 3 0)) whole_begins w.feed)
