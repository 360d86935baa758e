-- The pairs of digits at the front of a text are passed over: what its first line decodes to goes by the bytes that they spell and
-- by what follows them.
use Prim.Native.Nat.{ℕ, zero, suc, ◌+◌, ◌-◌, ◌*◌, ◌≤◌, ◌<◌}
use native.Mathlib.Nat.{not-suc-le-zero}
use native.Mathlib.Omega.{arith}
use mathlib.Core.Path.{◌≡◌, refl, sym, ap, ◌∙◌}
use mathlib.Core.Logic.{◌⊎◌, inl, inr}
use mathlib.Core.Bool.{Bool, true, false}
use mathlib.Core.List.{List, [], ◌∷◌, ◌++◌, append-nil}
use lib.Dec.{eqb, ltb}
use lib.ListN.{length, get_or, drop, length-append}
use borrow.Author.Tests.{eqb-true, eqb-false, ne_eqb, ltb-true, ltb-false}
use Rattle.bmap.specs.Refusal.{Answer, got, refused, need, then}
use Rattle.bmap.specs.Line.{Frame, digit, bytes}
use Rattle.line.specs.Read.{pair, and_then, spelt}
use Rattle.line.proofs.Digits.{Pair, NoPair, pair_is, two_suc, spelt_short, spelt_half}
use Rattle.line.proofs.Lines.{at_feed, ends, front}
use Rattle.line.proofs.Answers.{need_refused, then_got, then_got_inv, then_then}

pub bytes_pair : (a b : ℕ) (l : List ℕ) → bytes (a ∷ b ∷ l) ≡ then (pair a b) (λ x. then (bytes l) (λ r. got (x ∷ r)))
unfolding bytes
bytes_pair a b l = go (digit a) (digit b)
  where
    go : (x y : Answer ℕ)
        → then x (λ hi. then y (λ lo. then (bytes l) (λ r. got ((hi * 16 + lo) ∷ r))))
        ≡ then (then x (λ hi. then y (λ lo. got (hi * 16 + lo)))) (λ z. then (bytes l) (λ r. got (z ∷ r)))
    go (got h) (got k) = refl
    go (got h) (refused n) = refl
    go (refused n) y = refl

abbrev pub beyond : ℕ → List ℕ → List ℕ
beyond m s = drop (2 * length (spelt m s)) s

pub record Passed (m : ℕ) (s : List ℕ) : Type 0 where
  pub end : ends s ≡ ends (beyond m s)
  pub spells : bytes (front s) ≡ then (bytes (front (beyond m s))) (λ l. got (spelt m s ++ l))
  pub size : length (front s) ≡ 2 * length (spelt m s) + length (front (beyond m s))

passed_nothing : (m : ℕ) (s : List ℕ) → spelt m s ≡ [] → Passed m s
passed_nothing m s e = record { end = rw e refl; spells = rw e (sym (then_got (bytes (front s)))); size = rw e (omega arith) }

passed_pair : (m a b x : ℕ) (s : List ℕ) → Pair a b x → Passed m s → Passed (suc m) (a ∷ b ∷ s)
unfolding spelt front ends
passed_pair m a b x s p r =
    let e : spelt (suc m) (a ∷ b ∷ s) ≡ x ∷ spelt m s = ap (λ (y : Answer ℕ). and_then y (spelt m s)) p.is in
    let t : beyond (suc m) (a ∷ b ∷ s) ≡ beyond m s = rw (e, two_suc (length (spelt m s))) refl in
    let na = ne_eqb a 10 p.high_no_feed in
    let nb = ne_eqb b 10 p.low_no_feed in
    let fr : front (a ∷ b ∷ s) ≡ a ∷ b ∷ front s = simp (na, nb) in
    record {
      end = simp (na, nb) (r.end ∙ ap ends (sym t));
      spells =
          ap bytes fr
          ∙ bytes_pair a b (front s)
          ∙ ap (λ (y : Answer ℕ). then y (λ z. then (bytes (front s)) (λ l. got (z ∷ l)))) p.is
          ∙ ap (λ (y : Answer (List ℕ)). then y (λ l. got (x ∷ l))) r.spells
          ∙ then_then (bytes (front (beyond m s))) (λ l. spelt m s ++ l) (λ l. got (x ∷ l))
          ∙ rw (t, e) refl;
      size = ap length fr ∙ rw (t, e) (omega (arith, r.size));
    }

pub passed : (m : ℕ) (s : List ℕ) → Passed m s
unfolding spelt
passed zero s = passed_nothing zero s refl
passed (suc m) [] = passed_nothing (suc m) [] refl
passed (suc m) (a ∷ []) = passed_nothing (suc m) (a ∷ []) refl
passed (suc m) (a ∷ b ∷ s) = go (pair_is a b) (passed m s)
  where
    go : ((x : ℕ) × Pair a b x) ⊎ NoPair a b → Passed m s → Passed (suc m) (a ∷ b ∷ s)
    go (inl (x, p)) r = passed_pair m a b x s p r
    go (inr p) r = passed_nothing (suc m) (a ∷ b ∷ s) (ap (λ (y : Answer ℕ). and_then y (spelt m s)) p.is)

-- no pair of digits follows them, unless there may be no more
pub none_beyond : (m : ℕ) (s : List ℕ) → spelt (m - length (spelt m s)) (beyond m s) ≡ []
unfolding spelt
none_beyond zero s = refl
none_beyond (suc m) [] = spelt_short (suc m - 0) [] (omega arith)
none_beyond (suc m) (a ∷ []) = spelt_short (suc m - 0) (a ∷ []) (omega arith)
none_beyond (suc m) (a ∷ b ∷ s) = go (pair_is a b) (none_beyond m s)
  where
    go : ((x : ℕ) × Pair a b x) ⊎ NoPair a b → spelt (m - length (spelt m s)) (beyond m s) ≡ []
        → spelt (suc m - length (spelt (suc m) (a ∷ b ∷ s))) (beyond (suc m) (a ∷ b ∷ s)) ≡ []
    go (inl (x, p)) r =
        let e : spelt (suc m) (a ∷ b ∷ s) ≡ x ∷ spelt m s = ap (λ (y : Answer ℕ). and_then y (spelt m s)) p.is in
        let l : suc m - suc (length (spelt m s)) ≡ m - length (spelt m s) = omega arith in
        rw (e, two_suc (length (spelt m s)), l) r
    go (inr p) r =
        let e : spelt (suc m) (a ∷ b ∷ s) ≡ [] = ap (λ (y : Answer ℕ). and_then y (spelt m s)) p.is in
        let l : suc m - 0 ≡ suc m = omega arith in
        rw (e, l) e

-- a line in which something other than a pair of digits or the LF comes is refused
stopped : (k : ℕ) (t : List ℕ) (f : List ℕ → Answer Frame) → spelt (suc k) t ≡ [] → (get_or t 0 0 ≡ 10 → ⊥) → need (ends t) 1 (then (bytes (front t)) f) ≡ refused 1
unfolding spelt front ends
stopped k [] f e n = refl
stopped k (a ∷ []) f e n = simp (ne_eqb a 10 n)
stopped k (a ∷ b ∷ s) f e n = go (pair_is a b) (eqb b 10) refl
  where
    go : ((x : ℕ) × Pair a b x) ⊎ NoPair a b → (t : Bool) → eqb b 10 ≡ t → need (ends (a ∷ b ∷ s)) 1 (then (bytes (front (a ∷ b ∷ s))) f) ≡ refused 1
    go (inl (x, p)) t q =
        absurd
        (let h : x ∷ spelt k s ≡ [] = ap (λ (y : Answer ℕ). and_then y (spelt k s)) (sym p.is) ∙ e in let z : ◌≡◌ {A = ℕ} 0 1 = cc in omega arith)
    go (inr p) true q = unfold bytes in simp (ne_eqb a 10 n, q)
    go (inr p) false q =
        simp (ne_eqb a 10 n, q)
        (ap (λ (y : Answer (List ℕ)). need (ends s) 1 (then y f)) (bytes_pair a b (front s) ∙ ap (λ (y : Answer ℕ). then y (λ z. then (bytes (front s)) (λ l. got (z ∷ l)))) p.is)
        ∙ need_refused (ends s) 1)

-- the text from the pairs on says the same
pub passed_on : (m : ℕ) (s : List ℕ) (f : List ℕ → Answer Frame)
    → need (ends s) 1 (then (bytes (front s)) f) ≡ need (ends (beyond m s)) 1 (then (bytes (front (beyond m s))) (λ l. f (spelt m s ++ l)))
passed_on m s f =
    let r = passed m s in
    ap (λ (y : Answer (List ℕ)). need (ends s) 1 (then y f)) r.spells
    ∙ ap (λ (b : Bool). need b 1 (then (then (bytes (front (beyond m s))) (λ l. got (spelt m s ++ l))) f)) r.end
    ∙ ap (need (ends (beyond m s)) 1) (then_then (bytes (front (beyond m s))) (λ l. spelt m s ++ l) f)

pub stops : (m : ℕ) (s : List ℕ) (f : List ℕ → Answer Frame) → length (spelt m s) < m → (get_or (beyond m s) 0 0 ≡ 10 → ⊥)
    → need (ends s) 1 (then (bytes (front s)) f) ≡ refused 1
stops m s f h n =
    let l : m - length (spelt m s) ≡ suc (m - length (spelt m s) - 1) = omega arith in
    passed_on m s f
    ∙ stopped (m - length (spelt m s) - 1) (beyond m s) (λ l. f (spelt m s ++ l)) (ap (λ (k : ℕ). spelt k (beyond m s)) (sym l) ∙ none_beyond m s) n

pub stops_anywhere : (t : List ℕ) (f : List ℕ → Answer Frame) → (get_or (beyond (length t) t) 0 0 ≡ 10 → ⊥) → need (ends t) 1 (then (bytes (front t)) f) ≡ refused 1
unfolding ends
stops_anywhere [] f n = refl
stops_anywhere (c ∷ t) f n = stops (suc (length t)) (c ∷ t) f (omega (arith, spelt_half (suc (length t)) (c ∷ t))) n

-- the digits before the LF spell no more than the line's bytes
pub spelt_all : (m : ℕ) (s b : List ℕ) → ends s ≡ true → bytes (front s) ≡ got b → length b ≤ m → spelt m s ≡ b
unfolding bytes
spelt_all m s b e h l =
    let r = passed m s in
    let sp = spelt m s in
    let t = beyond m s in
    let (x, ex, eb) = then_got_inv (bytes (front t)) (λ y. got (sp ++ y)) b (sym r.spells ∙ h) in
    let joined : sp ++ x ≡ b = cc in
    let last : x ≡ [] = go x ex (omega (arith, length-append sp x, ap length joined)) (ltb (length sp) m) refl (eqb (get_or t 0 0) 10) refl in
    sym (append-nil sp) ∙ ap (λ (y : List ℕ). sp ++ y) (sym last) ∙ joined
  where
    no_length : (x : List ℕ) → length x ≤ 0 → x ≡ []
    no_length [] k = refl
    no_length (y ∷ x) k = absurd (not-suc-le-zero k)

    go : (x : List ℕ) → bytes (front (beyond m s)) ≡ got x → length (spelt m s) + length x ≤ m
        → (p : Bool) → ltb (length (spelt m s)) m ≡ p → (q : Bool) → eqb (get_or (beyond m s) 0 0) 10 ≡ q → x ≡ []
    go x ex k true p true q =
        let f = at_feed (beyond m s) (eqb-true _ _ q) in
        let z : bytes [] ≡ got x = ap bytes (sym f.1) ∙ ex in
        cc
    go x ex k true p false q =
        let z = stops m s (λ y. got (record { kind = 0; payload = [] })) (ltb-true _ _ p) (eqb-false _ _ q) in
        absurd (let w : got (record { kind = 0; payload = [] }) ≡ refused 1 = rw (e, h) at z in let v : ◌≡◌ {A = ℕ} 0 1 = cc in omega arith)
    go x ex k false p q r = no_length x (omega (arith, ltb-false (length (spelt m s)) m p))
