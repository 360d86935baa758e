-- K3: a division and what it leaves. Assumes nothing.
use Prim.Native.Nat.{ℕ, zero, suc, ◌+◌, ◌-◌, ◌*◌, ◌/◌, ◌%◌, ◌≤◌, ◌<◌}
use mathlib.Core.Path.{◌≡◌, refl, sym, ap, subst, ◌∙◌}
use mathlib.Core.Logic.{◌⊎◌, inl, inr}
use mathlib.Core.Bool.{Bool, true, false, cond}
use native.Mathlib.Omega.{arith}
use native.Mathlib.Nat.{div-add-mod', div-le_self, le-mul_of_pos_right, mod-lt, zero-mul}
use lib.IntN.{ℤ, pos, negsuc, neg_ℤ, nat_abs, ◌+ℤ◌, ◌-ℤ◌, ◌*ℤ◌, +ℤ_assoc, +ℤ_comm, +ℤ_idr, +ℤ-suc_ℤ, +ℤ-neg_ℤ_cancel, -ℤ_one, -ℤ-+ℤ_cancel, zero-*ℤ, suc_ℤ-*ℤ, pred_ℤ-*ℤ, neg_ℤ-+ℤ}
use lib.Dec.{T, ltb, leb}
use lib.Signed.{quot_z, rem_z, non_neg, le_z}
use borrow.Author.Tests.{ltb-true, leb-true, lt-ltb, le-ltb, le-leb, lt-leb}
use Rattle.bmap.specs.Plain.{if_else}
use Rattle.bmap.proofs.PlainLaws.{both_true}
use Rattle.bmap.specs.Limits.{most_value}
use Rattle.bmap.specs.Number.{Valued, value, no_value, bounded, in_bounds, unless_zero, takes_sign, rounded_down, remaining}
use Rattle.bmap.specs.declared.Reason.TheVariants.{OutOfRange}
use Rattle.bmap.specs.Theorems.{Gives, Leaves, DivisionReturns, RemainderLeft, DivisionFixed, not_above, QuotientDown, DivisionValued}

-- ---- toward zero: the dividend returns, and less than a divisor is left

neg_negsuc : (q b : ℕ) → neg_ℤ (pos q) *ℤ negsuc b ≡ pos (q * suc b)
neg_negsuc zero b = ap (λ (n : ℕ). neg_ℤ (pos n)) (zero-mul (suc b)) ∙ ap pos (sym (zero-mul (suc b)))
neg_negsuc (suc k) b = refl

neg_pos : (q b : ℕ) → neg_ℤ (pos q) *ℤ pos b ≡ neg_ℤ (pos (q * b))
neg_pos zero b = ap pos (zero-mul b) ∙ ap (λ (n : ℕ). neg_ℤ (pos n)) (sym (zero-mul b))
neg_pos (suc k) b = refl

returned : (a b : ℤ) → quot_z a b *ℤ b +ℤ rem_z a b ≡ a
returned (pos a) (pos b) = ap pos (div-add-mod' a b)
returned (pos a) (negsuc b) = ap (λ (z : ℤ). z +ℤ pos (a % suc b)) (neg_negsuc (a / suc b) b) ∙ ap pos (div-add-mod' a (suc b))
returned (negsuc a) (pos b) =
    ap (λ (z : ℤ). z +ℤ neg_ℤ (pos (suc a % b))) (neg_pos (suc a / b) b)
    ∙ (sym (neg_ℤ-+ℤ (pos (suc a / b * b)) (pos (suc a % b))) ∙ ap (λ (n : ℕ). neg_ℤ (pos n)) (div-add-mod' (suc a) b))
returned (negsuc a) (negsuc b) =
    sym (neg_ℤ-+ℤ (pos (suc a / suc b * suc b)) (pos (suc a % suc b))) ∙ ap (λ (n : ℕ). neg_ℤ (pos n)) (div-add-mod' (suc a) (suc b))

size_neg : (n : ℕ) → nat_abs (neg_ℤ (pos n)) ≡ n
size_neg zero = refl
size_neg (suc n) = refl

size_remainder : (a b : ℤ) → nat_abs (rem_z a b) ≡ nat_abs a % nat_abs b
size_remainder (pos a) b = refl
size_remainder (negsuc a) b = size_neg (suc a % nat_abs b)

smaller : (a b : ℤ) → 0 < nat_abs b → nat_abs (rem_z a b) < nat_abs b
smaller a b h = rw (size_remainder a b) (mod-lt (nat_abs a) h)

-- ---- rounded down

-- one divisor less in the product, one more in the remainder
moved_over : (q b r : ℤ) → (q -ℤ pos 1) *ℤ b +ℤ (r +ℤ b) ≡ q *ℤ b +ℤ r
moved_over q b r =
    ap (λ (z : ℤ). z *ℤ b +ℤ (r +ℤ b)) (-ℤ_one q)
    ∙ (ap (λ (z : ℤ). z +ℤ (r +ℤ b)) (pred_ℤ-*ℤ q b)
    ∙ (ap (λ (z : ℤ). q *ℤ b -ℤ b +ℤ z) (+ℤ_comm r b)
    ∙ (sym (+ℤ_assoc (q *ℤ b -ℤ b) b r) ∙ ap (λ (z : ℤ). z +ℤ r) (-ℤ-+ℤ_cancel (q *ℤ b) b))))

down_returned : (a b : ℤ) → a ≡ rounded_down a b *ℤ b +ℤ remaining a b
down_returned a b = by_sign (takes_sign (rem_z a b) b)
  where
    by_sign : (t : Bool) → a ≡ if_else t (quot_z a b) (quot_z a b -ℤ pos 1) *ℤ b +ℤ if_else t (rem_z a b) (rem_z a b +ℤ b)
    by_sign true = sym (returned a b)
    by_sign false = sym (moved_over (quot_z a b) b (rem_z a b) ∙ returned a b)

-- a remainder of the other sign, and a divisor more: of the divisor's sign, and smaller still
turned : (b r : ℤ) → nat_abs r < nat_abs b → takes_sign r b ≡ false → Leaves b (r +ℤ b)
turned (pos b) (pos zero) h s = absurd (subst T s tt)
turned (pos b) (pos (suc r)) h s = absurd (subst T s tt)
turned (pos b) (negsuc r) h s = rw (le-ltb b (suc r) (omega arith)) (record { signed = inl refl; smaller = omega arith })
turned (negsuc b) (pos zero) h s = absurd (subst T s tt)
turned (negsuc b) (pos (suc r)) h s = rw (lt-ltb (suc r) (suc b) h) (record { signed = inl refl; smaller = omega arith })
turned (negsuc b) (negsuc r) h s = absurd (subst T s tt)

takes : (b r : ℤ) → takes_sign r b ≡ true → (non_neg r ≡ non_neg b) ⊎ (r ≡ pos 0)
takes b (pos zero) s = inr refl
takes b (pos (suc r)) s = inl (sym s)
takes (pos b) (negsuc r) s = absurd (subst T (sym s) tt)
takes (negsuc b) (negsuc r) s = inl refl

down_leaves : (a b : ℤ) → 0 < nat_abs b → Leaves b (remaining a b)
down_leaves a b h = by_sign (takes_sign (rem_z a b) b) refl
  where
    by_sign : (t : Bool) → takes_sign (rem_z a b) b ≡ t → Leaves b (if_else t (rem_z a b) (rem_z a b +ℤ b))
    by_sign true s = record { signed = takes b (rem_z a b) s; smaller = smaller a b h }
    by_sign false s = turned b (rem_z a b) (smaller a b h) s

-- ---- numbers of the divisor's sign, by their size

abbrev along : ℤ → ℕ → ℤ
along b n = if_else (non_neg b) (pos n) (neg_ℤ (pos n))

along_sum : (b : ℤ) (m n : ℕ) → along b (m + n) ≡ along b m +ℤ along b n
along_sum (pos b) m n = refl
along_sum (negsuc b) m n = neg_ℤ-+ℤ (pos m) (pos n)

along_product : (n : ℕ) (b : ℤ) → pos n *ℤ b ≡ along b (n * nat_abs b)
along_product n (pos b) = refl
along_product n (negsuc b) = refl

along_zero : (b : ℤ) → pos 0 ≡ along b 0
along_zero (pos b) = refl
along_zero (negsuc b) = refl

along_same : (b r : ℤ) → non_neg r ≡ non_neg b → r ≡ along b (nat_abs r)
along_same b (pos r) e = rw (sym e) refl
along_same b (negsuc r) e = rw (sym e) refl

along_left : (b r : ℤ) → (non_neg r ≡ non_neg b) ⊎ (r ≡ pos 0) → r ≡ along b (nat_abs r)
along_left b r (inl e) = along_same b r e
along_left b r (inr z) = z ∙ (along_zero b ∙ ap (λ (y : ℤ). along b (nat_abs y)) (sym z))

-- ---- order: x, and x and some more

at_most : (x : ℤ) (n : ℕ) → le_z x (x +ℤ pos n) ≡ true
at_most (pos x) n = le-leb x (x + n) (omega arith)
at_most (negsuc x) n = by_test (ltb n (suc x)) refl
  where
    by_test : (t : Bool) → ltb n (suc x) ≡ t → le_z (negsuc x) (cond t (negsuc (suc x - suc n)) (pos (n - suc x))) ≡ true
    by_test true h = le-leb (suc x - suc n) x (omega arith)
    by_test false h = refl

more : (x : ℤ) (n : ℕ) → le_z (x +ℤ pos (suc n)) x ≡ false
more (pos x) n = lt-leb (x + suc n) x (omega arith)
more (negsuc x) n = by_test (ltb (suc n) (suc x)) refl
  where
    by_test : (t : Bool) → ltb (suc n) (suc x) ≡ t → le_z (cond t (negsuc (suc x - suc (suc n))) (pos (suc n - suc x))) (negsuc x) ≡ false
    by_test true h = let k = ltb-true (suc n) (suc x) h in lt-leb x (suc x - suc (suc n)) (omega arith)
    by_test false h = refl

-- some less, and the same more again
back_up : (x y : ℤ) → x ≡ x +ℤ neg_ℤ y +ℤ y
back_up x y = sym (-ℤ-+ℤ_cancel x y)

-- x, and x and some more of b's sign
toward : (b x : ℤ) (n : ℕ) → if_else (non_neg b) (le_z x (x +ℤ along b n)) (le_z (x +ℤ along b n) x) ≡ true
toward (pos b) x n = at_most x n
toward (negsuc b) x n = ap (le_z (x +ℤ neg_ℤ (pos n))) (back_up x (pos n)) ∙ at_most (x +ℤ neg_ℤ (pos n)) n

beyond : (b x : ℤ) (n : ℕ) → if_else (non_neg b) (le_z (x +ℤ along b (suc n)) x) (le_z x (x +ℤ along b (suc n))) ≡ false
beyond (pos b) x n = more x n
beyond (negsuc b) x n = ap (λ (z : ℤ). le_z z (x +ℤ neg_ℤ (pos (suc n)))) (back_up x (pos (suc n))) ∙ more (x +ℤ neg_ℤ (pos (suc n))) n

-- of two numbers, the second is the first and some more, or less
data Apart (x y : ℤ) : Type 0 where
  up : (n : ℕ) → y ≡ x +ℤ pos n → Apart x y
  down : (n : ℕ) → x ≡ y +ℤ pos (suc n) → Apart x y

apart : (x y : ℤ) → Apart x y
apart x y = by_sign (y -ℤ x) refl
  where
    reached : (d : ℤ) → y -ℤ x ≡ d → y ≡ x +ℤ d
    reached d e = back_up y x ∙ (+ℤ_comm (y -ℤ x) x ∙ ap (λ (z : ℤ). x +ℤ z) e)

    by_sign : (d : ℤ) → y -ℤ x ≡ d → Apart x y
    by_sign (pos n) e = up n (reached (pos n) e)
    by_sign (negsuc n) e = down n (back_up x (pos (suc n)) ∙ ap (λ (z : ℤ). z +ℤ pos (suc n)) (sym (reached (negsuc n) e)))

-- a product of such a sum
plus_times : (n : ℕ) (q b : ℤ) → (q +ℤ pos n) *ℤ b ≡ q *ℤ b +ℤ pos n *ℤ b
plus_times zero q b = ap (λ (z : ℤ). z *ℤ b) (+ℤ_idr q) ∙ sym (ap (λ (z : ℤ). q *ℤ b +ℤ z) (zero-*ℤ b) ∙ +ℤ_idr (q *ℤ b))
plus_times (suc n) q b =
    ap (λ (z : ℤ). z *ℤ b) (+ℤ-suc_ℤ q (pos n))
    ∙ (suc_ℤ-*ℤ (q +ℤ pos n) b
    ∙ (ap (λ (z : ℤ). z +ℤ b) (plus_times n q b)
    ∙ (+ℤ_assoc (q *ℤ b) (pos n *ℤ b) b
    ∙ ap (λ (z : ℤ). q *ℤ b +ℤ z) (sym (suc_ℤ-*ℤ (pos n) b)))))

same_more : (x y z : ℤ) → x +ℤ y ≡ x +ℤ z → y ≡ z
same_more x y z e = sym (+ℤ-neg_ℤ_cancel y x) ∙ (ap (λ (w : ℤ). w -ℤ x) (+ℤ_comm y x ∙ (e ∙ +ℤ_comm x z)) ∙ +ℤ-neg_ℤ_cancel z x)

-- ---- what returns the dividend and leaves such a remainder is rounded down, and there is one alone

module _ (a b q r : ℤ) (e : a ≡ q *ℤ b +ℤ r) (l : Leaves b r) where
  left : r ≡ along b (nat_abs r)
  left = along_left b r l.signed

  -- the quotient is n and k more: the dividend is n divisors, k divisors more and the remainder
  is_below : (n : ℤ) (k : ℕ) → q ≡ n +ℤ pos k → a ≡ n *ℤ b +ℤ along b (k * nat_abs b + nat_abs r)
  is_below n k h =
      e ∙ (ap (λ (z : ℤ). z *ℤ b +ℤ r) h
      ∙ (ap (λ (z : ℤ). z +ℤ r) (plus_times k n b)
      ∙ (+ℤ_assoc (n *ℤ b) (pos k *ℤ b) r
      ∙ ap (λ (z : ℤ). n *ℤ b +ℤ z) (ap (λ (z : ℤ). z +ℤ r) (along_product k b) ∙ (ap (λ (z : ℤ). along b (k * nat_abs b) +ℤ z) left ∙ sym (along_sum b (k * nat_abs b) (nat_abs r)))))))

  -- what k + 1 divisors are more than the remainder, less 1
  abbrev over : ℕ → ℕ
  over k = k * nat_abs b + (nat_abs b - suc (nat_abs r))

  divisors : (k : ℕ) → pos (suc k) *ℤ b ≡ r +ℤ along b (suc (over k))
  divisors k =
      along_product (suc k) b
      ∙ (ap (along b) (omega (arith, l.smaller))
      ∙ (along_sum b (nat_abs r) (suc (over k)) ∙ ap (λ (z : ℤ). z +ℤ along b (suc (over k))) (sym left)))

  -- n is the quotient and k + 1 more: n divisors are the dividend and some more
  is_above : (n : ℤ) (k : ℕ) → n ≡ q +ℤ pos (suc k) → n *ℤ b ≡ a +ℤ along b (suc (over k))
  is_above n k h =
      ap (λ (z : ℤ). z *ℤ b) h
      ∙ (plus_times (suc k) q b
      ∙ (ap (λ (z : ℤ). q *ℤ b +ℤ z) (divisors k)
      ∙ (sym (+ℤ_assoc (q *ℤ b) r (along b (suc (over k)))) ∙ ap (λ (z : ℤ). z +ℤ along b (suc (over k))) (sym e))))

  is_down : (n : ℤ) → le_z n q ≡ not_above n a b
  is_down n = by_place (apart n q)
    where
      by_place : Apart n q → le_z n q ≡ not_above n a b
      by_place (up k h) = (ap (le_z n) h ∙ at_most n k) ∙ sym (ap (λ (z : ℤ). not_above n z b) (is_below n k h) ∙ toward b (n *ℤ b) (k * nat_abs b + nat_abs r))
      by_place (down k h) =
          (ap (λ (z : ℤ). le_z z q) h ∙ more q k)
          ∙ sym (ap (λ (z : ℤ). if_else (non_neg b) (le_z z a) (le_z a z)) (is_above n k h) ∙ beyond b a (over k))

both_ways : (x y : ℤ) → le_z x y ≡ true → le_z y x ≡ true → x ≡ y
both_ways x y f g = by_place (apart x y)
  where
    by_place : Apart x y → x ≡ y
    by_place (up zero h) = sym (h ∙ +ℤ_idr x)
    by_place (up (suc n) h) = absurd (subst T (sym g ∙ (ap (λ (z : ℤ). le_z z x) h ∙ more x n)) tt)
    by_place (down n h) = absurd (subst T (sym f ∙ (ap (λ (z : ℤ). le_z z y) h ∙ more y n)) tt)

itself : (x : ℤ) → le_z x x ≡ true
itself x = ap (le_z x) (sym (+ℤ_idr x)) ∙ at_most x 0

one_quotient : (a b q r s t : ℤ) → a ≡ q *ℤ b +ℤ r → Leaves b r → a ≡ s *ℤ b +ℤ t → Leaves b t → q ≡ s
one_quotient a b q r s t e l f m =
    both_ways q s
    (is_down a b s t f m q ∙ (sym (is_down a b q r e l q) ∙ itself q))
    (is_down a b q r e l s ∙ (sym (is_down a b s t f m s) ∙ itself s))

one_remainder : (a b q r t : ℤ) → a ≡ q *ℤ b +ℤ r → a ≡ q *ℤ b +ℤ t → r ≡ t
one_remainder a b q r t e f = same_more (q *ℤ b) r t (sym e ∙ f)

-- ---- with a value, or without

bounded_is : (z q : ℤ) → bounded z ≡ value q → z ≡ q
unfolding bounded
bounded_is z q e = by_test (in_bounds z) e
  where
    by_test : (t : Bool) → if_else t (value z) (no_value OutOfRange) ≡ value q → z ≡ q
    by_test true h = cc
    by_test false h = absurd cc

-- a value of a division: its divisor is not 0, and what it is
record Divides (b z q : ℤ) : Type 0 where
  pub some : 0 < nat_abs b
  pub is : z ≡ q

divides : (b z q : ℤ) → unless_zero b (bounded z) ≡ value q → Divides b z q
divides (pos zero) z q e = absurd cc
divides (pos (suc n)) z q e = record { some = omega arith; is = bounded_is z q e }
divides (negsuc n) z q e = record { some = omega arith; is = bounded_is z q e }

not_zero : (b : ℤ) (v : Valued ℤ) → 0 < nat_abs b → unless_zero b v ≡ v
not_zero (pos zero) v h = absurd (omega arith)
not_zero (pos (suc n)) v h = refl
not_zero (negsuc n) v h = refl

pub division_returns : DivisionReturns
division_returns a b q r g =
    down_returned a b
    ∙ (ap (λ (z : ℤ). z *ℤ b +ℤ remaining a b) (divides b (rounded_down a b) q g.quotient).is ∙ ap (λ (z : ℤ). q *ℤ b +ℤ z) (divides b (remaining a b) r g.remainder).is)

pub remainder_left : RemainderLeft
remainder_left a b r f = let d = divides b (remaining a b) r f in subst (Leaves b) d.is (down_leaves a b d.some)

pub division_fixed : DivisionFixed
division_fixed a b q r e l =
    let h : 0 < nat_abs b = omega (arith, l.smaller) in
    let down : rounded_down a b ≡ q = one_quotient a b (rounded_down a b) (remaining a b) q r (down_returned a b) (down_leaves a b h) e l in
    let left : remaining a b ≡ r = one_remainder a b q (remaining a b) r (down_returned a b ∙ ap (λ (z : ℤ). z *ℤ b +ℤ remaining a b) down) e in
    record { quotient = not_zero b (bounded (rounded_down a b)) h ∙ ap bounded down; remainder = not_zero b (bounded (remaining a b)) h ∙ ap bounded left }

pub quotient_down : QuotientDown
quotient_down a b q e n =
    let d = divides b (rounded_down a b) q e in
    sym (ap (le_z n) d.is) ∙ is_down a b (rounded_down a b) (remaining a b) (down_returned a b) (down_leaves a b d.some) n

-- ---- no quotient is larger in size than its dividend

size_quotient : (a b : ℤ) → nat_abs (quot_z a b) ≡ nat_abs a / nat_abs b
size_quotient (pos a) (pos b) = refl
size_quotient (pos a) (negsuc b) = size_neg (a / suc b)
size_quotient (negsuc a) (pos b) = size_neg (suc a / b)
size_quotient (negsuc a) (negsuc b) = refl

size_lowered : (z : ℤ) → nat_abs (z -ℤ pos 1) ≤ suc (nat_abs z)
size_lowered (pos zero) = omega arith
size_lowered (pos (suc n)) = rw (le-ltb (suc n) 1 (omega arith)) (omega arith)
size_lowered (negsuc n) = omega arith

other_sign : (r b : ℤ) → takes_sign r b ≡ false → 0 < nat_abs r
other_sign (pos zero) b s = absurd (subst T s tt)
other_sign (pos (suc n)) b s = omega arith
other_sign (negsuc n) b s = omega arith

size_down : (a b : ℤ) → 0 < nat_abs b → nat_abs (rounded_down a b) ≤ nat_abs a
size_down a b h = by_sign (takes_sign (rem_z a b) b) refl
  where
    toward_zero : nat_abs (quot_z a b) ≤ nat_abs a
    toward_zero = rw (size_quotient a b) (div-le_self (nat_abs a) (nat_abs b))

    by_sign : (t : Bool) → takes_sign (rem_z a b) b ≡ t → nat_abs (if_else t (quot_z a b) (quot_z a b -ℤ pos 1)) ≤ nat_abs a
    by_sign true s = toward_zero
    by_sign false s =
        let some : 0 < nat_abs a % nat_abs b = rw (size_remainder a b) at (other_sign (rem_z a b) b s) in
        let lowered : nat_abs (quot_z a b -ℤ pos 1) ≤ suc (nat_abs a / nat_abs b) = rw (size_quotient a b) at (size_lowered (quot_z a b)) in
        omega (arith, div-add-mod' (nat_abs a) (nat_abs b), le-mul_of_pos_right (nat_abs a / nat_abs b) h)

in_bounds_lem : (z : ℤ) → nat_abs z ≤ most_value → in_bounds z ≡ true
in_bounds_lem (pos n) h = le-leb n most_value h
in_bounds_lem (negsuc n) h = rw (le-leb n (most_value - 1) (omega arith)) refl

size_within : (z : ℤ) → in_bounds z ≡ true → nat_abs z ≤ most_value
size_within (pos n) h = leb-true n most_value h
size_within (negsuc n) h = omega (arith, leb-true n (most_value - 1) (both_true (leb n (most_value - 1)) true h).0)

has_value : (b z : ℤ) → 0 < nat_abs b → nat_abs z ≤ most_value → unless_zero b (bounded z) ≡ value z
unfolding bounded
has_value b z h k = not_zero b (bounded z) h ∙ rw (in_bounds_lem z k) refl

some_size : (b : ℤ) → (b ≡ pos 0 → ⊥) → 0 < nat_abs b
some_size (pos zero) h = absurd (h refl)
some_size (pos (suc n)) h = omega arith
some_size (negsuc n) h = omega arith

pub division_valued : DivisionValued
division_valued = record { values = values; none = λ a. record { quotient = refl; remainder = refl } }
  where
    values : (a b : ℤ) → in_bounds a ≡ true → in_bounds b ≡ true → (b ≡ pos 0 → ⊥) → (q : ℤ) × (r : ℤ) × Gives a b (value q) (value r)
    values a b f g h =
        let some : 0 < nat_abs b = some_size b h in (
          rounded_down a b,
          remaining a b,
          record {
            quotient = has_value b (rounded_down a b) some (omega (arith, size_down a b some, size_within a f));
            remainder = has_value b (remaining a b) some (omega (arith, (down_leaves a b some).smaller, size_within b g));
          },
        )
