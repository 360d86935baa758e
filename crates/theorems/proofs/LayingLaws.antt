-- K8: supplements laid over one another, as lists of replacements. Assumes nothing.
use Prim.Native.Nat.{ℕ, suc, ◌+◌, ◌≤◌, ◌<◌}
use native.Mathlib.Omega.{arith}
use mathlib.Core.Path.{◌≡◌, refl, sym, ap, ◌∙◌}
use mathlib.Core.Logic.{◌⊎◌, inl, inr}
use mathlib.Core.Bool.{Bool, true, false}
use mathlib.Core.List.{List, [], ◌∷◌}
use mathlib.Core.Option.{Option, none, some}
use lib.Dec.{eqb}
use lib.ListN.{length}
use borrow.Author.Tests.{eqb-true}
use Rattle.bmap.specs.Plain.{if_else, maybe}
use Rattle.bmap.specs.Limits.{most_laws}
use Rattle.bmap.specs.Domain.{Domain, Law}
use Rattle.bmap.specs.Supplement.{Replacement, replaces, replacement_of, in_force_from, replaced}
use Rattle.bmap.specs.Laying.{ordered, winning, laid}
use Rattle.bmap.specs.Theorems.{Rising, Lays, Apart}
use Rattle.theorems.proofs.RisingLaws.{rising_fixed}
use Rattle.theorems.proofs.ByNumberLaws.{Has, Numbered, upper_or, upper_or_none, found_by_number, kept_by_number, rising_by_number, by_number_same}

-- ---- what a supplement, and the winning one of two, finds

pub numbered_in : (s : List Replacement) → Numbered (replacement_of s)
unfolding replacement_of
numbered_in [] n r e = absurd cc
numbered_in (q ∷ s) n r e = go (eqb (replaces q) n) refl (numbered_in s n) r e
  where
    go : (t : Bool) → eqb (replaces q) n ≡ t → Has n (replacement_of s n) → Has n (if_else t (some q) (replacement_of s n))
    go true h rec r k = let z : q ≡ r = cc in ap replaces (sym z) ∙ eqb-true (replaces q) n h
    go false h rec r k = rec r k

pub numbered_winning : (l u : List Replacement) → Numbered (winning l u)
numbered_winning l u n r e = go (replacement_of u n) (numbered_in u n) r e
  where
    go : (o : Option Replacement) → Has n o → Has n (upper_or o (replacement_of l n))
    go none above r k = numbered_in l n r k
    go (some q) above r k = above r k

pub found_ordered : (s : List Replacement) (n : ℕ) → n < most_laws → replacement_of (ordered s) n ≡ replacement_of s n
unfolding ordered
found_ordered s = found_by_number (replacement_of s) (numbered_in s)

pub found_laid : (l u : List Replacement) (n : ℕ) → n < most_laws → replacement_of (laid l u) n ≡ winning l u n
unfolding laid
found_laid l u = found_by_number (winning l u) (numbered_winning l u)

pub rising_ordered : (s : List Replacement) → Rising (ordered s)
unfolding ordered
rising_ordered s = rising_by_number (replacement_of s) (numbered_in s)

pub rising_laid : (l u : List Replacement) → Rising (laid l u)
unfolding laid
rising_laid l u = rising_by_number (winning l u) (numbered_winning l u)

-- ---- the four laws of laying

module _ {A : Type 0} where
  upper_or_assoc : (a b c : Option A) → upper_or a (upper_or b c) ≡ upper_or (upper_or a b) c
  upper_or_assoc none b c = refl
  upper_or_assoc (some a) b c = refl

  upper_or_self : (a : Option A) → upper_or a a ≡ a
  upper_or_self none = refl
  upper_or_self (some a) = refl

  upper_or_apart : (a b : Option A) → (a ≡ none) ⊎ (b ≡ none) → upper_or b a ≡ upper_or a b
  upper_or_apart a b (inl e) = rw e (upper_or_none b)
  upper_or_apart a b (inr e) = rw e (sym (upper_or_none a))

pub laid_associates : (a b c : List Replacement) → laid (laid a b) c ≡ laid a (laid b c)
unfolding laid
laid_associates a b c = by_number_same (winning (laid a b) c) (winning a (laid b c)) (λ n h.
    ap (upper_or (replacement_of c n)) (found_laid a b n h)
    ∙ upper_or_assoc (replacement_of c n) (replacement_of b n) (replacement_of a n)
    ∙ ap (λ (o : Option Replacement). upper_or o (replacement_of a n)) (sym (found_laid b c n h)))

pub laid_empty : (s : List Replacement) → (laid s [] ≡ ordered s) × (laid [] s ≡ ordered s)
unfolding laid ordered replacement_of
laid_empty s = (refl, by_number_same (winning [] s) (replacement_of s) (λ n h. upper_or_none (replacement_of s n)))

pub laid_itself : (s : List Replacement) → laid s s ≡ ordered s
unfolding laid ordered
laid_itself s = by_number_same (winning s s) (replacement_of s) (λ n h. upper_or_self (replacement_of s n))

pub laid_apart : (a b : List Replacement) → Apart a b → laid a b ≡ laid b a
unfolding laid
laid_apart a b apart = by_number_same (winning a b) (winning b a) (λ n h. upper_or_apart (replacement_of a n) (replacement_of b n) (apart n))

-- ---- where no number is beyond the laws

abbrev pub Within : List Replacement → Type 0
Within s = (n : ℕ) → most_laws ≤ n → replacement_of s n ≡ none

pub ordered_keeps : (s : List Replacement) → Within s → (n : ℕ) → replacement_of (ordered s) n ≡ replacement_of s n
unfolding ordered
ordered_keeps s within = kept_by_number (replacement_of s) (numbered_in s) within

pub laid_lays : (l u : List Replacement) → Within l → Within u → Lays l u (laid l u)
unfolding laid
laid_lays l u below above = record {
  keeps = kept_by_number (winning l u) (numbered_winning l u) (λ n h. rw (above n h) (below n h));
  rising = rising_laid l u;
}

-- both fix it
pub ordered_stays : (s : List Replacement) → Within s → Rising s → ordered s ≡ s
ordered_stays s within up = rising_fixed (ordered s) s (rising_ordered s) up (ordered_keeps s within)

pub laid_fixed : (l u r : List Replacement) → Within l → Within u → Lays l u r → r ≡ laid l u
laid_fixed l u r below above lays =
    rising_fixed r (laid l u) lays.rising (rising_laid l u) (λ n. lays.keeps n ∙ sym ((laid_lays l u below above).keeps n))

-- ---- the laws in force

in_force_ordered : (s : List Replacement) (laws : List Law) (n : ℕ) → n + length laws ≤ most_laws → in_force_from (ordered s) n laws ≡ in_force_from s n laws
unfolding in_force_from
in_force_ordered s [] n h = refl
in_force_ordered s (x ∷ laws) n h = rw (found_ordered s n (omega arith), in_force_ordered s laws (suc n) (omega arith)) refl

in_turn : (upper lower : Option Replacement) (x : Law) → maybe (upper_or upper lower) x (λ r. r.law) ≡ maybe upper (maybe lower x (λ r. r.law)) (λ r. r.law)
in_turn none lower x = refl
in_turn (some r) lower x = refl

in_force_laid : (l u : List Replacement) (laws : List Law) (n : ℕ) → n + length laws ≤ most_laws → in_force_from (laid l u) n laws ≡ in_force_from u n (in_force_from l n laws)
unfolding in_force_from
in_force_laid l u [] n h = refl
in_force_laid l u (x ∷ laws) n h =
    rw (found_laid l u n (omega arith), in_force_laid l u laws (suc n) (omega arith), in_turn (replacement_of u n) (replacement_of l n) x) refl

pub replaced_ordered : (s : List Replacement) (d : Domain) → length d.laws ≤ most_laws → replaced (ordered s) d ≡ replaced s d
unfolding replaced
replaced_ordered s d few = rw (in_force_ordered s d.laws 0 (omega arith)) refl

pub replaced_laid : (l u : List Replacement) (d : Domain) → length d.laws ≤ most_laws → replaced (laid l u) d ≡ replaced u (replaced l d)
unfolding replaced
replaced_laid l u d few = rw (in_force_laid l u d.laws 0 (omega arith)) refl
