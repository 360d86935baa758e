-- K6: from each state that is written to the next, no fluent changes by more than its limit. Assumes nothing.
use Prim.Native.Nat.{ℕ, zero, suc, ◌+◌, ◌≤◌, ◌<◌}
use mathlib.Core.Path.{◌≡◌, refl, sym, ap, ◌∙◌}
use mathlib.Core.Bool.{Bool, true, false}
use mathlib.Core.List.{List, [], ◌∷◌, ◌++◌}
use native.Mathlib.Decide.{dec_lt}
use native.Mathlib.Omega.{arith}
use lib.Dec.{eqb, leb}
use lib.IntN.{pos}
use lib.ListN.{length, get_or, length-append, get_or-append}
use lib.Seq.{get_or-append_seam}
use borrow.Author.Tests.{leb-true, ne_eqb}
use Rattle.bmap.specs.Plain.{either}
use Rattle.bmap.specs.Number.{apart}
use Rattle.bmap.specs.Domain.{Domain, Fluent, State}
use Rattle.bmap.specs.Payload.{limit_fits, fluent_fits}
use Rattle.bmap.specs.Judge.{Pass, pass, next, unless, each_from, in_range, slow, fits, judge}
use Rattle.bmap.specs.Theorems.{level_in, LimitIs, ChangesKept}
use Rattle.bmap.proofs.PlainLaws.{both_true}
use Rattle.bmap.proofs.PayloadLaws.{limit_in}
use Rattle.theorems.proofs.ReachedLaws.{next_fine, Stepped, judge_keeps}

-- ---- what check 5 passed

each_passes : {A : Type 0} (g : ℕ → A → Pass) (n : ℕ) (l : List A) (i : ℕ) (x : A) → each_from n g l ≡ pass → i < length l → g (n + i) (get_or l i x) ≡ pass
unfolding each_from
each_passes g n [] i x e h = absurd (omega arith)
each_passes g n (a ∷ l) zero x e h = let z : n + 0 ≡ n = omega arith in ap (λ (m : ℕ). g m a) z ∙ (next_fine (g n a) (λ _. each_from (suc n) g l) e).first
each_passes g n (a ∷ l) (suc i) x e h =
    let z : n + suc i ≡ suc n + i = omega arith in
    ap (λ (m : ℕ). g m (get_or l i x)) z ∙ each_passes g (suc n) l i x (next_fine (g n a) (λ _. each_from (suc n) g l) e).then (omega arith)

both_passed : (f : ℕ) (a b : Bool) → next (unless 5 f a) (λ _. unless 10 f b) ≡ pass → b ≡ true
both_passed f a true e = refl
both_passed f a false e = absurd (let y = (next_fine (unless 5 f a) (λ _. unless 10 f false) e).then in cc)

module _ (d : Domain) (x : Fluent) (f : ℕ) (h : f < length d.fluents) where
  abbrev kept : State → State → Type 0
  kept old new = slow (get_or d.fluents f x).limit (get_or old f (pos 0)) (get_or new f (pos 0)) ≡ true

  step_kept : {old new : State} → Stepped d old new → kept old new
  unfolding fits
  step_kept {old} {new} s =
      let z : 0 + f ≡ f = omega arith in
      both_passed f (in_range (get_or d.fluents f x) (get_or new f (pos 0))) (slow (get_or d.fluents f x).limit (get_or old f (pos 0)) (get_or new f (pos 0)))
      (ap (λ (m : ℕ). fits old new m (get_or d.fluents f x)) (sym z) ∙ each_passes (fits old new) 0 d.fluents f x s.passes h)

  -- ---- of all states so far

  abbrev Kept : List State → Type 0
  Kept states = (k : ℕ) → suc k < length states → kept (get_or states k []) (get_or states (suc k) [])

  kept_more : (states : List State) (j : ℕ) (new : State) → length states ≡ suc j → Kept states → Stepped d (get_or states j []) new → Kept (states ++ (new ∷ []))
  kept_more states j new l so_far s k p = go (dec_lt (suc k) (length states))
    where
      front : (i : ℕ) → i < length states → get_or (states ++ (new ∷ [])) i [] ≡ get_or states i []
      front i q = get_or-append states (new ∷ []) [] i q

      go : Dec (suc k < length states) → kept (get_or (states ++ (new ∷ [])) k []) (get_or (states ++ (new ∷ [])) (suc k) [])
      go (yes q) = rw (front k (omega arith), front (suc k) q) (so_far k q)
      go (no q) =
          let last : suc k ≡ length states = omega (arith, length-append states (new ∷ [])) in
          let now : k ≡ j = omega arith in
          rw (front k (omega arith), ap (λ (i : ℕ). get_or (states ++ (new ∷ [])) i []) last ∙ get_or-append_seam states new [] [], now) (step_kept s)

-- ---- no limit

range_alone : (f : ℕ) (a : Bool) → next (unless 5 f a) (λ _. pass) ≡ unless 5 f a
range_alone f true = refl
range_alone f false = refl

no_limit : (old new : State) (f : ℕ) (x : Fluent) → x.limit ≡ 0 → fits old new f x ≡ unless 5 f (in_range x (get_or new f (pos 0)))
unfolding fits
no_limit old new f x e = rw e (range_alone f (in_range x (get_or new f (pos 0))))

-- a limit that there is
limit_kept : (limit change : ℕ) → 1 ≤ limit → either (eqb limit 0) (leb change limit) ≡ true → change ≤ limit
limit_kept limit change h e = leb-true change limit (rw (ne_eqb limit 0 (λ z. omega arith)) at e)

-- ---- the lengths of A2

lengths : (p : List ℕ) → fluent_fits p ≡ true → LimitIs p
unfolding fluent_fits
lengths p e = limit_in p (both_true (limit_fits p) _ e).0

pub changes_kept : ChangesKept
changes_kept = record {
  lengths = lengths;
  steps = λ d sheet k f x p h some.
      limit_kept (get_or d.fluents f x).limit (apart (level_in (judge d sheet) k f) (level_in (judge d sheet) (suc k) f)) some
      (judge_keeps d sheet (Kept d x f h) (λ i q. absurd (omega arith)) (λ i q. absurd (omega arith)) (kept_more d x f h) k p);
  unlimited = no_limit;
}
