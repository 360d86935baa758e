-- A tree reads no more of a history than it may name, up to the present: where two histories agree on that, it gives the same.
use mathlib.Core.Path.{◌≡◌, refl, ap}
use mathlib.Core.Bool.{Bool, true}
use Prim.Native.Nat.{ℕ, zero, suc, ◌+◌, ◌-◌, ◌≤◌, ◌<◌}
use native.Mathlib.Omega.{arith}
use native.Mathlib.Decide.{dec_le}
use borrow.Author.Tests.{ltb-true, lt-leb}
use lib.Dec.{leb, ltb}
use lib.IntN.{ℤ}
use Rattle.bmap.specs.declared.limits.Context.{Context}
use Rattle.bmap.specs.declared.Junction.{Junction}
use Rattle.bmap.specs.Plain.{both}
use Rattle.bmap.proofs.PlainLaws.{both_true}
use Rattle.bmap.specs.Limits.{most_lag}
use Rattle.bmap.specs.Number.{Valued, value}
use Rattle.bmap.specs.Tree.{Expr, Con, constant, fluent, two, one, reified, compared, joined, negated, occurs, always, look_back, looking_back, allowed_e, allowed_c}
use Rattle.bmap.specs.Meaning.{History, up_to, eval_e, eval_c}

pub record Agree (x : Context) (j : ℕ) (g h : History) : Type 0 where
  pub levels : (k f : ℕ) → k ≤ j → f < x.fluents → g.level k f ≡ h.level k f
  pub steps : x.occurrences ≡ true → (e k : ℕ) → e < x.entries → 1 ≤ k → k ≤ j + 1 → g.occurred e k ≡ h.occurred e k

-- what agrees up to the present agrees at every position before it; and inside 2B and 2C a tree may name the same
earlier : {x : Context} {i j : ℕ} {g h : History} → i ≤ j → Agree x j g h → Agree x i g h
earlier le a = record { levels = λ k f h w. a.levels k f (omega arith) w; steps = λ o e k w lo hi. a.steps o e k w lo (omega arith) }

inside : {x : Context} {j : ℕ} {g h : History} → Agree x j g h → Agree (looking_back x) j g h
inside a = record { levels = a.levels; steps = a.steps }

up_to_same : (o : Junction) (u v : ℕ → Valued Bool) (j : ℕ) → ((i : ℕ) → i ≤ j → u i ≡ v i) → up_to o u j ≡ up_to o v j
unfolding up_to
up_to_same o u v zero same = same 0 (omega arith)
up_to_same o u v (suc j) same = rw (up_to_same o u v j (λ i le. same i (omega arith)), same (suc j) (omega arith))

module _ {x : Context} {j : ℕ} {g h : History} (a : Agree x j g h) where
  same_level : (f t : ℕ) → both (ltb f x.fluents) (leb t most_lag) ≡ true → value (g.level (j - t) f) ≡ value (h.level (j - t) f)
  same_level f t w = ap (λ (z : ℤ). value z) (a.levels (j - t) f (omega arith) (ltb-true f x.fluents (both_true (ltb f x.fluents) (leb t most_lag) w).0))

  same_step : (e t : ℕ) → both x.occurrences (both (ltb e x.entries) (leb t most_lag)) ≡ true → value (both (leb t j) (g.occurred e (j + 1 - t))) ≡ value (both (leb t j) (h.occurred e (j + 1 - t)))
  same_step e t w =
      let asked = both_true x.occurrences (both (ltb e x.entries) (leb t most_lag)) w in
      let known : e < x.entries = ltb-true e x.entries (both_true (ltb e x.entries) (leb t most_lag) asked.1).0 in
      elim (dec_le t j) [
        | yes le ↦ ap (λ (b : Bool). value (both (leb t j) b)) (a.steps asked.0 e (j + 1 - t) known (omega arith) (omega arith))
        | no gt ↦ rw (lt-leb t j (omega arith))
      ]

mutual
  unfolding allowed_e eval_e

  pub agree_e : {x : Context} {j : ℕ} {g h : History} → Agree x j g h → (t : Expr) → allowed_e x t ≡ true → eval_e t g j ≡ eval_e t h j
  agree_e a (constant z) w = refl
  agree_e a (fluent f t) w = same_level a f t w
  agree_e a (two o p q) w = let v = both_true _ _ w in rw (agree_e a p v.0, agree_e a q v.1)
  agree_e a (one o p) w = rw (agree_e a p w)
  agree_e a (reified c) w = rw (agree_c a c w)

  pub agree_c : {x : Context} {j : ℕ} {g h : History} → Agree x j g h → (t : Con) → allowed_c x t ≡ true → eval_c t g j ≡ eval_c t h j
  agree_c a (compared o p q) w = let v = both_true _ _ w in rw (agree_e a p v.0, agree_e a q v.1)
  agree_c a (joined o p q) w = let v = both_true _ _ w in rw (agree_c a p v.0, agree_c a q v.1)
  agree_c a (negated p) w = rw (agree_c a p w)
  agree_c a (occurs e t) w = same_step a e t w
  agree_c a always w = refl
  agree_c {x} {j} {g} {h} a (look_back o p) w = up_to_same o (λ i. eval_c p g i) (λ i. eval_c p h i) j (λ i le. agree_c (earlier le (inside a)) p (both_true x.back (allowed_c (looking_back x) p) w).1)
