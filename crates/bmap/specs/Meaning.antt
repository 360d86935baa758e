-- What a tree gives at a position of a history: state j is the present, step j+1 the present step.
use Rattle.std.specs.Prelude.{ℕ, zero, suc, ◌+◌, ◌-◌, Bool, true, not, leb, ℤ}
use Rattle.bmap.specs.Plain.{both}
use Rattle.bmap.specs.Number.{Valued, value, with1, with2, operate, change, compare, join, flag}
use Rattle.bmap.specs.Tree.{Expr, Con, constant, fluent, two, one, reified, compared, joined, negated, occurs, always, look_back}
use Rattle.bmap.specs.declared.Junction.{Junction}

-- the level of each fluent in each state, and whether an entry occurred in a step
pub record History : Type 0 where
  pub level : ℕ → ℕ → ℤ
  pub occurred : ℕ → ℕ → Bool

-- K4: what is "held at every position from 0 to the present one" (and), or "at one or more of them" (or), "both including the present",
-- by what it gives at each. "Every position is read, so one without a value leaves the whole without value; where K2's two reasons
-- occur, the earliest position's is given": by with2, as of two sides, the positions before on the left. "as in source document 000":
-- there "always C before now+1" holds at j where C holds at each i from 0 to j, and "sometime" where at one of them.
unfoldable pub up_to : Junction → (ℕ → Valued Bool) → ℕ → Valued Bool
up_to o at zero = at zero
up_to o at (suc j) = with2 (λ x y. value (join o x y)) (up_to o at j) (at (suc j))

-- "Lag t reads state j−t, or state 0 where j−t is negative": the difference of natural numbers stops at 0.
-- "Code 29 with lag t (0 to 63) looks at step j+1−t and is false before step 1": that step is 1 or later where t ≤ j.
-- "and" and "or" read both sides: by with2 a side without value leaves the whole without, whatever the other says.
-- K4: inside 2B and 2C a position looked at is the present one, for lags and for code 29.
unfoldable mutual
  pub eval_e : Expr → History → ℕ → Valued ℤ
  eval_e (constant z) h j = value z
  eval_e (fluent f t) h j = value (h.level (j - t) f)
  eval_e (two o a b) h j = with2 (operate o) (eval_e a h j) (eval_e b h j)
  eval_e (one o a) h j = with1 (change o) (eval_e a h j)
  eval_e (reified c) h j = with1 (λ b. value (flag b)) (eval_c c h j)

  pub eval_c : Con → History → ℕ → Valued Bool
  eval_c (compared o a b) h j = with2 (λ x y. value (compare o x y)) (eval_e a h j) (eval_e b h j)
  eval_c (joined o a b) h j = with2 (λ x y. value (join o x y)) (eval_c a h j) (eval_c b h j)
  eval_c (negated a) h j = with1 (λ x. value (not x)) (eval_c a h j)
  eval_c (occurs e t) h j = value (both (leb t j) (h.occurred e (j + 1 - t)))
  eval_c always h j = value true
  eval_c (look_back o a) h j = up_to o (λ i. eval_c a h i) j
