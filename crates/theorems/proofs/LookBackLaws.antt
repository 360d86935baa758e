-- K4: what is joined of the positions from 0 to the present one, by what each of them gives. Assumes nothing.
use mathlib.Core.Path.{◌≡◌, refl, ap, ◌∙◌}
use mathlib.Core.Logic.{◌⊎◌, inl, inr, ⊎_elim}
use mathlib.Core.Bool.{Bool, true, false, not}
use Prim.Native.Nat.{ℕ, zero, suc, ◌≤◌, ◌<◌}
use native.Mathlib.Nat.{eq-or-lt_of_le}
use native.Mathlib.Omega.{arith}
use Rattle.bmap.specs.declared.Junction.{Junction}
use Rattle.bmap.specs.declared.Junction.TheVariants.{And, Or}
use Rattle.bmap.specs.declared.Reason.{Reason}
use Rattle.bmap.specs.Number.{Valued, value, no_value, with2, join}
use Rattle.bmap.specs.Meaning.{up_to, eval_c}
use Rattle.bmap.specs.Theorems.{LookBackRead}

-- what is joined has a value only where both sides have one
record Sides (o : Junction) (v w : Valued Bool) (b : Bool) : Type 0 where
  left : Bool
  right : Bool
  is_left : v ≡ value left
  is_right : w ≡ value right
  joins : join o left right ≡ b

sides : (o : Junction) (v w : Valued Bool) (b : Bool) → with2 (λ x y. value (join o x y)) v w ≡ value b → Sides o v w b
sides o (no_value why) w b e = absurd cc
sides o (value x) (no_value why) b e = absurd cc
sides o (value x) (value y) b e = record { left = x; right = y; is_left = refl; is_right = refl; joins = cc }

-- what a junction gives where both sides give it, and only there; the other it gives where one side does
abbrev neutral : Junction → Bool
neutral And = true
neutral Or = false

both_neutral : (o : Junction) (x y : Bool) → join o x y ≡ neutral o → (x ≡ neutral o) × (y ≡ neutral o)
both_neutral And true y e = (refl, e)
both_neutral And false y e = absurd cc
both_neutral Or true y e = absurd cc
both_neutral Or false y e = (refl, e)

of_neutral : (o : Junction) → join o (neutral o) (neutral o) ≡ neutral o
of_neutral And = refl
of_neutral Or = refl

one_side : (o : Junction) (x y : Bool) → join o x y ≡ not (neutral o) → (x ≡ not (neutral o)) ⊎ (y ≡ not (neutral o))
one_side And true y e = inr e
one_side And false y e = inl refl
one_side Or true y e = inl refl
one_side Or false y e = inr e

left_side : (o : Junction) (y : Bool) → join o (not (neutral o)) y ≡ not (neutral o)
left_side And y = refl
left_side Or y = refl

right_side : (o : Junction) (x : Bool) → join o x (not (neutral o)) ≡ not (neutral o)
right_side And true = refl
right_side And false = refl
right_side Or true = refl
right_side Or false = refl

module _ (at : ℕ → Valued Bool) where
  abbrev HasValue : ℕ → Type 0
  HasValue i = (b : Bool) × (at i ≡ value b)

  -- at the last position, or at one before it
  last_or_before : {P : ℕ → Type 0} (j : ℕ) → P (suc j) → ((i : ℕ) → i ≤ j → P i) → (i : ℕ) → i ≤ suc j → P i
  last_or_before {P} j last before i le = ⊎_elim (λ (e : i ≡ suc j). rw e last) (λ lt. before i (omega arith)) (eq-or-lt_of_le le)

  all_values : (o : Junction) (j : ℕ) (b : Bool) → up_to o at j ≡ value b → (i : ℕ) → i ≤ j → HasValue i
  unfolding up_to
  all_values o zero b e i le = let z : i ≡ 0 = omega arith in (b, rw z e)
  all_values o (suc j) b e i le =
      let s = sides o (up_to o at j) (at (suc j)) b e in
      last_or_before {P = HasValue} j (s.right, s.is_right) (λ i le. all_values o j s.left s.is_left i le) i le

  joined_value : (o : Junction) (j : ℕ) → ((i : ℕ) → i ≤ j → HasValue i) → (b : Bool) × (up_to o at j ≡ value b)
  unfolding up_to
  joined_value o zero h = h 0 (omega arith)
  joined_value o (suc j) h =
      let before = joined_value o j (λ i le. h i (omega arith)) in
      let last = h (suc j) (omega arith) in
      (join o before.0 last.0, rw (before.1, last.1))

  module _ (o : Junction) where
    -- at every position
    to_every : (j : ℕ) → up_to o at j ≡ value (neutral o) → (i : ℕ) → i ≤ j → at i ≡ value (neutral o)
    unfolding up_to
    to_every zero e i le = let z : i ≡ 0 = omega arith in rw z e
    to_every (suc j) e i le =
        let s = sides o (up_to o at j) (at (suc j)) (neutral o) e in
        let h = both_neutral o s.left s.right s.joins in
        last_or_before {P = λ i. at i ≡ value (neutral o)} j (s.is_right ∙ ap value h.1) (λ i le. to_every j (s.is_left ∙ ap value h.0) i le) i le

    from_every : (j : ℕ) → ((i : ℕ) → i ≤ j → at i ≡ value (neutral o)) → up_to o at j ≡ value (neutral o)
    unfolding up_to
    from_every zero h = h 0 (omega arith)
    from_every (suc j) h = rw (from_every j (λ i le. h i (omega arith)), h (suc j) (omega arith)) (ap value (of_neutral o))

    -- at one or more
    abbrev One : ℕ → Type 0
    One j = (i : ℕ) × (i ≤ j) × (at i ≡ value (not (neutral o)))

    to_one : (j : ℕ) → up_to o at j ≡ value (not (neutral o)) → One j
    unfolding up_to
    to_one zero e = (0, omega arith, e)
    to_one (suc j) e =
        let s = sides o (up_to o at j) (at (suc j)) (not (neutral o)) e in
        ⊎_elim
        (λ x. let p = to_one j (s.is_left ∙ ap value x) in (p.0, omega (arith, p.1), p.2))
        (λ y. (suc j, omega arith, s.is_right ∙ ap value y))
        (one_side o s.left s.right s.joins)

    from_one : (j i : ℕ) → i ≤ j → at i ≡ value (not (neutral o)) → ((k : ℕ) → k ≤ j → HasValue k) → up_to o at j ≡ value (not (neutral o))
    unfolding up_to
    from_one zero i le e h = let z : 0 ≡ i = omega arith in rw z e
    from_one (suc j) i le e h = ⊎_elim
        (λ (z : i ≡ suc j). let before = joined_value o j (λ k w. h k (omega arith)) in let last : at (suc j) ≡ value (not (neutral o)) = rw (← z) e in rw (before.1, last) (ap value (right_side o before.0)))
        (λ lt. let last = h (suc j) (omega arith) in rw (from_one j i (omega arith) e (λ k w. h k (omega arith)), last.1) (ap value (left_side o last.0)))
        (eq-or-lt_of_le le)

  -- without value: the earliest position's reason
  module _ (o : Junction) (why : Reason) where
    abbrev First : ℕ → Type 0
    First j = (i : ℕ) × (i ≤ j) × (at i ≡ no_value why) × ((k : ℕ) → k < i → HasValue k)

    first_lacks : (j : ℕ) (v w : Valued Bool) → up_to o at j ≡ v → at (suc j) ≡ w → with2 (λ x y. value (join o x y)) v w ≡ no_value why → (up_to o at j ≡ no_value why → First j) → First (suc j)
    first_lacks j (no_value r) w u l h before = let p = before (u ∙ h) in (p.0, omega (arith, p.1), p.2, p.3)
    first_lacks j (value x) (no_value r) u l h before = (suc j, omega arith, l ∙ h, λ k lt. all_values o j x u k (omega arith))
    first_lacks j (value x) (value y) u l h before = absurd cc

    earliest : (j : ℕ) → up_to o at j ≡ no_value why → First j
    unfolding up_to
    earliest zero e = (0, omega arith, e, λ k lt. absurd (omega arith))
    earliest (suc j) e = first_lacks j (up_to o at j) (at (suc j)) refl refl e (λ u. earliest j u)

    from_earliest : (j i : ℕ) → i ≤ j → at i ≡ no_value why → ((k : ℕ) → k < i → HasValue k) → up_to o at j ≡ no_value why
    unfolding up_to
    from_earliest zero i le e h = let z : 0 ≡ i = omega arith in rw z e
    from_earliest (suc j) i le e h = ⊎_elim
        (λ (z : i ≡ suc j). let before = joined_value o j (λ k w. h k (omega arith)) in let last : at (suc j) ≡ no_value why = rw (← z) e in rw (before.1, last))
        (λ lt. rw (from_earliest j i (omega arith) e h))
        (eq-or-lt_of_le le)

  -- one without a value leaves the whole without
  without : (o : Junction) (j i : ℕ) (why : Reason) → i ≤ j → at i ≡ no_value why → (r : Reason) × (up_to o at j ≡ no_value r)
  without o j i why le e = go (up_to o at j) refl
    where
      go : (v : Valued Bool) → up_to o at j ≡ v → (r : Reason) × (up_to o at j ≡ no_value r)
      go (no_value r) u = (r, u)
      go (value b) u = absurd (let p = all_values o j b u i le in let z : ◌≡◌ {A = ℕ} 0 1 = cc (e, p.1) in omega arith)

pub look_back_read : LookBackRead
unfolding eval_c
look_back_read c h j =
    let at : ℕ → Valued Bool = λ i. eval_c c h i in
    record {
      every = (to_every at And j, from_every at And j);
      not_every = (
        λ e. let p = to_one at And j e in record { position = p.0; so_far = p.1; gives = p.2; values = all_values at And j false e },
        λ p. from_one at And j p.position p.so_far p.gives p.values,
      );
      one_or_more = (
        λ e. let p = to_one at Or j e in record { position = p.0; so_far = p.1; gives = p.2; values = all_values at Or j true e },
        λ p. from_one at Or j p.position p.so_far p.gives p.values,
      );
      none = (to_every at Or j, from_every at Or j);
      without = λ o i why le e. without at o j i why le e;
      lacks = λ o why. (
        λ e. let p = earliest at o why j e in record { position = p.0; so_far = p.1; lacks = p.2; before = p.3 },
        λ p. from_earliest at o why j p.position p.so_far p.lacks p.before,
      );
    }
