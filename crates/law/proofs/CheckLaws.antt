-- The checker's answer for a tree, by its answers for the operands.
use mathlib.Core.Path.{◌≡◌, refl, sym, ap, ◌∙◌}
use mathlib.Core.Bool.{Bool, true, false}
use mathlib.Core.List.{List}
use mathlib.Core.Option.{Option, none, some}
use Prim.Native.Nat.{ℕ, zero, suc, ◌+◌, ◌-◌, ◌≤◌, ◌<◌}
use native.Mathlib.Nat.{add_assoc}
use native.Mathlib.Omega.{arith}
use borrow.Author.Tests.{eqb-true, eqb-false}
use lib.Dec.{eqb}
use lib.ListN.{length, take, drop, get_or}
use lib.Seq.{drop-drop, length-take-le, get_or-take}
use Rattle.bmap.specs.declared.Operation.{Operation}
use Rattle.bmap.specs.declared.Single.{Single}
use Rattle.bmap.specs.declared.Comparison.{Comparison}
use Rattle.bmap.specs.declared.Junction.{Junction}
use Rattle.bmap.specs.Plain.{both, all, if_else}
use Rattle.bmap.specs.Refusal.{Answer, got, refused, need}
use Rattle.bmap.specs.Number.{signed_word}
use Rattle.bmap.specs.Tree.{Expr, Con, constant, fluent, two, one, reified, compared, joined, negated, occurs, always, look_back, allowed_e, allowed_c, named_e, named_c}
use Rattle.bmap.proofs.PlainLaws.{all_append}
use Rattle.bmap.specs.Code.{Code, Parsed, Parser, code_of, made, second, operands, two_bytes, parse_e, parse_c}
use Rattle.bmap.specs.Domain.{has}
use Rattle.law.specs.declared.table.Node.TheVariants.{Expression, Constraint}
use Rattle.std.specs.Prelude.{Option as Maybe, None, Some, is_some}
use Rattle.law.specs.Table.{opened, pair_of, follows_in, operator_in, looks_back_in, operation_at, single_at, comparison_at, junction_at, look_back_at}
use Rattle.law.specs.Names.{names_only}
use Rattle.law.specs.Check.{Test, allowed, in_mask, checked_of, next_of, end_of, passes_e, passes_c, may_back, back_at, leaf_in}
use Rattle.law.proofs.Trees.{at_constant, at_fluent, at_reified, at_one, at_two, at_truth, at_occurrence, at_negation, at_look_back, at_junction, at_comparison, pair_short, pair_long, no_pair, a_pair}

-- A tree passes where its operands do.
pub passes_constant : (t : Test) (hi lo : ℕ) → passes_e t (constant (signed_word hi lo)) ≡ true
unfolding allowed_e named_e all
passes_constant (allowed x) hi lo = refl
passes_constant (in_mask m) hi lo = refl

passes_two : (t : Test) (o : Operation) (a b : Expr) → passes_e t (two o a b) ≡ both (passes_e t a) (passes_e t b)
unfolding allowed_e named_e
passes_two (allowed x) o a b = refl
passes_two (in_mask m) o a b = all_append (has m) (named_e a) (named_e b)

passes_one : (t : Test) (o : Single) (a : Expr) → passes_e t (one o a) ≡ passes_e t a
unfolding allowed_e named_e
passes_one (allowed x) o a = refl
passes_one (in_mask m) o a = refl

passes_reified : (t : Test) (a : Con) → passes_e t (reified a) ≡ passes_c t a
unfolding allowed_e named_e
passes_reified (allowed x) a = refl
passes_reified (in_mask m) a = refl

passes_compared : (t : Test) (o : Comparison) (a b : Expr) → passes_c t (compared o a b) ≡ both (passes_e t a) (passes_e t b)
unfolding allowed_c named_c
passes_compared (allowed x) o a b = refl
passes_compared (in_mask m) o a b = all_append (has m) (named_e a) (named_e b)

passes_joined : (t : Test) (o : Junction) (a b : Con) → passes_c t (joined o a b) ≡ both (passes_c t a) (passes_c t b)
unfolding allowed_c named_c
passes_joined (allowed x) o a b = refl
passes_joined (in_mask m) o a b = all_append (has m) (named_c a) (named_c b)

passes_negated : (t : Test) (a : Con) → passes_c t (negated a) ≡ passes_c t a
unfolding allowed_c named_c
passes_negated (allowed x) a = refl
passes_negated (in_mask m) a = refl

passes_always : (t : Test) → passes_c t always ≡ true
unfolding allowed_c named_c all
passes_always (allowed x) = refl
passes_always (in_mask m) = refl

passes_look_back : (t : Test) (o : Junction) (a : Con) → passes_c t (look_back o a) ≡ both (may_back t) (passes_c (back_at t) a)
unfolding allowed_c named_c
passes_look_back (allowed x) o a = refl
passes_look_back (in_mask m) o a = refl

-- One operand, and two.
module _ {T A : Type 0} (okA : A → Bool) (okT : T → Bool) where
  one_checked : (make : A → T) → ((a : A) → okT (make a) ≡ okA a) → (at k : ℕ) (o : Option (Parsed A)) → end_of okA (at + k) o ≡ end_of okT at (made make k o)
  one_checked make h at k none = refl
  one_checked make h at k (some p) = rw (h p.tree, add_assoc at k p.used)

  one_refused : (make : A → T) → ((a : A) → okT (make a) ≡ false) → (at k : ℕ) (o : Option (Parsed A)) → refused 4 ≡ end_of okT at (made make k o)
  one_refused make h at k none = refl
  one_refused make h at k (some p) = rw (h p.tree)

  module _ (make : A → A → T) (h : (a b : A) → okT (make a b) ≡ both (okA a) (okA b)) (pa : Parser A) (s : List ℕ) (at : ℕ) where
    abbrev after : Answer ℕ → Answer ℕ
    after (refused n) = refused n
    after (got m) = end_of okA m (pa (drop m s))

    two_checked : (o : Option (Parsed A)) → after (end_of okA (at + 1) o) ≡ end_of okT at (second make pa (drop (at + 1) s) o)
    two_checked none = refl
    two_checked (some p) = go (okA p.tree) refl
      where
        go : (b : Bool) → okA p.tree ≡ b → after (need b 4 (got (at + 1 + p.used))) ≡ end_of okT at (made (make p.tree) (1 + p.used) (pa (drop p.used (drop (at + 1) s))))
        go false f = one_refused (make p.tree) (λ b. rw (h p.tree b, f)) at (1 + p.used) (pa (drop p.used (drop (at + 1) s)))
        go true f =
            rw (drop-drop p.used (at + 1) s, add_assoc at 1 p.used)
            (one_checked (make p.tree) (λ b. rw (h p.tree b, f)) at (1 + p.used) (pa (drop (at + (1 + p.used)) s)))

    pub first_refused : refused 4 ≡ end_of okA (at + 1) (pa (drop (at + 1) s)) → refused 4 ≡ end_of okT at (operands make pa (drop (at + 1) s))
    first_refused e = ap after e ∙ two_checked (pa (drop (at + 1) s))

    pub then_second : {m : ℕ} → got m ≡ end_of okA (at + 1) (pa (drop (at + 1) s)) → end_of okA m (pa (drop m s)) ≡ end_of okT at (operands make pa (drop (at + 1) s))
    then_second e = ap after e ∙ two_checked (pa (drop (at + 1) s))

-- no tree ends at 0
pub nowhere : {n : ℕ} → n ≡ 0 → refused 4 ≡ next_of n
nowhere e = rw e

pub there : (n : ℕ) → (n ≡ 0 → ⊥) → got n ≡ next_of n
there zero h = absurd (h refl)
there (suc n) h = refl

past : (at k : ℕ) → 1 ≤ k → next_of (at + k) ≡ got (at + k)
past at k h = sym (there (at + k) (λ e. omega arith))

-- no tree is refused
pub no_tree : {T : Type 0} (ok : T → Bool) (at : ℕ) {o : Option (Parsed T)} → o ≡ none → refused 4 ≡ end_of ok at o
no_tree ok at e = rw e

-- The leaves.
module _ {T : Type 0} (ok : T → Bool) (make : ℕ → ℕ → T) (s : List ℕ) (at : ℕ) where
  pub leaf_short : None ≡ pair_of (drop (at + 1) s) → refused 4 ≡ end_of ok at (two_bytes make (drop (at + 1) s))
  leaf_short e = no_tree ok at (no_pair make (drop (at + 1) s) e)

  module _ {a b : ℕ} (e : Some (a, b) ≡ pair_of (drop (at + 1) s)) where
    pub leaf_passes : ok (make a b) ≡ true → next_of (at + 3) ≡ end_of ok at (two_bytes make (drop (at + 1) s))
    leaf_passes h = rw (a_pair make (drop (at + 1) s) e, h) (past at 3 (omega arith))

    pub leaf_fails : ok (make a b) ≡ false → refused 4 ≡ end_of ok at (two_bytes make (drop (at + 1) s))
    leaf_fails h = rw (a_pair make (drop (at + 1) s) e, h)

-- The first n bytes of an array.
module _ (s : List ℕ) (n : ℕ) (le : n ≤ length s) where
  pub as_long : length (take n s) ≡ n
  as_long = length-take-le n s le

  pub inside : {at : ℕ} → at < n → at < length (take n s)
  inside h = rw as_long h

  pub outside : {at : ℕ} → n ≤ at → length (take n s) ≤ at
  outside h = rw as_long h

  pub code_at : {A : Type 0} {x : A} (f : ℕ → A) (at : ℕ) → at < n → x ≡ f (get_or s at 0) → x ≡ f (get_or (take n s) at 0)
  code_at f at h e = e ∙ ap f (sym (get_or-take n s at 0 h))

  -- a leaf there
  module _ {T : Type 0} (ok : T → Bool) (make : ℕ → ℕ → T) (at : ℕ) where
    pub pair_ends : n - at < 3 → refused 4 ≡ end_of ok at (two_bytes make (drop (at + 1) (take n s)))
    pair_ends h = leaf_short ok make (take n s) at (pair_short (take n s) at (rw as_long h))

    module _ (h : 3 ≤ n - at) where
      bytes : Some (get_or s (at + 1) 0, get_or s (at + 2) 0) ≡ pair_of (drop (at + 1) (take n s))
      bytes = rw (← get_or-take n s (at + 1) 0 (omega arith), ← get_or-take n s (at + 2) 0 (omega arith)) (pair_long (take n s) at (rw as_long h))

      pub pair_passes_lem : ok (make (get_or s (at + 1) 0) (get_or s (at + 2) 0)) ≡ true → next_of (at + 3) ≡ end_of ok at (two_bytes make (drop (at + 1) (take n s)))
      pair_passes_lem e = leaf_passes ok make (take n s) at bytes e

      pub pair_fails : ok (make (get_or s (at + 1) 0) (get_or s (at + 2) 0)) ≡ false → refused 4 ≡ end_of ok at (two_bytes make (drop (at + 1) (take n s)))
      pair_fails e = leaf_fails ok make (take n s) at bytes e

-- The tree at a place, by its code.
module _ (t : Test) (s : List ℕ) (at d : ℕ) (ne : d ≡ 0 → ⊥) (lt : at < length s) where
  abbrev code : Code
  code = code_of (get_or s at 0)

  abbrev whole_e : Answer ℕ
  whole_e = end_of (passes_e t) at (parse_e d (drop at s))

  abbrev part_e : ℕ → Answer ℕ
  part_e m = end_of (passes_e t) m (parse_e (d - 1) (drop m s))

  abbrev whole_c : Answer ℕ
  whole_c = end_of (passes_c t) at (parse_c d (drop at s))

  abbrev part_c : ℕ → Answer ℕ
  part_c m = end_of (passes_c t) m (parse_c (d - 1) (drop m s))

  module _ {row : ℕ} (p : Expression row ≡ opened code) where
    pub check_leaf : follows_in row ≡ 9 → end_of (passes_e t) at (two_bytes (leaf_in row) (drop (at + 1) s)) ≡ whole_e
    check_leaf q = go (eqb (operator_in row) 0) refl
      where
        by : Bool → Answer ℕ
        by b = end_of (passes_e t) at (two_bytes (λ x y. if_else b (constant (signed_word x y)) (fluent x y)) (drop (at + 1) s))

        go : (b : Bool) → eqb (operator_in row) 0 ≡ b → by b ≡ whole_e
        go true e = rw (at_constant s at d ne lt p q (eqb-true (operator_in row) 0 e))
        go false e = rw (at_fluent s at d ne lt p q (eqb-false (operator_in row) 0 e))

    pub check_reified : follows_in row ≡ 7 → part_c (at + 1) ≡ whole_e
    check_reified q = rw (at_reified s at d ne lt p q) (one_checked (passes_c t) (passes_e t) reified (passes_reified t) at 1 (parse_c (d - 1) (drop (at + 1) s)))

    abbrev single : Single
    single = single_at (operator_in row)

    pub check_one : follows_in row ≡ 6 → part_e (at + 1) ≡ whole_e
    check_one q = rw (at_one s at d ne lt p q) (one_checked (passes_e t) (passes_e t) (one single) (passes_one t single) at 1 (parse_e (d - 1) (drop (at + 1) s)))

    module _ (q : follows_in row ≡ 9 → ⊥) (r : follows_in row ≡ 7 → ⊥) (n : follows_in row ≡ 6 → ⊥) where
      abbrev operation : Operation
      operation = operation_at (operator_in row)

      pub check_two : {m : ℕ} → got m ≡ part_e (at + 1) → part_e m ≡ whole_e
      check_two e = rw (at_two s at d ne lt p q r n) (then_second (passes_e t) (passes_e t) (two operation) (passes_two t operation) (parse_e (d - 1)) s at e)

      pub check_first : refused 4 ≡ part_e (at + 1) → refused 4 ≡ whole_e
      check_first e = rw (at_two s at d ne lt p q r n) (first_refused (passes_e t) (passes_e t) (two operation) (passes_two t operation) (parse_e (d - 1)) s at e)

  module _ {row : ℕ} (p : Constraint row ≡ opened code) where
    abbrev comparison : Comparison
    comparison = comparison_at (operator_in row)

    pub check_compared : {m : ℕ} → follows_in row ≡ 10 → got m ≡ part_e (at + 1) → part_e m ≡ whole_c
    check_compared q e = rw (at_comparison s at d ne lt p q) (then_second (passes_e t) (passes_c t) (compared comparison) (passes_compared t comparison) (parse_e (d - 1)) s at e)

    pub check_first_e : follows_in row ≡ 10 → refused 4 ≡ part_e (at + 1) → refused 4 ≡ whole_c
    check_first_e q e = rw (at_comparison s at d ne lt p q) (first_refused (passes_e t) (passes_c t) (compared comparison) (passes_compared t comparison) (parse_e (d - 1)) s at e)

    pub check_occurrence : follows_in row ≡ 9 → end_of (passes_c t) at (two_bytes occurs (drop (at + 1) s)) ≡ whole_c
    check_occurrence q = rw (at_occurrence s at d ne lt p q)

    pub check_truth : follows_in row ≡ 0 → next_of (at + 1) ≡ whole_c
    check_truth n = rw (at_truth s at d ne lt p n, passes_always t) (past at 1 (omega arith))

    pub check_negation : follows_in row ≡ 7 → looks_back_in row ≡ false → part_c (at + 1) ≡ whole_c
    check_negation q r = rw (at_negation s at d ne lt p q r) (one_checked (passes_c t) (passes_c t) negated (passes_negated t) at 1 (parse_c (d - 1) (drop (at + 1) s)))

    -- "Neither may stand inside the other or itself"
    module _ (r : looks_back_in row ≡ true) where
      abbrev over : Junction
      over = look_back_at (operator_in row)

      pub check_look_back : may_back t ≡ true → end_of (passes_c (back_at t)) (at + 1) (parse_c (d - 1) (drop (at + 1) s)) ≡ whole_c
      check_look_back b = rw (at_look_back s at d ne lt p r) (one_checked (passes_c (back_at t)) (passes_c t) (look_back over) (λ a. rw (passes_look_back t over a, b)) at 1 (parse_c (d - 1) (drop (at + 1) s)))

      pub check_barred : may_back t ≡ false → refused 4 ≡ whole_c
      check_barred b = rw (at_look_back s at d ne lt p r) (one_refused (passes_c t) (passes_c t) (look_back over) (λ a. rw (passes_look_back t over a, b)) at 1 (parse_c (d - 1) (drop (at + 1) s)))

    module _ (q : follows_in row ≡ 10 → ⊥) (r : follows_in row ≡ 9 → ⊥) (m : follows_in row ≡ 0 → ⊥) (n : follows_in row ≡ 7 → ⊥) where
      abbrev junction : Junction
      junction = junction_at (operator_in row)

      pub check_junction : {k : ℕ} → got k ≡ part_c (at + 1) → part_c k ≡ whole_c
      check_junction e = rw (at_junction s at d ne lt p q r m n) (then_second (passes_c t) (passes_c t) (joined junction) (passes_joined t junction) (parse_c (d - 1)) s at e)

      pub check_first_c : refused 4 ≡ part_c (at + 1) → refused 4 ≡ whole_c
      check_first_c e = rw (at_junction s at d ne lt p q r m n) (first_refused (passes_c t) (passes_c t) (joined junction) (passes_joined t junction) (parse_c (d - 1)) s at e)

-- What the place after a tree says of the fluents that it names.
pub names_known : (mask at : ℕ) (r : Maybe ℕ) (o : Option (Parsed Con)) → checked_of r ≡ end_of (passes_c (in_mask mask)) at o → is_some r ≡ names_only mask o
names_known mask at None none e = refl
names_known mask at (Some n) none e = cc
names_known mask at r (some p) e = go r (passes_c (in_mask mask) p.tree) e
  where
    go : (r : Maybe ℕ) (b : Bool) → checked_of r ≡ need b 4 (got (at + p.used)) → is_some r ≡ b
    go None true e = cc
    go None false e = refl
    go (Some n) true e = refl
    go (Some n) false e = cc
