-- The checker of either sort of tree, by the row of its code.
use mathlib.Core.Path.{◌≡◌, refl, sym, ◌∙◌}
use mathlib.Core.Bool.{Bool, true, false}
use mathlib.Core.List.{List}
use Prim.Native.Nat.{ℕ, ◌+◌, ◌-◌, ◌/◌, ◌≤◌, ◌<◌}
use native.Mathlib.Omega.{arith}
use borrow.Author.Tests.{eqb-true, eqb-false}
use lib.Dec.{eqb}
use lib.ListN.{length, drop, get_or}
use Rattle.bmap.specs.Refusal.{got, refused}
use Rattle.bmap.specs.Tree.{occurs}
use Rattle.bmap.specs.Code.{Code, expression, constraint, no_code, code_of}
use Rattle.law.specs.declared.table.Node.TheVariants.{Expression, Constraint}
use Rattle.std.specs.Prelude.{None, Some}
use Rattle.law.specs.Table.{follows_in, sort_in, count_in, looks_back_in, opened, pair_of}
use Rattle.law.specs.Check.{Test, passes_e, passes_c, may_back, back_at, leaf_in, tree_end, row_for, pair_passes}
use Rattle.law.proofs.Trees.{expression_by, constraint_by, deep_e, deep_c, end_e, end_c, no_expression, no_constraint, never_back}
use Rattle.law.proofs.CheckLaws.{there, no_tree, leaf_short, leaf_passes, leaf_fails, check_leaf, check_reified, check_one, check_two, check_first}
use Rattle.law.proofs.CheckLaws.{check_compared, check_first_e, check_occurrence, check_truth, check_negation, check_look_back, check_barred, check_junction, check_first_c}

pub by_test : {A : Type 0} (b : Bool) → (b ≡ true → A) → (b ≡ false → A) → A
by_test true f g = f refl
by_test false f g = g refl

-- What the rows say beside what the tests of the code ask.
module _ {row : ℕ} (c : Code) where
  module _ (p : Expression row ≡ opened c) where
    some_operands : follows_in row ≡ 0 → ⊥
    some_operands m = expression_by c p (λ e f n. omega arith) (λ e f n. omega arith) (λ o e f n. omega arith) (λ o e f n. omega arith) (λ e f n. omega arith)

    one_constraint : sort_in row ≡ 3 → count_in row ≡ 1
    one_constraint q = expression_by c p (λ e f n. absurd (omega arith)) (λ e f n. absurd (omega arith)) (λ o e f n. absurd (omega arith)) (λ o e f n. absurd (omega arith)) (λ e f n. omega arith)

    one_expression : (sort_in row ≡ 3 → ⊥) → count_in row ≡ 1 → follows_in row ≡ 6
    one_expression r m = expression_by c p (λ e f n. absurd (omega arith)) (λ e f n. absurd (omega arith)) (λ o e f n. absurd (omega arith)) (λ o e f n. f) (λ e f n. absurd (r (omega arith)))

  module _ (p : Constraint row ≡ opened c) where
    of_constraint : count_in row ≡ 1 → sort_in row ≡ 3
    of_constraint m = constraint_by c p (λ o e f n. absurd (omega arith)) (λ o e f n. absurd (omega arith)) (λ e f n. omega arith) (λ e f n. absurd (omega arith)) (λ e f n. absurd (omega arith)) (λ o e f n. omega arith)

    of_expressions : (follows_in row ≡ 9 → ⊥) → (sort_in row ≡ 3 → ⊥) → (follows_in row ≡ 0 → ⊥) → follows_in row ≡ 10
    of_expressions q r m = constraint_by c p (λ o e f n. f) (λ o e f n. absurd (r (omega arith))) (λ e f n. absurd (r (omega arith))) (λ e f n. absurd (q f)) (λ e f n. absurd (m f)) (λ o e f n. absurd (r (omega arith)))

-- the row of what opens such a tree, or none does
no_row_e : (c : Code) (w : ℕ) → eqb w 3 ≡ false → None ≡ row_for w (opened c) → (x : ℕ) → opened c ≡ Expression x → ⊥
no_row_e (expression c) w f e = λ x z. let q = rw f at e in cc
no_row_e (constraint c) w f e = λ x z. cc
no_row_e no_code w f e = λ x z. cc

no_row_c : (c : Code) (w : ℕ) → eqb w 3 ≡ true → None ≡ row_for w (opened c) → (x : ℕ) → opened c ≡ Constraint x → ⊥
no_row_c (constraint c) w f e = λ x z. let q = rw f at e in cc
no_row_c (expression c) w f e = λ x z. cc
no_row_c no_code w f e = λ x z. cc

row_e : (c : Code) (w : ℕ) {row : ℕ} → eqb w 3 ≡ false → Some row ≡ row_for w (opened c) → Expression row ≡ opened c
row_e (expression c) w f e = let q = rw f at e in cc
row_e (constraint c) w f e = let q = rw f at e in cc
row_e no_code w f e = cc

row_c : (c : Code) (w : ℕ) {row : ℕ} → eqb w 3 ≡ true → Some row ≡ row_for w (opened c) → Constraint row ≡ opened c
row_c (constraint c) w f e = let q = rw f at e in cc
row_c (expression c) w f e = let q = rw f at e in cc
row_c no_code w f e = cc

module _ (w : ℕ) (t : Test) (s : List ℕ) (at d : ℕ) where
  pub long_deep : d ≡ 0 → refused 4 ≡ tree_end w t d s at
  long_deep z = by_test (eqb w 3) (λ f. rw f (no_tree (passes_c t) at (deep_c s at d z))) (λ f. rw f (no_tree (passes_e t) at (deep_e s at d z)))

  pub long_end : length s ≤ at → refused 4 ≡ tree_end w t d s at
  long_end h = by_test (eqb w 3) (λ f. rw f (no_tree (passes_c t) at (end_c s at d h))) (λ f. rw f (no_tree (passes_e t) at (end_e s at d h)))

  module _ (ne : d ≡ 0 → ⊥) (lt : at < length s) where
    abbrev code : Code
    code = code_of (get_or s at 0)

    pub long_none : None ≡ row_for w (opened (code_of (get_or s at 0))) → refused 4 ≡ tree_end w t d s at
    long_none e = by_test (eqb w 3)
        (λ f. rw f (no_tree (passes_c t) at (no_constraint s at d ne lt (opened code) refl (no_row_c code w f e))))
        (λ f. rw f (no_tree (passes_e t) at (no_expression s at d ne lt (opened code) refl (no_row_e code w f e))))

    module _ {row : ℕ} (e : Some row ≡ row_for w (opened (code_of (get_or s at 0)))) where
      con : eqb w 3 ≡ true → Constraint row ≡ opened code
      con f = row_c code w f e

      expr : eqb w 3 ≡ false → Expression row ≡ opened code
      expr f = row_e code w f e

      pub long_truth : follows_in row ≡ 0 → got (at + 1) ≡ tree_end w t d s at
      long_truth n = by_test (eqb w 3) (λ f. rw f (there (at + 1) (λ z. omega arith) ∙ check_truth t s at d ne lt (con f) n)) (λ f. absurd (some_operands code (expr f) n))

      -- a leaf
      module _ (q : follows_in row ≡ 9) where
        pub long_short : None ≡ pair_of (drop (at + 1) s) → refused 4 ≡ tree_end w t d s at
        long_short p = by_test (eqb w 3)
            (λ f. rw f (leaf_short (passes_c t) occurs s at p ∙ check_occurrence t s at d ne lt (con f) q))
            (λ f. rw f (leaf_short (passes_e t) (leaf_in row) s at p ∙ check_leaf t s at d ne lt (expr f) q))

        module _ {a b : ℕ} (p : Some (a, b) ≡ pair_of (drop (at + 1) s)) where
          pub long_passes : pair_passes w t row a b ≡ true → got (at + 3) ≡ tree_end w t d s at
          long_passes h = by_test (eqb w 3)
              (λ f. rw f (there (at + 3) (λ z. omega arith) ∙ leaf_passes (passes_c t) occurs s at p (rw f at h) ∙ check_occurrence t s at d ne lt (con f) q))
              (λ f. rw f (there (at + 3) (λ z. omega arith) ∙ leaf_passes (passes_e t) (leaf_in row) s at p (rw f at h) ∙ check_leaf t s at d ne lt (expr f) q))

          pub long_fails : pair_passes w t row a b ≡ false → refused 4 ≡ tree_end w t d s at
          long_fails h = by_test (eqb w 3)
              (λ f. rw f (leaf_fails (passes_c t) occurs s at p (rw f at h) ∙ check_occurrence t s at d ne lt (con f) q))
              (λ f. rw f (leaf_fails (passes_e t) (leaf_in row) s at p (rw f at h) ∙ check_leaf t s at d ne lt (expr f) q))

      -- 2B and 2C
      module _ (b : looks_back_in row ≡ true) where
        pub long_back : may_back t ≡ true → tree_end 3 (back_at t) (d - 1) s (at + 1) ≡ tree_end w t d s at
        long_back h = by_test (eqb w 3) (λ f. rw f (check_look_back t s at d ne lt (con f) b h)) (λ f. absurd (never_back code (expr f) b))

        pub long_barred : may_back t ≡ false → refused 4 ≡ tree_end w t d s at
        long_barred h = by_test (eqb w 3) (λ f. rw f (check_barred t s at d ne lt (con f) b h)) (λ f. absurd (never_back code (expr f) b))

      -- operands of the sort k
      module _ {k : ℕ} (sort : k ≡ sort_in row) where
        constraints : eqb k 3 ≡ true → sort_in row ≡ 3
        constraints g = sym sort ∙ eqb-true k 3 g

        others : eqb k 3 ≡ false → sort_in row ≡ 3 → ⊥
        others g z = eqb-false k 3 g (sort ∙ z)

        one_of : eqb k 3 ≡ true → count_in row ≡ 1 → follows_in row ≡ 7
        one_of g n = omega (arith, constraints g)

        pub long_one : looks_back_in row ≡ false → count_in row ≡ 1 → tree_end k t (d - 1) s (at + 1) ≡ tree_end w t d s at
        long_one b n = by_test (eqb w 3)
            (λ f. by_test (eqb k 3)
            (λ g. rw (f, g) (check_negation t s at d ne lt (con f) (one_of g n) b))
            (λ g. absurd (others g (of_constraint code (con f) n))))
            (λ f. by_test (eqb k 3)
            (λ g. rw (f, g) (check_reified t s at d ne lt (expr f) (one_of g n)))
            (λ g. rw (f, g) (check_one t s at d ne lt (expr f) (one_expression code (expr f) (others g) n))))

        module _ (m : follows_in row ≡ 0 → ⊥) (q : follows_in row ≡ 9 → ⊥) (n : count_in row ≡ 1 → ⊥) where
          no_expressions : eqb k 3 ≡ true → follows_in row ≡ 10 → ⊥
          no_expressions g z = omega (arith, constraints g)

          not_one : (x : ℕ) → x / 4 ≡ 1 → follows_in row ≡ x → ⊥
          not_one x e z = n (omega arith)

          no_constraints : eqb k 3 ≡ false → follows_in row ≡ 7 → ⊥
          no_constraints g z = others g (omega arith)

          pub long_two : {next : ℕ} → got next ≡ tree_end k t (d - 1) s (at + 1) → tree_end k t (d - 1) s next ≡ tree_end w t d s at
          long_two h = by_test (eqb w 3)
              (λ f. by_test (eqb k 3)
              (λ g. rw (f, g) (check_junction t s at d ne lt (con f) (no_expressions g) q m (not_one 7 refl) (rw g at h)))
              (λ g. rw (f, g) (check_compared t s at d ne lt (con f) (of_expressions code (con f) q (others g) m) (rw g at h))))
              (λ f. by_test (eqb k 3)
              (λ g. absurd (n (one_constraint code (expr f) (constraints g))))
              (λ g. rw (f, g) (check_two t s at d ne lt (expr f) q (no_constraints g) (not_one 6 refl) (rw g at h))))

          pub long_first : refused 4 ≡ tree_end k t (d - 1) s (at + 1) → refused 4 ≡ tree_end w t d s at
          long_first h = by_test (eqb w 3)
              (λ f. by_test (eqb k 3)
              (λ g. rw f (check_first_c t s at d ne lt (con f) (no_expressions g) q m (not_one 7 refl) (rw g at h)))
              (λ g. rw f (check_first_e t s at d ne lt (con f) (of_expressions code (con f) q (others g) m) (rw g at h))))
              (λ f. by_test (eqb k 3)
              (λ g. absurd (n (one_constraint code (expr f) (constraints g))))
              (λ g. rw f (check_first t s at d ne lt (expr f) q (no_constraints g) (not_one 6 refl) (rw g at h))))
