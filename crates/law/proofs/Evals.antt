-- What a tree gives, by what its operands give.
use mathlib.Core.Path.{◌≡◌, refl, sym, ap, ◌∙◌}
use mathlib.Core.Bool.{Bool, true, false, not}
use mathlib.Core.List.{List, [], ◌∷◌}
use mathlib.Core.Option.{Option, none, some}
use Prim.Native.Nat.{ℕ, zero, suc, ◌+◌, ◌-◌, ◌<◌}
use native.Mathlib.Nat.{add_assoc}
use native.Mathlib.Numerals.{add-one}
use native.Mathlib.Decide.{ℕ_discrete}
use borrow.Author.Tests.{eq-eqb, ne_eqb}
use lib.Dec.{leb}
use lib.IntN.{ℤ}
use lib.ListN.{length, drop, get_or}
use lib.Seq.{drop-drop}
use Rattle.bmap.specs.declared.Junction.{Junction}
use Rattle.bmap.specs.Plain.{both}
use Rattle.bmap.specs.Number.{Valued, value, with1, with2, operate, change, compare, join, flag, signed_word}
use Rattle.bmap.specs.Tree.{Expr, Con, constant, fluent, two, one, reified, compared, joined, negated, occurs, look_back}
use Rattle.bmap.specs.Meaning.{up_to, eval_e, eval_c}
use Rattle.bmap.specs.Code.{Code, Parsed, Parser, code_of, made, second, operand, operands, two_bytes, parse_e, parse_c}
use Rattle.law.specs.declared.table.Node.TheVariants.{Expression, Constraint}
use Rattle.law.specs.Table.{opened, follows_in, operator_in, looks_back_in, operation_at, single_at, comparison_at, junction_at, look_back_at}
use Rattle.law.specs.Evaluate.{Meant, malformed, gives, meant, onward, cell_at, in_step, leaf_of, history_of, value_at, truth_at, so_far_at}
use Rattle.law.specs.Packed.{end_in, truth_in, placed, judged_in}
use Rattle.law.proofs.PackedLaws.{placed_value}
use Rattle.law.proofs.Trees.{at_constant, at_fluent, at_reified, at_one, at_two, at_truth, at_occurrence, at_negation, at_look_back, at_junction, at_comparison, pair_short, no_pair}

-- The leaves.
module _ {A : Type 0} (make : ℕ → ℕ → A) (s : List ℕ) (at : ℕ) where
  pub leaf_none : length s - at < 3 → malformed ≡ meant (λ v. v) at (two_bytes make (drop (at + 1) s))
  leaf_none h = rw (no_pair make (drop (at + 1) s) (pair_short s at h))

leaf_meant : {T A : Type 0} (f : T → A) (make : ℕ → ℕ → T) (at : ℕ) (l : List ℕ) → meant (λ v. v) at (two_bytes (λ a b. f (make a b)) l) ≡ meant f at (two_bytes make l)
leaf_meant f make at [] = refl
leaf_meant f make at (a ∷ []) = refl
leaf_meant f make at (a ∷ b ∷ l) = refl

leaf_same : {A : Type 0} (f g : ℕ → ℕ → A) → ((a b : ℕ) → f a b ≡ g a b) → (at : ℕ) (l : List ℕ) → meant (λ v. v) at (two_bytes f l) ≡ meant (λ v. v) at (two_bytes g l)
leaf_same f g h at [] = refl
leaf_same f g h at (a ∷ []) = refl
leaf_same f g h at (a ∷ b ∷ l) = rw (h a b)

-- no tree gives nothing
pub nothing_there : {T A : Type 0} (f : T → A) (at : ℕ) {o : Option (Parsed T)} → o ≡ none → malformed ≡ meant f at o
nothing_there f at e = rw e

-- What an operator makes of a value, placed where the value's tree ends.
module _ {A B : Type 0} (op : A → B) where
  onward_at : (v : A) (n : ℕ) → placed (op v) n ≡ onward op (placed v n)
  onward_at v zero = refl
  onward_at v (suc n) = refl

  pub onward_placed : {v x : A} {w : B} {e n : ℕ} → w ≡ op x → x ≡ v → e ≡ n → placed w e ≡ onward op (placed v n)
  onward_placed {v} {n = n} p q r = rw (p, q, r) (onward_at v n)

onward_same : {A : Type 0} (m : Meant A) → onward (λ v. v) m ≡ m
onward_same malformed = refl
onward_same (gives v n) = refl

module _ {S T A B : Type 0} (fs : S → A) (ft : T → B) where
  made_meant : (make : S → T) (op : A → B) → ((a : S) → ft (make a) ≡ op (fs a)) → (at k : ℕ) (o : Option (Parsed S)) → onward op (meant fs (at + k) o) ≡ meant ft at (made make k o)
  made_meant make op h at k none = refl
  made_meant make op h at k (some p) = rw (h p.tree, add_assoc at k p.used)

  module _ (ps : Parser S) (s : List ℕ) (at : ℕ) where
    one_meant : (make : S → T) (op : A → B) → ((a : S) → ft (make a) ≡ op (fs a)) → onward op (meant fs (at + 1) (ps (drop (at + 1) s))) ≡ meant ft at (operand make ps (drop (at + 1) s))
    one_meant make op h = made_meant make op h at 1 (ps (drop (at + 1) s))

    module _ (make : S → S → T) (op : A → A → B) (h : (a b : S) → ft (make a b) ≡ op (fs a) (fs b)) where
      abbrev after : Meant A → Meant B
      after malformed = malformed
      after (gives v m) = onward (op v) (meant fs m (ps (drop m s)))

      two_meant : (o : Option (Parsed S)) → after (meant fs (at + 1) o) ≡ meant ft at (second make ps (drop (at + 1) s) o)
      two_meant none = refl
      two_meant (some p) =
          rw (drop-drop p.used (at + 1) s, add_assoc at 1 p.used)
          (made_meant (make p.tree) (op (fs p.tree)) (h p.tree) at (1 + p.used) (ps (drop (at + (1 + p.used)) s)))

      first_none : malformed ≡ meant fs (at + 1) (ps (drop (at + 1) s)) → malformed ≡ meant ft at (operands make ps (drop (at + 1) s))
      first_none e = ap after e ∙ two_meant (ps (drop (at + 1) s))

      then_second : {v : A} {m : ℕ} → gives v m ≡ meant fs (at + 1) (ps (drop (at + 1) s)) → onward (op v) (meant fs m (ps (drop m s))) ≡ meant ft at (operands make ps (drop (at + 1) s))
      then_second e = ap after e ∙ two_meant (ps (drop (at + 1) s))

-- The positions that 2B and 2C look at: the first, and each after those that are joined.
module _ (o : Junction) (d : ℕ) (s : List ℕ) (at : ℕ) (l : List ℤ) where
  pub first_position : truth_at d s at l 0 ≡ so_far_at o d s at l 0
  unfolding up_to
  first_position = refl

  pub next_position : (a b r i : ℕ) → judged_in a ≡ so_far_at o d s at l i → judged_in b ≡ truth_at d s at l (i + 1)
      → judged_in r ≡ onward (with2 (λ x y. value (join o x y)) (truth_in a)) (judged_in b) → judged_in r ≡ so_far_at o d s at l (i + 1)
  unfolding up_to
  next_position a b r i before here all = rw add-one (go (parse_c d (drop at s)) before (rw add-one at here))
    where
      go : (p : Option (Parsed Con)) → judged_in a ≡ meant (λ t. up_to o (λ k. eval_c t (history_of l) k) i) at p → judged_in b ≡ meant (λ t. eval_c t (history_of l) (suc i)) at p
          → judged_in r ≡ meant (λ t. with2 (λ x y. value (join o x y)) (up_to o (λ k. eval_c t (history_of l) k) i) (eval_c t (history_of l) (suc i))) at p
      go none e f = all ∙ ap (onward (with2 (λ x y. value (join o x y)) (truth_in a))) f
      go (some p) e f = all ∙ (ap (onward (with2 (λ x y. value (join o x y)) (truth_in a))) f ∙ rw (placed_value (truth_in a) (end_in a) e))

-- The tree at a place, by its code.
module _ (s : List ℕ) (at d : ℕ) (l : List ℤ) (j : ℕ) (ne : d ≡ 0 → ⊥) (lt : at < length s) where
  abbrev code : Code
  code = code_of (get_or s at 0)

  abbrev fe : Expr → Valued ℤ
  fe t = eval_e t (history_of l) j

  abbrev fc : Con → Valued Bool
  fc t = eval_c t (history_of l) j

  abbrev pe : Parser Expr
  pe = parse_e (d - 1)

  abbrev pc : Parser Con
  pc = parse_c (d - 1)

  abbrev whole_e : Meant (Valued ℤ)
  whole_e = value_at d s at l j

  abbrev part_e : ℕ → Meant (Valued ℤ)
  part_e m = value_at (d - 1) s m l j

  abbrev whole_c : Meant (Valued Bool)
  whole_c = truth_at d s at l j

  abbrev part_c : ℕ → Meant (Valued Bool)
  part_c m = truth_at (d - 1) s m l j

  module _ {row : ℕ} (p : Expression row ≡ opened code) where
    pub eval_leaf : follows_in row ≡ 9 → meant (λ v. v) at (two_bytes (leaf_of row l j) (drop (at + 1) s)) ≡ whole_e
    unfolding eval_e
    eval_leaf q = elim (ℕ_discrete (operator_in row) 0) [
      | yes e ↦ leaf_same (leaf_of row l j) (λ a b. value (signed_word a b)) (λ a b. rw (eq-eqb (operator_in row) 0 e)) at (drop (at + 1) s) ∙ rw (at_constant s at d ne lt p q e) (leaf_meant fe (λ hi lo. constant (signed_word hi lo)) at (drop (at + 1) s))
      | no n ↦ leaf_same (leaf_of row l j) (λ a b. value (cell_at l (j - b) a)) (λ a b. rw (ne_eqb (operator_in row) 0 n)) at (drop (at + 1) s) ∙ rw (at_fluent s at d ne lt p q n) (leaf_meant fe fluent at (drop (at + 1) s))
    ]

    pub eval_reified : follows_in row ≡ 7 → onward (with1 (λ b. value (flag b))) (part_c (at + 1)) ≡ whole_e
    unfolding eval_e
    eval_reified q = rw (at_reified s at d ne lt p q) (one_meant fc fe pc s at reified (with1 (λ b. value (flag b))) (λ a. refl))

    pub eval_one : follows_in row ≡ 6 → onward (with1 (change (single_at (operator_in row)))) (part_e (at + 1)) ≡ whole_e
    unfolding eval_e
    eval_one q = rw (at_one s at d ne lt p q) (one_meant fe fe pe s at (one (single_at (operator_in row))) (with1 (change (single_at (operator_in row)))) (λ a. refl))

    module _ (q : follows_in row ≡ 9 → ⊥) (r : follows_in row ≡ 7 → ⊥) (n : follows_in row ≡ 6 → ⊥) where
      pub eval_two : {v : Valued ℤ} {m : ℕ} → gives v m ≡ part_e (at + 1) → onward (with2 (operate (operation_at (operator_in row))) v) (part_e m) ≡ whole_e
      unfolding eval_e
      eval_two e = rw (at_two s at d ne lt p q r n) (then_second fe fe pe s at (two (operation_at (operator_in row))) (with2 (operate (operation_at (operator_in row)))) (λ a b. refl) e)

      pub eval_first : malformed ≡ part_e (at + 1) → malformed ≡ whole_e
      unfolding eval_e
      eval_first e = rw (at_two s at d ne lt p q r n) (first_none fe fe pe s at (two (operation_at (operator_in row))) (with2 (operate (operation_at (operator_in row)))) (λ a b. refl) e)

  module _ {row : ℕ} (p : Constraint row ≡ opened code) where
    pub eval_compared : {v : Valued ℤ} {m : ℕ} → follows_in row ≡ 10 → gives v m ≡ part_e (at + 1) → onward (with2 (λ x y. value (compare (comparison_at (operator_in row)) x y)) v) (part_e m) ≡ whole_c
    unfolding eval_c
    eval_compared q e = rw (at_comparison s at d ne lt p q) (then_second fe fc pe s at (compared (comparison_at (operator_in row))) (with2 (λ x y. value (compare (comparison_at (operator_in row)) x y))) (λ a b. refl) e)

    pub eval_first_e : follows_in row ≡ 10 → malformed ≡ part_e (at + 1) → malformed ≡ whole_c
    unfolding eval_c
    eval_first_e q e = rw (at_comparison s at d ne lt p q) (first_none fe fc pe s at (compared (comparison_at (operator_in row))) (with2 (λ x y. value (compare (comparison_at (operator_in row)) x y))) (λ a b. refl) e)

    pub eval_occurrence : follows_in row ≡ 9 → meant (λ v. v) at (two_bytes (λ e t. value (both (leb t j) (in_step l e (j + 1 - t)))) (drop (at + 1) s)) ≡ whole_c
    unfolding eval_c
    eval_occurrence q = rw (at_occurrence s at d ne lt p q) (leaf_meant fc occurs at (drop (at + 1) s))

    pub eval_truth : follows_in row ≡ 0 → gives (value true) (at + 1) ≡ whole_c
    unfolding eval_c
    eval_truth n = rw (at_truth s at d ne lt p n)

    pub eval_negation : follows_in row ≡ 7 → looks_back_in row ≡ false → onward (with1 (λ x. value (not x))) (part_c (at + 1)) ≡ whole_c
    unfolding eval_c
    eval_negation q r = rw (at_negation s at d ne lt p q r) (one_meant fc fc pc s at negated (with1 (λ x. value (not x))) (λ a. refl))

    pub eval_look_back : looks_back_in row ≡ true → so_far_at (look_back_at (operator_in row)) (d - 1) s (at + 1) l j ≡ whole_c
    unfolding eval_c
    eval_look_back b =
        let over : Con → Valued Bool = λ t. up_to (look_back_at (operator_in row)) (λ i. eval_c t (history_of l) i) j in
        rw (at_look_back s at d ne lt p b) (sym (onward_same _) ∙ one_meant over fc pc s at (look_back (look_back_at (operator_in row))) (λ v. v) (λ a. refl))

    module _ (q : follows_in row ≡ 10 → ⊥) (r : follows_in row ≡ 9 → ⊥) (m : follows_in row ≡ 0 → ⊥) (n : follows_in row ≡ 7 → ⊥) where
      pub eval_junction : {v : Valued Bool} {k : ℕ} → gives v k ≡ part_c (at + 1) → onward (with2 (λ x y. value (join (junction_at (operator_in row)) x y)) v) (part_c k) ≡ whole_c
      unfolding eval_c
      eval_junction e = rw (at_junction s at d ne lt p q r m n) (then_second fc fc pc s at (joined (junction_at (operator_in row))) (with2 (λ x y. value (join (junction_at (operator_in row)) x y))) (λ a b. refl) e)

      pub eval_first_c : malformed ≡ part_c (at + 1) → malformed ≡ whole_c
      unfolding eval_c
      eval_first_c e = rw (at_junction s at d ne lt p q r m n) (first_none fc fc pc s at (joined (junction_at (operator_in row))) (with2 (λ x y. value (join (junction_at (operator_in row)) x y))) (λ a b. refl) e)
