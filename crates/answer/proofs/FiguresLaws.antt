-- The figures of a fluent's values, one value after the other, and their line. Assumes nothing.
use Rattle.std.proofs.Common.{◌≡◌, ℕ, ◌+◌, ◌*◌, ◌<◌, List, [], ◌∷◌, ◌++◌, map, get_or, take, drop, refl, sym, ap, ◌∙◌, subst, arith, add-one, length-append, ℤ, pos, ◌+ℤ◌}
use Rattle.std.specs.Int.Signed.{le_z}
use Rattle.std.specs.Int.{int_min, int_max}
use Rattle.std.proofs.lemmas.Int.{ints}
use Rattle.std.proofs.Math.Nat.{zero-add}
use Rattle.std.proofs.lemmas.List.{map-append}
use lib.IntN.{+ℤ_comm, +ℤ_assoc, +ℤ_idr}
use lib.Seq.{get_or-take, get_or-drop}
use Rattle.bmap.specs.Plain.{if_else, flat, numbers, text}
use Rattle.bmap.specs.Domain.{State}
use Rattle.bmap.specs.Sheet.{rows}
use Rattle.bmap.specs.Program.{decimal, decimal_z, spaced}
use Rattle.bmap.specs.Report.{values_of, lowest_of, highest_of, sum_of, figures_line, figures_lines}
use Rattle.bmap.proofs.PlainLaws.{flat_one}
use Rattle.judge.proofs.StateLaws.{map_snoc}
use Rattle.answer.specs.Put.{Put}
use Rattle.answer.specs.declared.figures.Figures.{Figures}
use Rattle.answer.specs.declared.print.Text.{Text}
use Rattle.answer.specs.Figures.{FiguresOf}
use Rattle.answer.proofs.PutLaws.{rows_more, put_line, words_more}

-- ---- one value more

-- std's lower and higher of two are the paper's
pub lower_is : (x y : ℤ) → int_min x y ≡ if_else (le_z x y) x y
lower_is x y = grind (arith, ints)

pub higher_is : (x y : ℤ) → int_max x y ≡ if_else (le_z y x) x y
higher_is x y = grind (arith, ints)

lowest_more : (z : ℤ) (l : List ℤ) (y : ℤ) → lowest_of z (l ++ (y ∷ [])) ≡ if_else (le_z (lowest_of z l) y) (lowest_of z l) y
unfolding lowest_of
lowest_more z [] y = refl
lowest_more z (x ∷ l) y = lowest_more (if_else (le_z z x) z x) l y

highest_more : (z : ℤ) (l : List ℤ) (y : ℤ) → highest_of z (l ++ (y ∷ [])) ≡ if_else (le_z y (highest_of z l)) (highest_of z l) y
unfolding highest_of
highest_more z [] y = refl
highest_more z (x ∷ l) y = highest_more (if_else (le_z x z) z x) l y

sum_more : (l : List ℤ) (y : ℤ) → sum_of (l ++ (y ∷ [])) ≡ sum_of l +ℤ y
unfolding sum_of
sum_more [] y = +ℤ_comm y (pos 0)
sum_more (x ∷ l) y = ap (λ s. x +ℤ s) (sum_more l y) ∙ sym (+ℤ_assoc x (sum_of l) y)

abbrev pub found : ℤ → ℤ → ℤ → ℕ → Figures
found lowest highest sum count = record { lowest = lowest; highest = highest; sum = sum; count = count }

figures_first : (z : ℤ) → FiguresOf (found z z z 1) (z ∷ [])
unfolding lowest_of highest_of sum_of
figures_first z = record { lowest = refl; highest = refl; sum = sym (+ℤ_idr z); count = refl }

figures_more : (values : List ℤ) (g : Figures) (y : ℤ) {lower higher sum : ℤ} → lower ≡ if_else (le_z g.lowest y) g.lowest y → higher ≡ if_else (le_z y g.highest) g.highest y → sum ≡ g.sum +ℤ y
    → FiguresOf g values → FiguresOf (found lower higher sum (g.count + 1)) (values ++ (y ∷ []))
figures_more [] g y p q r f = absurd f
figures_more (z ∷ l) g y p q r f = record {
  lowest = p ∙ ap (λ x. if_else (le_z x y) x y) f.lowest ∙ sym (lowest_more z l y);
  highest = q ∙ ap (λ x. if_else (le_z y x) x y) f.highest ∙ sym (highest_more z l y);
  sum = r ∙ ap (λ x. x +ℤ y) f.sum ∙ sym (sum_more (z ∷ l) y);
  count = omega (arith, f.count, length-append (z ∷ l) (y ∷ []));
}

-- ---- a fluent's values, state after state

module _ (w f : ℕ) (levels : List ℤ) (h : f < w) where
  values_first : get_or levels f (pos 0) ∷ [] ≡ values_of f (rows w 1 levels)
  unfolding rows
  values_first = ap (λ z. z ∷ []) (sym (get_or-take w levels f (pos 0) h))

  values_more : (k : ℕ) → values_of f (rows w k levels) ++ (get_or levels (k * w + f) (pos 0) ∷ []) ≡ values_of f (rows w (k + 1) levels)
  values_more k =
      let at : get_or (take w (drop (k * w) levels)) f (pos 0) ≡ get_or levels (k * w + f) (pos 0) = get_or-take w (drop (k * w) levels) f (pos 0) h ∙ get_or-drop (k * w) levels f (pos 0) in
      sym (ap (λ n. values_of f (rows w n levels)) (add-one k) ∙ ap (values_of f) (rows_more w k levels) ∙ map-append (λ (s : State). get_or s f (pos 0)) (rows w k levels) _ ∙ ap (λ z. values_of f (rows w k levels) ++ (z ∷ [])) at)

  pub figures_begin : {z : ℤ} → z ≡ get_or levels f (pos 0) → FiguresOf (found z z z 1) (values_of f (rows w 1 levels))
  figures_begin {z} e = subst (FiguresOf (found z z z 1)) (ap (λ y. y ∷ []) e ∙ values_first) (figures_first z)

  pub figures_next : (g : Figures) {y lower higher sum : ℤ} → y ≡ get_or levels (g.count * w + f) (pos 0) → lower ≡ if_else (le_z g.lowest y) g.lowest y → higher ≡ if_else (le_z y g.highest) g.highest y → sum ≡ g.sum +ℤ y
      → FiguresOf g (values_of f (rows w g.count levels)) → FiguresOf (found lower higher sum (g.count + 1)) (values_of f (rows w (g.count + 1) levels))
  figures_next g {y} {lower} {higher} {sum} e p q r x =
      subst (FiguresOf (found lower higher sum (g.count + 1))) (ap (λ z. values_of f (rows w g.count levels) ++ (z ∷ [])) e ∙ values_more g.count) (figures_more (values_of f (rows w g.count levels)) g y p q r x)

-- ---- their lines

pub put_figures_line : {a b c d e h i j : Text} (f : ℕ) (g : Figures) (values : List ℤ) → FiguresOf g values
    → Put a (70 ∷ []) b → Put b (spaced (decimal f ∷ [])) c → Put c (spaced (decimal_z g.lowest ∷ [])) d → Put d (spaced (decimal_z g.highest ∷ [])) e
    → Put e (spaced (decimal_z g.sum ∷ [])) h → Put h (spaced (decimal g.count ∷ [])) i → Put i (10 ∷ []) j → Put a (figures_line f values) j
unfolding text
put_figures_line f g [] q t u v w x y z = absurd q
put_figures_line f g (first ∷ l) q t u v w x y z =
    rw (← q.lowest, ← q.highest, ← q.sum, ← q.count) (put_line (text "F") _ t (words_more _ _ u (words_more _ _ v (words_more _ _ w (words_more _ _ x y)))) z)

pub lines_more : (f : ℕ) (states : List State) → figures_lines f states ++ figures_line f (values_of f states) ≡ figures_lines (f + 1) states
lines_more f states =
    let line : ℕ → List ℕ = λ n. figures_line n (values_of n states) in
    sym (ap (λ n. figures_lines n states) (add-one f) ∙ ap flat (map_snoc line 0 f) ∙ flat_one (map line (numbers 0 f)) (line (0 + f)) ∙ ap (λ n. figures_lines f states ++ line n) (zero-add f))

pub lines_none : (f : ℕ) → [] ≡ figures_lines f []
unfolding flat
lines_none f = go (numbers 0 f)
  where
    go : (l : List ℕ) → [] ≡ flat (map (λ n. figures_line n (values_of n [])) l)
    go [] = refl
    go (n ∷ l) = go l
