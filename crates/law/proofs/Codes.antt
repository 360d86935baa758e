-- The code byte and the operand table: a rule over a range of codes, or over the whole table, is one computed test.
use mathlib.Core.Path.{◌≡◌, refl, sym, ap, ◌∙◌}
use mathlib.Core.Logic.{⊎_elim}
use mathlib.Core.Bool.{Bool, true}
use mathlib.Core.List.{List, [], ◌∷◌, map}
use Prim.Native.Nat.{ℕ, zero, suc, ◌+◌, ◌-◌, ◌≤◌, ◌<◌}
use native.Mathlib.Nat.{eq-or-lt_of_le, add-zero, add-suc, suc-add}
use native.Mathlib.Omega.{arith}
use borrow.Author.Tests.{ne_eqb}
use lib.Dec.{T, eqb, ltb, ltb→lt, eqb→eq}
use lib.ListN.{get_or}
use Rattle.bmap.specs.Plain.{both, numbers}
use Rattle.bmap.proofs.PlainLaws.{both_parts}
use Rattle.bmap.specs.Code.{Row, Code, expression, constraint, no_code, codes, found, code_of}
use Rattle.law.specs.declared.table.Node.TheVariants.{Expression, Constraint, Refused}
use Rattle.law.specs.Table.{row_of, rows, opened}

-- 0 an expression, 1 a constraint, 2 no code
abbrev sort : Code → ℕ
sort (expression c) = 0
sort (constraint c) = 1
sort no_code = 2

an_expression : (c : Code) → sort c ≡ 0 → Expression (row_of c) ≡ opened c
an_expression (expression c) h = refl
an_expression (constraint c) h = absurd (omega arith)
an_expression no_code h = absurd (omega arith)

a_constraint : (c : Code) → sort c ≡ 1 → Constraint (row_of c) ≡ opened c
a_constraint (expression c) h = absurd (omega arith)
a_constraint (constraint c) h = refl
a_constraint no_code h = absurd (omega arith)

nothing : (c : Code) → sort c ≡ 2 → Refused ≡ opened c
nothing (expression c) h = absurd (omega arith)
nothing (constraint c) h = absurd (omega arith)
nothing no_code h = refl

-- the n codes from b on have the sort v
abbrev same : ℕ → ℕ → ℕ → Bool
same v b zero = true
same v b (suc n) = both (eqb (sort (code_of b)) v) (same v (suc b) n)

range : (v from n : ℕ) → T (same v from n) → (b : ℕ) → from ≤ b → b < from + n → sort (code_of b) ≡ v
range v from zero t b lo hi = absurd (omega arith)
range v from (suc n) t b lo hi =
    let p = both_parts (eqb (sort (code_of from)) v) (same v (suc from) n) t in
    ⊎_elim (λ e. ap (λ (k : ℕ). sort (code_of k)) (sym e) ∙ eqb→eq _ v p.0) (λ lt. range v (suc from) n p.1 b lt (omega arith)) (eq-or-lt_of_le lo)

-- no row of the list is for a byte at or past n
abbrev under : ℕ → List Row → Bool
under n [] = true
under n (r ∷ rows) = both (ltb r.byte n) (under n rows)

found_past : (n b : ℕ) (rows : List Row) → T (under n rows) → n ≤ b → found rows b ≡ no_code
found_past n b [] t h = refl
found_past n b (r ∷ rows) t h =
    let p = both_parts (ltb r.byte n) (under n rows) t in
    let lt : r.byte < n = ltb→lt r.byte n p.0 in
    rw (ne_eqb b r.byte (λ e. omega arith)) (found_past n b rows p.1 h)

-- The four ranges, and what is past them.
module _ (b : ℕ) where
  pub below_codes : b < 0x10 → Refused ≡ opened (code_of b)
  unfolding code_of
  below_codes hi = nothing (code_of b) (range 2 0 16 tt b (omega arith) (omega arith))

  pub expression_codes : 0x10 ≤ b → b < 0x1A → Expression (row_of (code_of b)) ≡ opened (code_of b)
  unfolding code_of
  expression_codes lo hi = an_expression (code_of b) (range 0 0x10 10 tt b lo (omega arith))

  pub between_codes : 0x1A ≤ b → b < 0x20 → Refused ≡ opened (code_of b)
  unfolding code_of
  between_codes lo hi = nothing (code_of b) (range 2 0x1A 6 tt b lo (omega arith))

  pub constraint_codes : 0x20 ≤ b → b < 0x2D → Constraint (row_of (code_of b)) ≡ opened (code_of b)
  unfolding code_of
  constraint_codes lo hi = a_constraint (code_of b) (range 1 0x20 13 tt b lo (omega arith))

  pub past_codes : 0x2D ≤ b → Refused ≡ opened (code_of b)
  unfolding code_of
  past_codes lo = nothing (code_of b) (ap sort (found_past 0x2D b codes tt lo))

-- what a list of the values at the n numbers from i on has at k
listed : {A : Type 0} (f : ℕ → A) (i n k : ℕ) (d : A) → k < n → get_or (map f (numbers i n)) k d ≡ f (i + k)
unfolding numbers
listed f i zero k d h = absurd (omega arith)
listed f i (suc n) zero d h = ap f (sym (add-zero i))
listed f i (suc n) (suc k) d h = listed f (suc i) n k d (omega arith) ∙ ap f (suc-add i k ∙ sym (add-suc i k))

-- the table has the row of each code from the first on
pub row_at : (b : ℕ) → 0x10 ≤ b → b < 0x30 → get_or rows (b - 0x10) 0 ≡ row_of (code_of b)
unfolding rows
row_at b lo hi =
    let k : 0x10 + (b - 0x10) ≡ b = omega arith in
    listed (λ b. row_of (code_of b)) 0x10 32 (b - 0x10) 0 (omega arith)
    ∙ ap (λ (k : ℕ). row_of (code_of k)) k
