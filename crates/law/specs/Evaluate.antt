-- What the evaluator answers.
use Rattle.std.specs.Prelude.{ℕ, ◌+◌, ◌-◌, ◌*◌, ◌≤◌, ◌<◌, Bool, Option as Maybe, None, Some, List, ℤ, pos, ◌≡◌, drop, get_or, eqb, leb}
use Rattle.std.proofs.Math.Option.{Option, none, some}
use Rattle.bmap.specs.Limits.{most_fluents, most_entries, most_laws, most_steps, frame_size}
use Rattle.bmap.specs.Plain.{if_else}
use Rattle.bmap.specs.Number.{Valued, value, signed_word}
use Rattle.bmap.specs.Meaning.{History, up_to, eval_e, eval_c}
use Rattle.bmap.specs.declared.Junction.{Junction}
use Rattle.bmap.specs.Code.{Parsed, code_of, parse_e, parse_c}
use Rattle.std.specs.Int.Signed.{le_z}
use Rattle.law.specs.declared.table.Node.TheVariants.{Expression}
use Rattle.law.specs.Table.{opened, follows_in, operator_in}

-- The history that the code is lent, in rows: the levels of state k, with room for the most fluents, and after them a mark for
-- each entry that occurs in the step from it, which is step k + 1. What was never written is 0.
abbrev pub row_size : ℕ
row_size = most_fluents + most_entries

abbrev pub history_size : ℕ
history_size = (most_steps + 1) * row_size

abbrev pub cell_at : List ℤ → ℕ → ℕ → ℤ
cell_at history k column = get_or history (row_size * k + column) (pos 0)

abbrev pub marked : ℤ → Bool
marked z = le_z (pos 1) z

abbrev pub in_step : List ℤ → ℕ → ℕ → Bool
in_step history e k = marked (cell_at history (k - 1) (most_fluents + e))

abbrev pub history_of : List ℤ → History
history_of history = record {
  level = λ k f. cell_at history k f;
  occurred = λ e k. in_step history e k;
}

-- room for the frames of the most laws
abbrev pub held_size : ℕ
held_size = most_laws * frame_size

-- what a tree at a place means, with the place just after the tree; or no tree stands there
pub data Meant (A : Type 0) : Type 0 where
  malformed : Meant A
  gives : A → ℕ → Meant A

abbrev pub meant : {T A : Type 0} → (T → A) → ℕ → Option (Parsed T) → Meant A
meant f at none = malformed
meant f at (some p) = gives (f p.tree) (at + p.used)

-- an operator on what stands there
abbrev pub onward : {A B : Type 0} → (A → B) → Meant A → Meant B
onward op malformed = malformed
onward op (gives a n) = gives (op a) n

-- a position past the last that a sheet may have is none
abbrev pub at_position : {A : Type 0} → ℕ → Meant A → Meant A
at_position j m = if_else (leb j most_steps) m malformed

-- the code's answer
abbrev pub evaluated : {A : Type 0} → Maybe (A × ℕ) → Meant A
evaluated None = malformed
evaluated (Some (v, n)) = gives v n

-- what the two bytes after a leaf's code give, by its row: a constant, or the level of a fluent at its lag
abbrev pub leaf_of : ℕ → List ℤ → ℕ → ℕ → ℕ → Valued ℤ
leaf_of row history j a b = if_else (eqb (operator_in row) 0) (value (signed_word a b)) (value (cell_at history (j - b) a))

-- a code at a place, and its row: an expression's, and no leaf's
pub record NoLeaf (s : List ℕ) (at depth row : ℕ) : Type 0 where
  pub deep : 1 ≤ depth
  pub inside : at < held_size
  pub opens : Expression row ≡ opened (code_of (get_or s at 0))
  pub tree : follows_in row ≡ 9 → ⊥

-- the expression, or the constraint, at a place of some bytes, read at position j
abbrev pub value_at : ℕ → List ℕ → ℕ → List ℤ → ℕ → Meant (Valued ℤ)
value_at depth s at history j = meant (λ t. eval_e t (history_of history) j) at (parse_e depth (drop at s))

abbrev pub truth_at : ℕ → List ℕ → ℕ → List ℤ → ℕ → Meant (Valued Bool)
truth_at depth s at history j = meant (λ t. eval_c t (history_of history) j) at (parse_c depth (drop at s))

-- the constraint at a place, read at every position up to j
abbrev pub so_far_at : Junction → ℕ → List ℕ → ℕ → List ℤ → ℕ → Meant (Valued Bool)
so_far_at o depth s at history j = meant (λ t. up_to o (λ i. eval_c t (history_of history) i) j) at (parse_c depth (drop at s))
