-- What the checker answers, what a tree may name, and whether it may look back.
use Rattle.std.specs.Prelude.{ℕ, zero, suc, ◌+◌, ◌-◌, ◌*◌, ◌/◌, ◌%◌, ◌≤◌, ◌<◌, Bool, true, not, Option as Maybe, None, Some, List, ◌≡◌, eqb, leb, ltb, drop, get_or}
use Rattle.std.proofs.Math.Option.{Option}
use Rattle.bmap.specs.Plain.{all, both, if_else}
use Rattle.bmap.specs.Refusal.{Answer, got, refused, need, known, then}
use Rattle.bmap.specs.Number.{signed_word}
use Rattle.bmap.specs.Tree.{Expr, Con, constant, fluent, occurs, allowed_e, allowed_c, named_e, named_c, looking_back}
use Rattle.bmap.specs.Code.{Parsed, two_bytes, code_of, parse_e, parse_c}
use Rattle.bmap.specs.Domain.{has}
use Rattle.bmap.specs.declared.limits.Context.{Context}
use Rattle.law.specs.declared.table.Node.{Node}
use Rattle.law.specs.declared.table.Node.TheVariants as node
use Rattle.law.specs.Table.{follows_in, operator_in, opened}

-- the code's answer: a place, or refusal 4, "payload not as described"
abbrev pub checked_of : Maybe ℕ → Answer ℕ
checked_of (Some n) = got n
checked_of None = refused 4

-- the same by a number: at place 0 no tree ends
abbrev pub next_of : ℕ → Answer ℕ
next_of zero = refused 4
next_of (suc n) = got (suc n)

-- the place just after the tree that stands at `at`, where one stands there and passes
abbrev pub end_of : {T : Type 0} → (T → Bool) → ℕ → Option (Parsed T) → Answer ℕ
end_of passes at parsed = then (known 4 parsed) (λ p. need (passes p.tree) 4 (got (at + p.used)))

-- the two tests that a tree may be put to: that it names only what a law may and looks back only where it may, or that it names only
-- fluents of a mask
pub data Test : Type 0 where
  allowed : Context → Test
  in_mask : ℕ → Test

abbrev pub passes_e : Test → Expr → Bool
passes_e (allowed x) t = allowed_e x t
passes_e (in_mask m) t = all (has m) (named_e t)

abbrev pub passes_c : Test → Con → Bool
passes_c (allowed x) t = allowed_c x t
passes_c (in_mask m) t = all (has m) (named_c t)

-- whether a tree under the test may look back; and the test of what it looks back at
abbrev pub may_back : Test → Bool
may_back (allowed x) = x.back
may_back (in_mask m) = true

abbrev pub back_at : Test → Test
back_at (allowed x) = allowed (looking_back x)
back_at (in_mask m) = in_mask m

-- What a tree may name, in one word: so many fluents, and of them those of a mask; so many entries; and the largest lag. In the same
-- word whether it may look back: 0 where it may not, 1 where what it looks back at may not again, 2 where that may too.
abbrev pub word_of : ℕ → ℕ → ℕ → ℕ → ℕ → ℕ
word_of fluents entries lag back mask = fluents + 512 * entries + 262_144 * lag + 67_108_864 * back + 4_294_967_296 * mask

-- a limit of what a byte may be; no byte reaches 256
abbrev pub limit_of : ℕ → ℕ
limit_of x = if_else (ltb x 256) x 256

abbrev pub fluents_in : ℕ → ℕ
fluents_in may = may % 512

abbrev pub entries_in : ℕ → ℕ
entries_in may = may / 512 % 512

abbrev pub lag_in : ℕ → ℕ
lag_in may = may / 262_144 % 256

abbrev pub back_in : ℕ → ℕ
back_in may = may / 67_108_864 % 4

abbrev pub mask_in : ℕ → ℕ
mask_in may = may / 4_294_967_296

-- no "unknown … fluent", "lag (0 to 63)". The mask has 32 bits and counts again from the first: where all are set, the limit decides
unfoldable pub fluent_may : ℕ → ℕ → ℕ → Bool
fluent_may may f lag = both (ltb f (fluents_in may)) (both (leb lag (lag_in may)) (has (mask_in may) (f % 32)))

-- no "unknown … entry", "lag (0 to 63)"; where "Code 29 is refused", in A7 and A9, there are 0
unfoldable pub entry_may : ℕ → ℕ → ℕ → Bool
entry_may may e lag = both (ltb e (entries_in may)) (leb lag (lag_in may))

-- whether a tree may look back, and whether what it looks back at may again
abbrev pub back_may : ℕ → Bool
back_may may = not (eqb (back_in may) 0)

abbrev pub again_may : ℕ → Bool
again_may may = eqb (back_in may) 2

-- what a law's part of the word is
abbrev pub back_once : Bool → ℕ
back_once b = if_else b 1 0

-- "Neither may stand inside the other or itself": the word for what is looked back at
abbrev pub inside_in : ℕ → ℕ
inside_in may = if_else (again_may may) may (may - 67_108_864 * back_in may)

-- the word asks what the test asks, of the bytes that name and of looking back
pub record Asks (may : ℕ) (t : Test) : Type 0 where
  pub fluents : (f lag : ℕ) → f < 256 → lag < 256 → fluent_may may f lag ≡ passes_e t (fluent f lag)
  pub entries : (e lag : ℕ) → e < 256 → lag < 256 → entry_may may e lag ≡ passes_c t (occurs e lag)
  pub back : back_may may ≡ may_back t
  pub again : again_may may ≡ may_back (back_at t)

-- what two bytes after a leaf's code are, by its row: a constant, or a fluent and its lag
abbrev pub leaf_in : ℕ → ℕ → ℕ → Expr
leaf_in row a b = if_else (eqb (operator_in row) 0) (constant (signed_word a b)) (fluent a b)

-- the bytes of a law, in an array with room for a frame
abbrev pub law_size : ℕ
law_size = 128

-- an expression that holds others stands there, with its row
pub record Inner (s : List ℕ) (n at depth row : ℕ) : Type 0 where
  pub deep : 1 ≤ depth
  pub inside : at < n
  pub opens : node.Expression row ≡ opened (code_of (get_or s at 0))
  pub holds : follows_in row ≡ 9 → ⊥

-- where the expression, or the constraint, at a place of some bytes ends
abbrev pub expr_end : Test → ℕ → List ℕ → ℕ → Answer ℕ
expr_end t depth s at = end_of (passes_e t) at (parse_e depth (drop at s))

abbrev pub con_end : Test → ℕ → List ℕ → ℕ → Answer ℕ
con_end t depth s at = end_of (passes_c t) at (parse_c depth (drop at s))

-- the same by a number for the sort of tree that is wanted: 3 for a constraint, as a row has it
abbrev pub tree_end : ℕ → Test → ℕ → List ℕ → ℕ → Answer ℕ
tree_end wanted t depth s at = if_else (eqb wanted 3) (con_end t depth s at) (expr_end t depth s at)

-- the row of what opens such a tree
abbrev pub row_for : ℕ → Node → Maybe ℕ
row_for wanted (node.Expression row) = if_else (eqb wanted 3) None (Some row)
row_for wanted (node.Constraint row) = if_else (eqb wanted 3) (Some row) None
row_for wanted node.Refused = None

-- whether the two bytes after such a leaf's code pass
abbrev pub pair_passes : ℕ → Test → ℕ → ℕ → ℕ → Bool
pair_passes wanted t row a b = if_else (eqb wanted 3) (passes_c t (occurs a b)) (passes_e t (leaf_in row a b))

-- the place just after such a leaf
abbrev pub leaf_end : ℕ → Test → ℕ → ℕ → List ℕ → Answer ℕ
leaf_end wanted t row at l = if_else (eqb wanted 3) (end_of (passes_c t) at (two_bytes occurs l)) (end_of (passes_e t) at (two_bytes (leaf_in row) l))
