-- Document 02, K7: without a supplement's line `low_water` prints what `waroth` does. Assumes nothing.
use Prim.Native.Nat.{ℕ}
use mathlib.Core.Path.{◌≡◌, refl, sym, ap, ◌∙◌}
use mathlib.Core.Bool.{Bool, true, false}
use mathlib.Core.List.{List, [], ◌∷◌, map, ◌++◌, append-nil}
use lib.Dec.{leb}
use lib.ListN.{length}
use Rattle.bmap.specs.Plain.{if_else}
use Rattle.bmap.specs.Limits.{most_input}
use Rattle.bmap.specs.Refusal.{Reading, read, refused_at}
use Rattle.bmap.specs.Theorems.{LowWaterAlike}
use Rattle.bmap.specs.Line.{Line, lines_of, starts, decode}
use Rattle.bmap.specs.Domain.{Domain}
use Rattle.bmap.specs.Accept.{taken}
use Rattle.bmap.specs.Sheet.{steps_from}
use Rattle.bmap.specs.Supplement.{supplement_from}
use Rattle.bmap.specs.Program.{refused_text, Parts, split, sheet_mark, supplement_mark, supplemented, judged_by, answered_by, answered, output, sheet_under, answered_under, answered_low_water, low_water}
use Rattle.supplement.proofs.Theorems.{empty_changes_nothing}

-- a split loses no line
abbrev joined : Parts → List Line
joined p = p.before ++ p.from

split_whole : (word : List ℕ) (lines : List Line) → joined (split word lines) ≡ lines
unfolding split
split_whole word [] = refl
split_whole word (l ∷ lines) = go (starts word l) (split word lines) (split_whole word lines)
  where
    go : (b : Bool) (p : Parts) → joined p ≡ lines → joined (if_else b (record { before = []; from = l ∷ lines }) (record { before = l ∷ p.before; from = p.from })) ≡ l ∷ lines
    go true p e = refl
    go false p e = ap (λ ls. l ∷ ls) e

module _ (p : Parts) (none : (supplemented p).from ≡ []) where
  all_domain : (supplemented p).before ≡ p.before
  all_domain = sym (append-nil _) ∙ ap (λ ls. (supplemented p).before ++ ls) (sym none) ∙ split_whole supplement_mark p.before

  alike_by : (a : Reading Domain) → answered_under p a ≡ answered_by p a
  unfolding supplement_from
  alike_by (refused_at n line) = refl
  alike_by (read d) =
      ap (λ ls. sheet_under p d (supplement_from d [] (map decode ls))) none
      ∙ ap (λ (e : Domain). judged_by e (length p.before) (steps_from d.agents [] (map decode p.from))) (empty_changes_nothing.laws d)

  alike : answered_low_water p ≡ answered p
  alike = ap (λ ls. answered_under p (taken (map decode ls))) all_domain ∙ alike_by (taken (map decode p.before))

pub low_water_alike : LowWaterAlike
unfolding low_water output
low_water_alike input none = ap (λ (t : List ℕ). if_else (leb (length input) most_input) t (refused_text 18 0)) (alike (split sheet_mark (lines_of input)) none)
