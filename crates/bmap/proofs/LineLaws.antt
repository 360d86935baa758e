-- A text's lines, one after the other, are the text; a text that starts with a word. Assumes nothing.
use Prim.Native.Nat.{ℕ}
use native.Mathlib.Decide.{ℕ_discrete}
use mathlib.Core.Path.{◌≡◌, refl, sym, ap, ◌∙◌}
use native.Mathlib.Omega.{arith}
use mathlib.Core.Bool.{true, false}
use mathlib.Core.List.{List, [], ◌∷◌, ◌++◌, map}
use lib.Dec.{eqb}
use lib.ListN.{length, drop}
use Rattle.bmap.proofs.PlainLaws.{both_true}
use borrow.Author.Tests.{eq-eqb, ne_eqb}
use Rattle.bmap.specs.Plain.{flat}
use Rattle.bmap.specs.Line.{Line, line_feed, before, lines_of, line_text, starts_with}

-- a character before the first line comes before all
before_text : (c : ℕ) (lines : List Line) → flat (map line_text (before c lines)) ≡ c ∷ flat (map line_text lines)
unfolding flat
before_text c [] = refl
before_text c (l ∷ lines) = refl

pub lines_text : (s : List ℕ) → flat (map line_text (lines_of s)) ≡ s
unfolding flat lines_of
lines_text [] = refl
lines_text (c ∷ s) = elim (ℕ_discrete c line_feed) [
  | yes e ↦ rw (eq-eqb c line_feed e, lines_text s) (ap (λ (k : ℕ). k ∷ s) (sym e))
  | no e ↦ rw (ne_eqb c line_feed e) (before_text c (lines_of s) ∙ ap (λ (r : List ℕ). c ∷ r) (lines_text s))
]

-- a text that starts with a word is the word and what is after it
pub word_first : (word s : List ℕ) → starts_with word s ≡ true → s ≡ word ++ drop (length word) s
unfolding starts_with
word_first [] s t = refl
word_first (c ∷ word) [] t = absurd (let z : ◌≡◌ {A = ℕ} 0 1 = cc in omega arith)
word_first (c ∷ word) (d ∷ s) t =
    elim (ℕ_discrete d c) [
      | yes e ↦ ap (λ (x : ℕ). x ∷ s) e ∙ ap (λ (l : List ℕ). c ∷ l) (word_first word s (both_true (eqb d c) (starts_with word s) t).1)
      | no e ↦ absurd (let f : false ≡ true = sym (ne_eqb d c e) ∙ (both_true (eqb d c) (starts_with word s) t).0 in let z : ◌≡◌ {A = ℕ} 0 1 = cc in omega arith)
    ]
