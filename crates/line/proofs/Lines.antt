-- A text's lines: the line at the front, and what follows its LF.
use Prim.Native.Nat.{ℕ, ◌<◌}
use native.Mathlib.Nat.{not-suc-le-zero}
use native.Mathlib.Omega.{arith}
use mathlib.Core.Path.{◌≡◌, refl, ap}
use mathlib.Core.Bool.{Bool, true, false}
use mathlib.Core.List.{List, [], ◌∷◌, ◌++◌}
use lib.Dec.{eqb}
use lib.ListN.{length, get_or}
use borrow.Author.Tests.{eqb-true, eq-eqb}
use Rattle.bmap.specs.Plain.{if_else}
use Rattle.bmap.specs.Line.{Line, line_feed, lines_of}

unfoldable pub front : List ℕ → List ℕ
front [] = []
front (c ∷ s) = if_else (eqb c line_feed) [] (c ∷ front s)

unfoldable pub ends : List ℕ → Bool
ends [] = false
ends (c ∷ s) = if_else (eqb c line_feed) true (ends s)

unfoldable pub after : List ℕ → List ℕ
after [] = []
after (c ∷ s) = if_else (eqb c line_feed) s (after s)

abbrev pub first_line : List ℕ → Line
first_line s = record { digits = front s; ended = ends s }

-- a text's lines: the line at the front, and the lines of what follows its LF
pub lines_first : (c : ℕ) (s : List ℕ) → lines_of (c ∷ s) ≡ first_line (c ∷ s) ∷ lines_of (after (c ∷ s))
unfolding lines_of front ends after
lines_first c [] = go (eqb c line_feed) refl
  where
    go : (b : Bool) → eqb c line_feed ≡ b → lines_of (c ∷ []) ≡ first_line (c ∷ []) ∷ lines_of (after (c ∷ []))
    go true e = rw e
    go false e = rw e
lines_first c (d ∷ s) = go (eqb c line_feed) refl (lines_first d s)
  where
    go : (b : Bool) → eqb c line_feed ≡ b → lines_of (d ∷ s) ≡ first_line (d ∷ s) ∷ lines_of (after (d ∷ s))
        → lines_of (c ∷ d ∷ s) ≡ first_line (c ∷ d ∷ s) ∷ lines_of (after (c ∷ d ∷ s))
    go true e r = rw e
    go false e r = rw (e, r)

pub lines_nonempty : (s : List ℕ) → 0 < length s → lines_of s ≡ first_line s ∷ lines_of (after s)
lines_nonempty [] h = absurd (not-suc-le-zero h)
lines_nonempty (c ∷ s) h = lines_first c s

-- a text without lines is empty
pub no_lines : (s : List ℕ) → lines_of s ≡ [] → s ≡ []
no_lines [] e = refl
no_lines (c ∷ s) e = absurd (let h = lines_first c s in let z : ◌≡◌ {A = ℕ} 0 1 = cc in omega arith)

-- a text whose first line ends is that line, its LF and what follows
pub text_first : (s : List ℕ) → ends s ≡ true → s ≡ front s ++ (line_feed ∷ after s)
unfolding ends front after
text_first [] e = absurd (let z : ◌≡◌ {A = ℕ} 0 1 = cc in omega arith)
text_first (c ∷ s) e = go (eqb c line_feed) refl (text_first s)
  where
    go : (b : Bool) → eqb c line_feed ≡ b → (ends s ≡ true → s ≡ front s ++ (line_feed ∷ after s)) → c ∷ s ≡ front (c ∷ s) ++ (line_feed ∷ after (c ∷ s))
    go true q rec = simp q (ap (λ (x : ℕ). x ∷ s) (eqb-true c line_feed q))
    go false q rec = simp q (ap (λ (x : List ℕ). c ∷ x) (rec (simp q at e)))

-- the text from a LF on
pub at_feed : (t : List ℕ) → get_or t 0 0 ≡ 10 → (ends t ≡ true) × (front t ≡ [])
unfolding front ends
at_feed [] e = absurd (omega arith)
at_feed (c ∷ t) e = let q = eq-eqb c 10 e in simp q (refl, refl)
