-- What the report says of one fluent, as the code counts it.
use Rattle.std.specs.Prelude.{◌≡◌, List, [], ◌∷◌, ℤ, length}
use Rattle.bmap.specs.Report.{lowest_of, highest_of, sum_of}
use Rattle.answer.specs.declared.figures.Figures.{Figures}

-- the figures of z and of those after it
pub record FiguresFrom (f : Figures) (z : ℤ) (l : List ℤ) : Type 0 where
  pub lowest : f.lowest ≡ lowest_of z l
  pub highest : f.highest ≡ highest_of z l
  pub sum : f.sum ≡ sum_of (z ∷ l)
  pub count : f.count ≡ length (z ∷ l)

-- the figures of some values, of which there is one at least
abbrev pub FiguresOf : Figures → List ℤ → Type 0
FiguresOf f [] = ⊥
FiguresOf f (z ∷ l) = FiguresFrom f z l
