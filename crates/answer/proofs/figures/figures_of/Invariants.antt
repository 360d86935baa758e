use Rattle.std.proofs.Common.{◌*◌, pos, neg_ℤ, ◌≤ℤ◌}
use Rattle.bmap.specs.Sheet.{rows}
use Rattle.bmap.specs.Report.{values_of}
use Rattle.answer.specs.Figures.{FiguresOf}
use Rattle.answer.proofs.FiguresLaws.{found}
use Rattle.answer.proofs.figures.figures_of.Given as goal

-- the figures so far, and that a sum of so many levels of 16 bits is no further from 0 than they make it
abbrev pub invariant-loop-k : goal.invariant-loop-k
invariant-loop-k l =
    (neg_ℤ (pos (32_768 * l.k)) ≤ℤ l.sum) × (l.sum ≤ℤ pos (32_768 * l.k)) × FiguresOf (found l.lowest l.highest l.sum l.k) (values_of l.fluent (rows l.states.fluents l.k l.states.levels.now))
