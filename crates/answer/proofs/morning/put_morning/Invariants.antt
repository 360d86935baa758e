-- What is kept is that of the sheets judged so far, and the report is theirs and the rest's. Assumes nothing.
use Prim.Native.Nat.{ℕ, ◌-◌}
use mathlib.Core.Path.{◌≡◌}
use mathlib.Core.List.{List, []}
use lib.IntN.{ℤ}
use lib.ListN.{length, drop}
use Rattle.bmap.specs.Domain.{Domain}
use Rattle.bmap.specs.Line.{lines_of}
use Rattle.bmap.specs.Judge.{Judged}
use Rattle.bmap.specs.Supplement.{Replacement, replaced}
use Rattle.supplement.specs.declared.under.Under.{Under}
use Rattle.answer.specs.Speaks.{Speaks}
use Rattle.answer.specs.Morning.{Underway, Kept, report_from, states_size}
use Rattle.answer.specs.declared.morning.Morning.{Morning}
use Rattle.answer.proofs.morning.put_morning.Given as goal

-- the sheets judged so far
pub record Along (d : Domain) (width : ℕ) (input : List ℕ) (first m : Morning) (levels : List ℤ) : Type 0 where
  pub judged : List Judged
  pub kept : Kept width judged m levels
  pub report : report_from d [] first.lines (lines_of (drop first.at input)) ≡ report_from d judged m.lines (lines_of (drop m.at input))

pub record Going (store input : List ℕ) (under : Under) (first m : Morning) (levels : List ℤ) : Type 0 where
  pub underway : Underway input m
  pub long : length levels ≡ states_size
  pub along : (d : Domain) (s : List Replacement) → Speaks store [] under d s → Along (replaced s d) under.index.counts.fluents input first m levels

abbrev pub invariant-loop-m : goal.invariant-loop-m
invariant-loop-m l = Going l.store l.input l.under l.initial.m l.m l.levels

abbrev pub decreases-loop-m : goal.decreases-loop-m
decreases-loop-m l = length l.input - l.m.at
