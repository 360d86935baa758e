-- The states that a judgement writes: each has a level for each fluent. Assumes nothing.
use mathlib.Core.Path.{◌≡◌, ap, ◌∙◌}
use mathlib.Core.List.{List, ◌∷◌, [], ◌++◌}
use lib.IntN.{pos}
use lib.ListN.{length, get_or, length-map}
use Rattle.bmap.specs.Plain.{numbers}
use Rattle.bmap.specs.Domain.{Domain, Fluent, Names, State}
use Rattle.bmap.specs.Judge.{Setting, level_after, state_after, judge}
use Rattle.sheet.proofs.RoundTrip.{Rows, none, more}
use Rattle.bmap.proofs.NumbersLaws.{numbers_length}
use Rattle.theorems.proofs.ReachedLaws.{judge_keeps}

module _ (d : Domain) where
  abbrev Whole : State → Type 0
  Whole s = length s ≡ length d.fluents

  after_whole : (settings : List Setting) (old : State) → Whole (state_after d settings old)
  unfolding state_after
  after_whole settings old =
      length-map (numbers 0 (length d.fluents)) (λ f. level_after settings f (get_or old f (pos 0))) ∙ numbers_length 0 (length d.fluents)

  rows_more : {states : List State} (s : State) → Rows (length d.fluents) states → Whole s → Rows (length d.fluents) (states ++ (s ∷ []))
  rows_more s none e = more e none
  rows_more s (more q r) e = more q (rows_more s r e)

  pub judge_whole : (sheet : List Names) → Rows (length d.fluents) (judge d sheet).states
  judge_whole sheet =
      judge_keeps d sheet (Rows (length d.fluents)) none (more (length-map d.fluents (λ (f : Fluent). f.start)) none)
      (λ states j new l rows s. rows_more new rows (ap length s.is ∙ after_whole s.settings (get_or states j [])))
