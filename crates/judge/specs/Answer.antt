-- The paper's number and values of each answer.
use Rattle.std.specs.Prelude.{ℕ, ◌+◌, ◌*◌, ◌≤◌, ◌≡◌, length, drop, eqb, leb, List, ℤ, codes, Option as Maybe, Some, None, Result, Ok, Err}
use Rattle.bmap.specs.Limits.{most_steps, levels_size}
use Rattle.bmap.specs.declared.Reason.{Reason}
use Rattle.bmap.specs.declared.refusal.Refusal.{Refusal}
use Rattle.bmap.specs.Refusal.{Answer, got, refused, need, then, number_of}
use Rattle.bmap.specs.Store.{domain_in}
use Rattle.bmap.specs.Sheet.{sheet_of}
use Rattle.std.proofs.Math.Option.{Option, none, some}
use Rattle.bmap.specs.Number.{Valued, value, no_value}
use Rattle.bmap.specs.Judge.{Checked, Pass, fine, fault, Setting, accepted, broken}
use Rattle.bmap.specs.Judge as paper
use Rattle.bmap.specs.Verdict.{judgement, sheet_judged}
use Rattle.bmap.specs.Verdict as call
use Rattle.bmap.specs.Supplement.{sheet_judged_under}
use Rattle.judge.specs.declared.verdict.Fault.{Fault}
use Rattle.judge.specs.declared.verdict.Fault.TheVariants.{Misplaced, Barred, Concurrency, Conflict, Range, Static, ZeroDivisor, Goal, Beyond, TooFast}
use Rattle.judge.specs.declared.verdict.Verdict.{Verdict}
use Rattle.judge.specs.declared.verdict.Verdict.TheVariants.{Accepted, Broken}
use Rattle.judge.specs.declared.verdict.Judged.{Judged}
use Rattle.judge.specs.declared.verdict.Breach.{Breach}
use Rattle.judge.specs.declared.reading.Setting.{Setting as Wanted}

-- the paper's number of each fault's kind
abbrev pub kind_of : Fault → ℕ
kind_of Misplaced = 1
kind_of Barred = 2
kind_of Concurrency = 3
kind_of Conflict = 4
kind_of Range = 5
kind_of Static = 6
kind_of ZeroDivisor = 7
kind_of Goal = 8
kind_of Beyond = 9
kind_of TooFast = 10

-- and in words
abbrev pub words_of : Fault → List ℕ
words_of Misplaced = codes "an agent belongs to no entry that it names"
words_of Barred = codes "no executability law of an entry is true"
words_of Concurrency = codes "a concurrency law is false"
words_of Conflict = codes "an effect law sets another value"
words_of Range = codes "a fluent leaves its range"
words_of Static = codes "a static law is false"
words_of ZeroDivisor = codes "a law divides by zero"
words_of Goal = codes "a goal law is false"
words_of Beyond = codes "a law leaves the number range"
words_of TooFast = codes "a fluent changes by more than its limit"

-- "Accepted, or Broken with kind, step and number"
abbrev pub verdict_of : Verdict → paper.Verdict
verdict_of Accepted = accepted
verdict_of (Broken f step n) = broken (kind_of f) step n

abbrev pub answer_of : Result Verdict Refusal → Answer paper.Verdict
answer_of (Err why) = refused (number_of why)
answer_of (Ok v) = got (verdict_of v)

-- the same of an answer that counts the states written, and their number: none is written where it refuses
abbrev pub counted_of : Result Judged Refusal → Answer paper.Verdict
counted_of (Err why) = refused (number_of why)
counted_of (Ok j) = got (verdict_of j.verdict)

abbrev pub states_counted : Result Judged Refusal → ℕ
states_counted (Err why) = 0
states_counted (Ok j) = j.states

abbrev pub checked_of : {A : Type 0} → Result A Breach → Checked A
checked_of (Ok a) = fine a
checked_of (Err b) = fault (kind_of b.fault) b.number

abbrev pub pass_of : Result (Unit {0}) Breach → Pass
pass_of = checked_of

abbrev pub wants_of : Result (Maybe Wanted) Reason → Valued (Option Setting)
wants_of (Err why) = no_value why
wants_of (Ok None) = value none
wants_of (Ok (Some s)) = value (some (record { fluent = s.fluent; level = s.level }))

-- ---- how many states the levels buffer receives

abbrev pub states_in : Answer paper.Judged → ℕ
states_in (refused n) = 0
states_in (got j) = length j.states

-- those of `judge_sheet`: none where it refuses
unfoldable pub states_written : List ℕ → List ℕ → List ℤ → ℕ
states_written store sheet levels = states_in (sheet_judged store sheet levels)

-- those of `judge_under`
unfoldable pub states_written_under : List ℕ → List ℕ → List ℕ → List ℤ → ℕ
states_written_under store supplement sheet levels = states_in (sheet_judged_under store supplement sheet levels)

-- ---- by what was found, whatever it was found of

-- no more states than the longest sheet has, and nothing changed after them
pub record Bounded (fluents : ℕ) (levels : List ℤ) (r : Result Judged Refusal) (left : List ℤ) : Type 0 where
  pub few : states_counted r ≤ most_steps + 1
  pub past : drop (states_counted r * fluents) left ≡ drop (states_counted r * fluents) levels

-- ---- a sheet for so many agents

-- "10, 15, 16", then "8, 9": 16 is "domain's number of agents differs"
abbrev pub sheet_judged_for : ℕ → List ℕ → List ℕ → List ℤ → Answer paper.Judged
sheet_judged_for agents store sheet levels =
    need (leb levels_size (length levels)) 10
    (then (domain_in store) (λ d.
    need (eqb d.agents agents) 16
    (then (sheet_of d.agents sheet) (λ steps. got (paper.judge d steps)))))

unfoldable pub judge_for : ℕ → List ℕ → List ℕ → List ℤ → call.Judgement
judge_for agents store sheet levels = judgement levels (sheet_judged_for agents store sheet levels)

unfoldable pub states_written_for : ℕ → List ℕ → List ℕ → List ℤ → ℕ
states_written_for agents store sheet levels = states_in (sheet_judged_for agents store sheet levels)
