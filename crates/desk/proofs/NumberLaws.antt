-- The numbers of refusals, of faults and of verdicts are small.
use Prim.Native.Nat.{◌≤◌, ◌<◌, ◌^◌}
use native.Mathlib.Omega.{arith}
use Rattle.bmap.specs.Refusal.{number_of}
use Rattle.bmap.specs.declared.refusal.Refusal.{Refusal}
use Rattle.bmap.specs.declared.refusal.Refusal.TheVariants.{BadLine, BadCount, BadKind, BadPayload, TooMany, Repeated, Incomplete, NotWhole, TooLong, NoRoom, NoStep, NothingStands, NothingUndone, LogFull, NotDomain, OtherAgents, NotSession, LongInput, TooManySheets, OtherLaw}
use Rattle.judge.specs.Answer.{kind_of, verdict_of}
use Rattle.judge.specs.declared.verdict.Verdict.{Verdict}
use Rattle.judge.specs.declared.verdict.Verdict.TheVariants.{Accepted, Broken}
use Rattle.judge.specs.declared.verdict.Fault.{Fault}
use Rattle.judge.specs.declared.verdict.Fault.TheVariants.{Misplaced, Barred, Concurrency, Conflict, Range, Static, ZeroDivisor, Goal, Beyond, TooFast}
use Rattle.desk.specs.Numbers.{verdict_number}

pub number_small : (r : Refusal) → number_of r ≤ 20
number_small BadLine = omega arith
number_small BadCount = omega arith
number_small BadKind = omega arith
number_small BadPayload = omega arith
number_small TooMany = omega arith
number_small Repeated = omega arith
number_small Incomplete = omega arith
number_small NotWhole = omega arith
number_small TooLong = omega arith
number_small NoRoom = omega arith
number_small NoStep = omega arith
number_small NothingStands = omega arith
number_small NothingUndone = omega arith
number_small LogFull = omega arith
number_small NotDomain = omega arith
number_small OtherAgents = omega arith
number_small NotSession = omega arith
number_small LongInput = omega arith
number_small TooManySheets = omega arith
number_small OtherLaw = omega arith

pub kind_small : (f : Fault) → kind_of f ≤ 10
kind_small Misplaced = omega arith
kind_small Barred = omega arith
kind_small Concurrency = omega arith
kind_small Conflict = omega arith
kind_small Range = omega arith
kind_small Static = omega arith
kind_small ZeroDivisor = omega arith
kind_small Goal = omega arith
kind_small Beyond = omega arith
kind_small TooFast = omega arith

-- 24 bits: kind, step and number
pub verdict_small : (v : Verdict) → verdict_number (verdict_of v) < 2 ^ 24
verdict_small Accepted = omega arith
verdict_small (Broken f step n) = omega (arith, kind_small f)
