use Prim.Native.Nat.{ℕ}
use Rattle.bmap.specs.Domain.{Domain}
use Rattle.bmap.specs.Sheet.{rows}
use Rattle.judge.specs.States.{states_of}
use Rattle.judge.specs.Prepared.{Planned}
use Rattle.judge.proofs.RunLaws.{Round, Going}
use Rattle.judge.proofs.steps.run_steps.Given as goal

abbrev pub invariant-loop-j : goal.invariant-loop-j
invariant-loop-j l =
    Round l.n l.agents l.history l.rest l.j × ((d : Domain) (m : ℕ) → Planned d l.held m l.plan
    → Going d l.agents l.n l.counts.fluents (rows l.agents l.n l.sheet) (states_of l.counts.fluents 1 l.initial.history) l.j l.history l.levels l.acting l.before l.rest)
