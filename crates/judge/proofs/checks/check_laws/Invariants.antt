use Prim.Native.Nat.{ℕ}
use mathlib.Core.Path.{◌≡◌}
use lib.ListN.{drop}
use Rattle.bmap.specs.Domain.{Domain, Scope}
use Rattle.bmap.specs.Meaning.{History}
use Rattle.bmap.specs.Judge.{each_from, holds}
use Rattle.bmap.specs.Payload.{asks, scope_kind}
use Rattle.judge.specs.Answer.{kind_of}
use Rattle.judge.specs.Told.{Lawful, Within, Seen}
use Rattle.judge.proofs.checks.check_laws.Given as goal

abbrev pub invariant-loop-l : goal.invariant-loop-l
invariant-loop-l l = (d : Domain) (h : History) (s : Scope) (n : ℕ) → l.kind ≡ scope_kind s → Lawful d l.held n → Within l.held n l.kind l.fn.run → Seen (asks s) d h l.history l.j
    → each_from 0 (holds s (kind_of l.fault) h l.j) d.laws ≡ each_from l.l (holds s (kind_of l.fault) h l.j) (drop l.l d.laws)
