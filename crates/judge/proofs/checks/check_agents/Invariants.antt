use mathlib.Core.Path.{◌≡◌}
use lib.ListN.{drop}
use Rattle.bmap.specs.Domain.{Domain}
use Rattle.bmap.specs.Judge.{each_from, placed}
use Rattle.judge.specs.Told.{Belonging}
use Rattle.judge.proofs.checks.check_agents.Given as goal

abbrev pub invariant-loop-a : goal.invariant-loop-a
invariant-loop-a l = (d : Domain) → Belonging d l.names l.agents → each_from 0 (placed d l.names) l.names ≡ each_from l.a (placed d l.names) (drop l.a l.names)
