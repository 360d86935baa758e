use Prim.Native.Nat.{ℕ, ◌/◌, ◌^◌}
use mathlib.Core.Path.{◌≡◌}
use mathlib.Core.Bool.{true}
use lib.ListN.{drop}
use Rattle.bmap.specs.Domain.{Domain, Names}
use Rattle.bmap.specs.Meaning.{History}
use Rattle.bmap.specs.Judge.{each_from, may_occur}
use Rattle.judge.specs.Told.{Lawful, Owns, Owned, Acts, Seen}
use Rattle.judge.proofs.checks.check_entries.Given as goal

abbrev pub invariant-loop-rest : goal.invariant-loop-rest
invariant-loop-rest l = (l.rest ≡ l.step.acting.entries / 2 ^ l.i) × ((d : Domain) (h : History) (n : ℕ) (names : Names) → Lawful d l.held n → Owns l.owners n l.own → Owned d l.owners → Acts d names l.step.acting → Seen true d h l.history l.step.j
    → each_from 0 (may_occur d h l.step.j names) d.entries ≡ each_from l.i (may_occur d h l.step.j names) (drop l.i d.entries))

abbrev pub decreases-loop-rest : goal.decreases-loop-rest
decreases-loop-rest l = l.rest
