use Prim.Native.Nat.{ℕ}
use mathlib.Core.Path.{◌≡◌}
use mathlib.Core.Bool.{true}
use lib.ListN.{drop}
use Rattle.bmap.specs.Domain.{Domain}
use Rattle.bmap.specs.Meaning.{History}
use Rattle.bmap.specs.Judge.{permitted}
use Rattle.judge.specs.Told.{Lawful, Own, Owned, Seen}
use Rattle.judge.proofs.checks.check_entry.Given as goal

abbrev pub invariant-loop-l : goal.invariant-loop-l
invariant-loop-l l = (d : Domain) (h : History) (n : ℕ) → Lawful d l.held n → Own l.owners n l.i l.fn.run → Owned d l.owners → Seen true d h l.history l.j → permitted d h l.j l.i 0 d.laws ≡ permitted d h l.j l.i l.l (drop l.l d.laws)
