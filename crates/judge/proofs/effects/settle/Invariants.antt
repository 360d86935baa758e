use Prim.Native.Nat.{ℕ, ◌≤◌}
use mathlib.Core.Path.{◌≡◌}
use mathlib.Core.List.{List, []}
use mathlib.Core.Bool.{true}
use lib.IntN.{ℤ}
use lib.ListN.{drop}
use Rattle.bmap.specs.Plain.{all}
use Rattle.bmap.specs.Domain.{Domain, Names}
use Rattle.bmap.specs.Meaning.{History}
use Rattle.bmap.specs.Judge.{Checked, Setting, agrees, settled}
use Rattle.judge.specs.Settings.{said, settings_of}
use Rattle.judge.specs.Told.{Lawful, Within, Occurring, Seen}
use Rattle.judge.specs.declared.reading.Run.{Run}
use Rattle.judge.proofs.effects.settle.Given as goal

-- what the settling of all laws gives
abbrev pub Gives : List ℕ → Run → ℕ → List ℤ → ℕ → (Domain → History → Names → Checked (List Setting)) → Type 0
Gives held run entries history j y =
    (d : Domain) (h : History) (n : ℕ) (names : Names) → Lawful d held n → Within held n 0xA6 run → Occurring d names entries → Seen true d h history j
    → settled d h j names 0 [] d.laws ≡ y d h names

abbrev pub invariant-loop-i : goal.invariant-loop-i
invariant-loop-i l = (l.bad ≡ l.initial.bad) × (all (agrees (said l.new)) (settings_of l.m l.settings) ≡ all (agrees (said l.new)) (settings_of l.i l.settings))

abbrev pub invariant-laws : goal.invariant-laws
invariant-laws l =
    (l.bad ≡ l.fn.run.to) × (((l.m ≤ l.l) × (l.m ≤ l.fn.run.to))
    × Gives l.held l.fn.run l.entries l.history l.j (λ d h names. settled d h l.j names l.l (settings_of l.m l.settings) (drop l.l d.laws)))
