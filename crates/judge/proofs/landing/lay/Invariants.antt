use Prim.Native.Nat.{ℕ, ◌≤◌}
use mathlib.Core.List.{[]}
use Rattle.bmap.specs.Limits.{most_fluents}
use Rattle.bmap.specs.Domain.{State}
use Rattle.judge.specs.Settings.{settings_of}
use Rattle.judge.specs.Landing.{Laid}
use Rattle.judge.proofs.landing.lay.Given as goal

abbrev pub invariant-loop-setting : goal.invariant-loop-setting
invariant-loop-setting l = (w : ℕ) (old : State) → w ≤ most_fluents → Laid w l.initial.new [] old → Laid w l.new (settings_of l.setting-index l.settings) old
