use Prim.Native.Nat.{◌≤◌, ◌-◌}
use lib.ListN.{length}
use Rattle.line.specs.Within.{Spelt}
use Rattle.line.proofs.payload.spell_blocks.Given as goal

abbrev pub invariant-loop-out : goal.invariant-loop-out
invariant-loop-out g l = (l.at ≤ length l.initial.out) × Spelt l.text l.out l.at

abbrev pub decreases-loop-out : goal.decreases-loop-out
decreases-loop-out g l = length l.initial.out - l.at
