use Prim.Native.Nat.{ℕ, ◌<◌}
use mathlib.Core.Path.{◌≡◌}
use mathlib.Core.Bool.{true}
use lib.ListN.{get_or}
use Rattle.judge.proofs.acting.same_names.Given as goal

abbrev pub invariant-loop-a : goal.invariant-loop-a
invariant-loop-a l = l.same ≡ true → (k : ℕ) → k < l.a → get_or l.before k 0 ≡ get_or l.names k 0
