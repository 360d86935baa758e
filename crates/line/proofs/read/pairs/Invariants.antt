use Prim.Native.Nat.{◌+◌, ◌-◌, ◌*◌}
use mathlib.Core.Path.{◌≡◌}
use lib.ListN.{length, drop}
use Rattle.line.specs.Read.{spelt}
use Rattle.line.proofs.read.pairs.Given as goal

abbrev pub invariant-loop-n : goal.invariant-loop-n
invariant-loop-n l = length (spelt (length l.text) l.text) ≡ l.n + length (spelt (length l.text - l.n) (drop (2 * l.n) l.text))
