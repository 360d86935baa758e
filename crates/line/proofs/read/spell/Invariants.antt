use Prim.Native.Nat.{◌-◌, ◌*◌}
use mathlib.Core.Path.{◌≡◌}
use mathlib.Core.List.{◌++◌}
use lib.ListN.{length, take, drop}
use Rattle.line.specs.Read.{spelt}
use Rattle.line.proofs.read.spell.Given as goal

abbrev pub invariant-loop-n : goal.invariant-loop-n
invariant-loop-n l =
    (spelt (length l.initial.out) l.text ≡ take l.n l.out ++ spelt (length l.initial.out - l.n) (drop (2 * l.n) l.text)) × (drop l.n l.out ≡ drop l.n l.initial.out)
