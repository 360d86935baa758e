use Rattle.line.specs.Within.{Spelt}
use Rattle.line.proofs.payload.spell_each.Given as goal

abbrev pub invariant-loop-n : goal.invariant-loop-n
invariant-loop-n l = Spelt l.text l.out l.n
