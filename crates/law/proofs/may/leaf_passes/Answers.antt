use mathlib.Core.Path.{sym, ◌∙◌}
use borrow.Author.Tests.{ne_eqb}
use Rattle.law.proofs.MayLaws.{leaf_constant}
use Rattle.law.proofs.may.leaf_passes.Goals as goal

pub returns-then-operator-eq0 : goal.returns-then-operator-eq0
returns-then-operator-eq0 c = λ t asks.
    rw (ne_eqb c.args.wanted 3 c.if-wanted-eq-CONSTRAINT.false) (leaf_constant t c.args.row c.args.a c.args.b (sym c.operator.ensures ∙ c.if-operator-eq0.true))
