use mathlib.Core.Path.{sym, ◌∙◌}
use native.Mathlib.Omega.{arith}
use Rattle.session.proofs.CallLaws.{open_is}
use Rattle.session.proofs.value.redone.Goals as goal

pub replay-requires-clause-few : goal.replay-requires-clause-few
replay-requires-clause-few c = (open_is c.args.s (sym c.is_open.ensures ∙ c.if-not-is_open.false)).few

pub replay-requires-clause-short : goal.replay-requires-clause-short
replay-requires-clause-short c = let o = open_is c.args.s (sym c.is_open.ensures ∙ c.if-not-is_open.false) in omega arith
