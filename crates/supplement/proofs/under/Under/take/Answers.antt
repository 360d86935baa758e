use mathlib.Core.Path.{◌≡◌}
use Rattle.std.proofs.Common.{rules, Err}
use Rattle.supplement.proofs.CheckLaws.{laws_stand, noted_taken, noted_refused}
use Rattle.supplement.proofs.under.Under.take.Goals as goal

pub returns-in_err-n-clause-over : goal.returns-in_err-n-clause-over
returns-in_err-n-clause-over c earlier places =
    let e : c.from_residual.result ≡ Err c.in_err-n.field-0.0 = search rules in
    rw e (noted_refused _ _ _ _ (c.in_err-n.ensures.number _ earlier (laws_stand _ _ c.requires.sound) places))

pub returns-clause-over : goal.returns-clause-over
returns-clause-over c earlier places = noted_taken _ _ _ _ (c.in_ok-n.ensures.number _ earlier (laws_stand _ _ c.requires.sound) places)
