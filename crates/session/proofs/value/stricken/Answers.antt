use mathlib.Core.Path.{◌≡◌, ap, ◌∙◌}
use Rattle.std.proofs.Common.{rules}
use Rattle.std.specs.Prelude.{Err}
use Rattle.bmap.specs.Session.{strike}
use Rattle.session.specs.Calls.{changed_on}
use Rattle.session.proofs.CallLaws.{may_refused}
use Rattle.session.proofs.value.stricken.Goals as goal

pub returns-in_err-may_edit : goal.returns-in_err-may_edit
returns-in_err-may_edit c =
    let e : c.from_residual.result ≡ Err c.in_err-may_edit.field-0.0 = search rules in
    ap (changed_on c.args.s) e ∙ may_refused c.args.s _ c.in_err-may_edit.ensures strike
