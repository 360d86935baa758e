use Rattle.std.proofs.Common.{◌≡◌, ◌∙◌}
use Rattle.law.specs.Check.{back_once}
use Rattle.law.proofs.MayLaws.{asks_allowed, asks_barred}
use Rattle.law.proofs.may.allowed_in.Goals as goal
use Rattle.law.proofs.may.allowed_in.Goals.{then-x, else-x}

pub returns-then-x-2 : goal.returns-then-x-2
returns-then-x-2 c =
    let back : c.if-x.back ≡ back_once c.args.x.back = elim c.if-x.branch [ then-x w ↦ w.back-is ∙ rw w.if-x.true | else-x w ↦ w.back-is ∙ rw w.if-x.false ] in
    asks_allowed c.args.x c.limit-fluents.ensures back c.limit.ensures c.word.ensures c.if-x-2.true

pub returns : goal.returns
returns c =
    let back : c.if-x.back ≡ back_once c.args.x.back = elim c.if-x.branch [ then-x w ↦ w.back-is ∙ rw w.if-x.true | else-x w ↦ w.back-is ∙ rw w.if-x.false ] in
    asks_barred c.args.x c.limit-fluents.ensures back c.word-2.ensures c.if-x-2.false
