use mathlib.Core.Path.{sym}
use native.Mathlib.Omega.{arith}
use borrow.Author.Tests.{eqb-true}
use Rattle.line.proofs.WholeLaws.{whole_is, not_whole}
use Rattle.line.proofs.whole.whole_line.Goals as goal

pub returns-then-all_digits : goal.returns-then-all_digits
returns-then-all_digits c =
    whole_is c.args.text.now _ c.in_ok-count.ensures.1 (omega arith) (eqb-true _ _ (sym c.if-feed_at.ensures)) (sym c.if-all_digits.ensures)

pub returns-else-all_digits : goal.returns-else-all_digits
returns-else-all_digits c = not_whole c.args.text.now _ c.in_ok-count.ensures.1 (sym c.if-all_digits.ensures)
