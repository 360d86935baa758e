use Rattle.std.proofs.Common.{sym}
use borrow.Author.Tests.{eqb-false}
use Rattle.frame_cases.proofs.TurnLaws.{stays_less, moves_less}
use Rattle.frame_cases.proofs.hand_out.Goals as goal

pub loop-left-smaller-then-is_empty : goal.loop-left-smaller-then-is_empty
loop-left-smaller-then-is_empty g c =
    stays_less c.loop-left.left c.loop-left.r c.next-part.new.r c.next-part.result c.next-part.ensures c.loop-left-test.true

pub loop-left-smaller : goal.loop-left-smaller
loop-left-smaller g c =
    moves_less c.loop-left.left c.loop-left.r c.next-part.new.r c.next-part.result c.next-part.ensures (eqb-false _ _ (sym c.if-is_empty.ensures))
