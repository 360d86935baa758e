-- Each turn has less left.
use Rattle.frame_cases.proofs.TurnLaws.{ahead}
use Rattle.frame_cases.proofs.hand_out.Given as goal

abbrev pub decreases-loop-left : goal.decreases-loop-left
decreases-loop-left g l = ahead l.left l.r
