use Rattle.domain.proofs.FramesLaws.{no_move, a_move}
use Rattle.domain.proofs.Held.{framed, no_frame}
use Rattle.domain.proofs.frames.next_at.Goals as goal

pub returns-in-Some : goal.returns-in-Some
returns-in-Some c = a_move c.args.store.now c.args.at c.in-Some.size (framed _ _ _ c.in-Some.ensures)

pub returns-in-None : goal.returns-in-None
returns-in-None c = no_move c.args.store.now c.args.at (no_frame _ _ c.in-None.ensures)
