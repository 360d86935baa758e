use Rattle.std.proofs.Common.{refl}
use Rattle.domain.specs.Frames.{refusal_in}
use Rattle.domain.proofs.FramesLaws.{starts, starts_not}
use Rattle.domain.proofs.frames.start.Goals as goal

pub returns-then-is_accepted : goal.returns-then-is_accepted
unfolding refusal_in
returns-then-is_accepted c = let e = starts c.args.store.now c.if-is_accepted.ensures in record { contents = rw e; itself = refl; place = rw e; refusal = rw e }

pub returns-else-is_accepted : goal.returns-else-is_accepted
unfolding refusal_in
returns-else-is_accepted c = let e = starts_not c.args.store.now c.if-is_accepted.ensures in record { contents = rw e; itself = refl; place = rw e; refusal = rw e }
