use Rattle.bmap.specs.Line.{Frame}
use Rattle.domain.proofs.Passed.{passed, passed_entry}
use Rattle.domain.specs.Progress.{entries_in}
use Rattle.domain.proofs.progress.Progress.take.Goals as goal

pub note-requires : goal.note-requires
note-requires c =
    let x = c.args.self.now in
    let f : Frame = record { kind = c.args.kind; payload = c.args.p.now } in
    let v = passed x.latest x.index.counts (entries_in x.index) f c.in_ok-check.ensures in
    record { ordered = v.ordered; room = v.fits; entry = passed_entry _ _ _ f v c.requires.few }
