use Rattle.std.proofs.Common.{ap, ◌∙◌, take, drop}
use Rattle.index.proofs.PartLaws.{with_bytes}
use Rattle.domain.proofs.FramesLaws.{part_is}
use Rattle.domain.proofs.frames.frame_part.Goals as goal

pub returns : goal.returns
returns c =
    let s = c.args.store.now in
    with_bytes (ap (λ n. take n (drop c.args.at s)) c.unwrap_or.ensures ∙ part_is s c.args.at c.frame_at.result c.frame_at.ensures) c.part.ensures
