use Rattle.line.proofs.Lists.{length_back}
use Rattle.domain.proofs.WriterLaws.{writes_first, writes_done, writes_next}
use Rattle.domain.proofs.Held.{framed, no_frame}
use Rattle.domain.proofs.writer.write_lines.Goals as goal

pub loop-size-init : goal.loop-size-init
loop-size-init c = writes_first c.args.store.now c.args.text.now c.requires

pub loop-size-preserved : goal.loop-size-preserved
loop-size-preserved c =
    let w = c.loop-size.invariant in
    writes_next w c.in-Some.size (framed c.args.store.now c.loop-size.at c.in-Some.size c.in-Some.ensures) c.put_line.new.out c.put_line.ensures.buffer
    (length_back c.loop-size.text c.put_line.new.out c.loop-size.used w.front.inside c.put_line.auto.out)

pub returns : goal.returns
returns c = writes_done c.loop-size.invariant (no_frame _ _ c.in_default.ensures)
