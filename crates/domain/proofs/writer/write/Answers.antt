use Rattle.domain.proofs.WriterLaws.{write_15, write_10, write_text}
use Rattle.domain.proofs.writer.write.Goals as goal

pub returns-then-not-is_accepted : goal.returns-then-not-is_accepted
returns-then-not-is_accepted c = let w = write_15 c.args.store.now c.args.text.now c.if-not-is_accepted.ensures in record { answer = w.0; buffer = w.1 }

pub returns-then-not-lines_fit : goal.returns-then-not-lines_fit
returns-then-not-lines_fit c =
    let w = write_10 c.args.store.now c.args.text.now c.if-not-is_accepted.ensures c.if-not-lines_fit.ensures in record { answer = w.0; buffer = w.1 }

pub returns : goal.returns
returns c =
    let w = write_text c.args.store.now c.args.text.now c.if-not-is_accepted.ensures c.if-not-lines_fit.ensures c.write_lines.result c.write_lines.new.text c.write_lines.ensures in
    record { answer = w.0; buffer = w.1 }
