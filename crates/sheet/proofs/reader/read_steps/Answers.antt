use native.Mathlib.Omega.{arith}
use Rattle.sheet.proofs.ReadLaws.{names_fit, done_start, done_end, done_refused, done_more}
use Rattle.sheet.proofs.reader.read_steps.Goals as goal

pub lines-init : goal.lines-init
lines-init c = (omega arith, done_start c.args.agents c.args.text.now c.args.buffer.now)

pub returns-in-Ok-None : goal.returns-in-Ok-None
returns-in-Ok-None c =
    let fits = names_fit c.args.agents c.lines.steps c.requires.agents c.lines.invariant.0 in
    let (a, n) = done_end c.args.agents c.args.text.now c.lines.rest.now c.lines.buffer c.lines.steps c.lines.invariant.1 _ (omega arith) (rw c.in-Ok-None.field-0-is at c.in-Ok-None.ensures) in
    record { answer = a; most = c.lines.invariant.0; names = n }

pub lines-preserved : goal.lines-preserved
lines-preserved c =
    let fits = names_fit c.args.agents c.lines.steps c.requires.agents c.lines.invariant.0 in
    let s = rw c.in-Ok-Some.field-0-is at c.in-Ok-Some.ensures in
    (omega (arith, s.before), done_more c.args.agents c.args.text.now c.lines.rest.now c.lines.buffer c.lines.steps c.lines.invariant.1 c.next_step.new.names _ s (omega arith))

pub returns-in-Err-clause-answer : goal.returns-in-Err-clause-answer
returns-in-Err-clause-answer c = done_refused c.args.agents c.args.text.now c.lines.rest.now c.lines.buffer c.lines.steps c.lines.invariant.1 _ c.in-Err.ensures
