use mathlib.Core.Path.{sym, ap, refl, ◌∙◌}
use native.Mathlib.Omega.{arith}
use Rattle.sheet.specs.Answer.{reading_of}
use Rattle.sheet.proofs.Agents.{known_agents}
use Rattle.sheet.proofs.ReadLaws.{names_fit, read_short, read_agents, read_lines, read_refused}
use Rattle.sheet.proofs.reader.read.Goals as goal

pub returns-then-buffer-lt-BYTES : goal.returns-then-buffer-lt-BYTES
returns-then-buffer-lt-BYTES c =
    let (a, b) = read_short c.args.agents c.args.text.now c.args.buffer.now c.if-buffer-lt-BYTES.true in record { answer = a; buffer = b }

pub returns-then-not-agents_known : goal.returns-then-not-agents_known
returns-then-not-agents_known c =
    let (a, b) = read_agents c.args.agents c.args.text.now c.args.buffer.now _ (omega arith) (sym c.if-not-agents_known.ensures) (c.fill.ensures.after (λ y e. e)) in
    record { answer = a; buffer = b }

pub overflow_mul-steps : goal.overflow_mul-steps
overflow_mul-steps c = omega (arith, names_fit c.args.agents c.in-Ok.steps (known_agents _ (sym c.if-not-agents_known.ensures)).1 c.in-Ok.ensures.most)

pub returns-in-Ok : goal.returns-in-Ok
returns-in-Ok c =
    let (a, b) = read_lines c.args.agents c.args.text.now c.args.buffer.now _ (omega arith) _ (sym c.if-not-agents_known.ensures) c.in-Ok.ensures.answer (c.zero_from.ensures ∙ rw (c.in-Ok.ensures.names, c.read_steps-answer.auto.buffer) refl) in
    record { answer = a; buffer = b }

pub returns-in-Err : goal.returns-in-Err
returns-in-Err c =
    let (a, b) = read_refused c.args.agents c.args.text.now c.args.buffer.now _ (omega arith) _ _ (sym c.if-not-agents_known.ensures) c.in-Err.ensures.answer (c.fill-in-Err.ensures.after (λ y e. e) ∙ rw c.read_steps-answer.auto.buffer refl) in
    record { answer = ap reading_of c.in-Err.is ∙ a; buffer = b }
