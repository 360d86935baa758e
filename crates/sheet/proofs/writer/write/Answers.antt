use native.Mathlib.Omega.{arith}
use mathlib.Core.Path.{sym, ap, ◌∙◌}
use Rattle.std.specs.Slice.Iter.{chunks_exact_rest, chunks_exact_size}
use Rattle.sheet.proofs.Agents.{known_agents}
use Rattle.sheet.proofs.WriteLaws.{whole_steps, write_agents, write_not_whole, write_too_long, write_no_room, write_done, put_start, line_room, line_put, line_fits, put_more, put_end}
use Rattle.sheet.proofs.writer.write.Goals as goal

pub returns-then-not-agents_known : goal.returns-then-not-agents_known
returns-then-not-agents_known c =
    let (a, b) = write_agents c.args.sheet.now c.args.text.now c.args.agents (sym c.if-not-agents_known.ensures) in record { answer = a; buffer = b }

pub returns-then-sheet-agents-ne0 : goal.returns-then-sheet-agents-ne0
returns-then-sheet-agents-ne0 c =
    let (a, b) = write_not_whole c.args.sheet.now c.args.text.now c.args.agents (sym c.if-not-agents_known.ensures) c.if-sheet-agents-ne0.true in record { answer = a; buffer = b }

pub returns-then-steps-gt-STEPS : goal.returns-then-steps-gt-STEPS
returns-then-steps-gt-STEPS c =
    let (a, b) = write_too_long c.args.sheet.now c.args.text.now c.args.agents (sym c.if-not-agents_known.ensures) c.if-sheet-agents-ne0.false c.if-steps-gt-STEPS.true in
    record { answer = a; buffer = b }

pub returns-then-text-total : goal.returns-then-text-total
returns-then-text-total c =
    let (a, b) = write_no_room c.args.sheet.now c.args.text.now c.args.agents c.line_size.result c.line_size.ensures (sym c.if-not-agents_known.ensures) c.if-sheet-agents-ne0.false c.if-steps-gt-STEPS.false c.if-text-total.true in
    record { answer = a; buffer = b }

pub loop-names-init : goal.loop-names-init
loop-names-init c =
    let rest = ap chunks_exact_rest c.into_iter-names-iterator.ensures.into_iter_gives ∙ c.chunks_exact-names-items.ensures.rest in
    let size = ap chunks_exact_size c.into_iter-names-iterator.ensures.into_iter_gives ∙ c.chunks_exact-names-items.ensures.size in
    (size, put_start _ _ _ _ _ rest (whole_steps c.args.sheet.now c.args.text.now c.args.agents c.if-sheet-agents-ne0.false) (rw c.line_size.ensures at c.if-text-total.false))

pub returns-in_err-used : goal.returns-in_err-used
returns-in_err-used c =
    let s = c.in-Some.ensures.steps in
    let k = known_agents c.args.agents (sym c.if-not-agents_known.ensures) in
    absurd (line_fits _ _ _ _ _ _ _ c.loop-names.invariant.1 _ _ s.1.0 (s.1.1 ∙ c.loop-names.invariant.0) k.1 k.0 _ c.in_err-used.ensures.answer)

pub overflow_add-used : goal.overflow_add-used
overflow_add-used c =
    let s = c.in-Some.ensures.steps in
    let k = known_agents c.args.agents (sym c.if-not-agents_known.ensures) in
    omega (
      arith,
      line_room _ _ _ _ _ _ _ c.loop-names.invariant.1 _ _ s.1.0 (s.1.1 ∙ c.loop-names.invariant.0) k.1 k.0,
      line_put _ _ _ _ _ _ _ c.loop-names.invariant.1 _ _ s.1.0 (s.1.1 ∙ c.loop-names.invariant.0) k.1 k.0 _ c.in_ok-used.ensures.answer,
    )

pub loop-names-preserved : goal.loop-names-preserved
loop-names-preserved c =
    let s = c.in-Some.ensures.steps in
    let k = known_agents c.args.agents (sym c.if-not-agents_known.ensures) in (
      s.0 ∙ c.loop-names.invariant.0,
      put_more _ _ _ _ _ _ _ c.loop-names.invariant.1 _ _ s.1.0 (s.1.1 ∙ c.loop-names.invariant.0) k.1 k.0 _ _
          (line_put _ _ _ _ _ _ _ c.loop-names.invariant.1 _ _ s.1.0 (s.1.1 ∙ c.loop-names.invariant.0) k.1 k.0 _ c.in_ok-used.ensures.answer) c.in_ok-used.ensures.buffer,
    )

pub returns : goal.returns
returns c =
    let s = c.in-None.ensures.steps in
    let (a, b) = write_done c.args.sheet.now c.args.text.now c.args.agents c.line_size.result c.line_size.ensures (sym c.if-not-agents_known.ensures) c.if-sheet-agents-ne0.false c.if-steps-gt-STEPS.false _ c.if-text-total.false
    (put_end _ _ _ _ _ _ _ c.loop-names.invariant.1 (omega (arith, s.1.0, c.loop-names.invariant.0))) in
    record { answer = a; buffer = b }
