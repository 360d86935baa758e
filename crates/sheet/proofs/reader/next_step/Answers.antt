use mathlib.Core.Path.{◌≡◌, sym, ap, subst, ◌∙◌}
use mathlib.Core.Option.{none}
use lib.ListN.{take, replicate}
use lib.Seq.{length-take-le}
use native.Mathlib.Omega.{arith}
use borrow.Author.Rules.{rules}
use Rattle.std.specs.Prelude.{Ok, Err}
use Rattle.bmap.specs.Limits.{frame_size}
use Rattle.line.specs.Read.{said, first_payload}
use Rattle.line.proofs.LineLaws.{line_taken}
use Rattle.line.proofs.PayloadLaws.{payload_told}
use Rattle.sheet.specs.Step.{NextIs, LineStep}
use Rattle.sheet.proofs.ReadLaws.{a_step, next_end, next_refused, bad_kind, too_long, not_whole}
use Rattle.sheet.proofs.reader.next_step.Goals as goal
use Rattle.sheet.proofs.reader.next_step.Goals.{else-steps-lt-STEPS-via-then-steps-lt-STEPS+else-read_payload, else-steps-lt-STEPS-via-else-steps-lt-STEPS}

pub returns-then-read_payload : goal.returns-then-read_payload
returns-then-read_payload c =
    let lent = length-take-le c.args.agents c.args.names.now (c.requires.room c.if-steps-lt-STEPS.true) in
    let told = payload_told _ (take c.args.agents c.args.names.now) _ _ _ c.if-read_payload.ensures in
    subst (LineStep _ _ _ _) (sym c.line_size.ensures) (a_step _ _ _ _ _ c.if-steps-lt-STEPS.true (ap (λ n. first_payload 0xB1 n c.args.rest.now) (sym lent) ∙ told))

pub returns-in_err-read_line : goal.returns-in_err-read_line
returns-in_err-read_line c =
    let e : c.from_residual.result ≡ Err c.in_err-read_line.field-0.0 = search rules in
    subst (NextIs _ _ _ _) (sym e) (next_refused _ _ _ (replicate frame_size 0) _ (omega arith) c.in_err-read_line.ensures.answer)

pub returns-in_default : goal.returns-in_default
returns-in_default c = next_end _ (replicate frame_size 0) (ap (λ o. said (Ok o)) (sym c.in_default.is) ∙ c.in_ok-read_line.ensures.answer)

pub returns-then-frame : goal.returns-then-frame
returns-then-frame c =
    let t = line_taken c.args.rest.now (replicate frame_size 0) c.read_line.new.out _ _ (omega arith) (ap (λ o. said (Ok o)) (sym c.in-Some.is) ∙ c.in_ok-read_line.ensures.answer) c.in_ok-read_line.ensures.buffer in
    bad_kind _ _ _ _ _ _ _ t c.if-frame.true

pub returns-then-steps-ge-STEPS : goal.returns-then-steps-ge-STEPS
returns-then-steps-ge-STEPS c =
    let t = line_taken c.args.rest.now (replicate frame_size 0) c.read_line.new.out _ _ (omega arith) (ap (λ o. said (Ok o)) (sym c.in-Some.is) ∙ c.in_ok-read_line.ensures.answer) c.in_ok-read_line.ensures.buffer in
    too_long _ _ _ _ _ _ _ t c.if-frame.false c.if-steps-ge-STEPS.true

pub returns : goal.returns
returns c =
    let t = line_taken c.args.rest.now (replicate frame_size 0) c.read_line.new.out _ _ (omega arith) (ap (λ o. said (Ok o)) (sym c.in-Some.is) ∙ c.in_ok-read_line.ensures.answer) c.in_ok-read_line.ensures.buffer in
    let other : first_payload 0xB1 c.args.agents c.args.rest.now ≡ none = elim c.else-steps-lt-STEPS.branch [
      | else-steps-lt-STEPS-via-then-steps-lt-STEPS+else-read_payload w ↦
          let lent = length-take-le c.args.agents c.args.names.now (c.requires.room w.if-steps-lt-STEPS.true) in
          ap (λ n. first_payload 0xB1 n c.args.rest.now) (sym lent) ∙ payload_told _ (take c.args.agents c.args.names.now) _ _ _ w.if-read_payload.ensures
      | else-steps-lt-STEPS-via-else-steps-lt-STEPS w ↦ absurd (omega arith)
    ] in
    not_whole _ _ _ _ _ _ _ t c.if-frame.false c.if-steps-ge-STEPS.false other
