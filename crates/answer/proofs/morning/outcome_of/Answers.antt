use Rattle.std.proofs.Common.{◌≡◌, ◌*◌, take, refl, sym, subst, arith, rules, length-take-le}
use Rattle.std.specs.Prelude.{Err}
use Rattle.bmap.specs.Supplement.{replaced}
use Rattle.answer.specs.Morning.{ComesTo, Modest}
use Rattle.answer.proofs.ProgramLaws.{counts_speak, line_small, used_most, StepsRead, text_refused, text_read}
use Rattle.answer.proofs.MorningLaws.{sheet_accepted, sheet_broken, not_refused}
use Rattle.answer.proofs.morning.outcome_of.Goals as goal

pub returns-in_err-steps : goal.returns-in_err-steps
unfolding replaced
returns-in_err-steps c =
    let is : c.from_residual.result ≡ Err c.in_err-steps.field-0.0 = search rules in
    record {
      comes_to = λ d s k.
          subst (λ r. ComesTo (replaced s d) c.args.text.now c.args.levels.now r c.args.levels.now) (sym is)
          (text_refused c.args.store.now _ c.requires.0 _ _ c.read.result c.read.ensures.answer c.read.ensures.buffer refl d k.domain (counts_speak k) _ c.in_err-steps.was);
      modest = subst (Modest c.args.text.now) (sym is) (line_small c.args.store.now _ c.requires.0 _ _ c.read.result c.read.ensures.answer c.read.ensures.buffer refl _ c.in_err-steps.was);
    }

pub overflow_mul-used : goal.overflow_mul-used
overflow_mul-used c = omega (arith, used_most c.args.store.now _ c.requires.0 _ _ c.read.result c.read.ensures.answer c.read.ensures.buffer refl _ c.in_ok-steps.was)

pub slice_bounds-names-end : goal.slice_bounds-names-end
slice_bounds-names-end c = omega (arith, used_most c.args.store.now _ c.requires.0 _ _ c.read.result c.read.ensures.answer c.read.ensures.buffer refl _ c.in_ok-steps.was)

pub slice_bounds-judge_found-end : goal.slice_bounds-judge_found-end
slice_bounds-judge_found-end c = sym (length-take-le _ _ (omega (arith, used_most c.args.store.now _ c.requires.0 _ _ c.read.result c.read.ensures.answer c.read.ensures.buffer refl _ c.in_ok-steps.was)))

pub returns-in-Accepted-clause-comes_to : goal.returns-in-Accepted-clause-comes_to
returns-in-Accepted-clause-comes_to c = λ d s k.
    let steps : StepsRead d.agents c.args.text.now (take (c.in_ok-steps.steps * c.args.under.index.counts.agents) c.read.new.buffer) = text_read c.args.store.now _ c.requires.0 _ _ c.read.result c.read.ensures.answer c.read.ensures.buffer refl d k.domain (counts_speak k) _ c.in_ok-steps.was in
    sheet_accepted _ _ _ _ _ _ (c.judge_found.ensures.levels_after k.found) c.requires.1 d s k.domain k.accepted steps _ c.in-Ok.is (c.judge_found.ensures.states k.found) c.in-Accepted.is

pub returns-in-Broken-clause-comes_to : goal.returns-in-Broken-clause-comes_to
returns-in-Broken-clause-comes_to c = λ d s k.
    let steps : StepsRead d.agents c.args.text.now (take (c.in_ok-steps.steps * c.args.under.index.counts.agents) c.read.new.buffer) = text_read c.args.store.now _ c.requires.0 _ _ c.read.result c.read.ensures.answer c.read.ensures.buffer refl d k.domain (counts_speak k) _ c.in_ok-steps.was in
    sheet_broken _ _ _ _ _ _ (c.judge_found.ensures.levels_after k.found) c.requires.1 d s k.domain k.accepted steps _ c.in-Ok.is (c.judge_found.ensures.states k.found) c.in-Broken.is

pub returns-in-Err-clause-comes_to : goal.returns-in-Err-clause-comes_to
returns-in-Err-clause-comes_to c = λ d s k.
    let steps : StepsRead d.agents c.args.text.now (take (c.in_ok-steps.steps * c.args.under.index.counts.agents) c.read.new.buffer) = text_read c.args.store.now _ c.requires.0 _ _ c.read.result c.read.ensures.answer c.read.ensures.buffer refl d k.domain (counts_speak k) _ c.in_ok-steps.was in
    absurd (not_refused _ _ _ _ _ _ (c.judge_found.ensures.levels_after k.found) c.requires.1 d s k.domain k.accepted steps _ c.in-Err.is)
