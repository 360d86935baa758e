use Rattle.std.proofs.Common.{◌+◌, ap, sym, ◌∙◌}
use Rattle.bmap.specs.Plain.{both}
use Rattle.domain.specs.Progress.{complete_in}
use Rattle.domain.proofs.Held.{cut, framed, no_frame, held_first, held_few, held_end, held_stops, held_goes}
use Rattle.domain.proofs.found.index_of.Goals.{then-is_zero_from, else-is_zero_from}
use Rattle.domain.proofs.found.index_of.Goals as goal

pub loop-size-init : goal.loop-size-init
loop-size-init c = held_first c.args.store.now _ c.new-progress.ensures

pub take-requires-clause-few : goal.take-requires-clause-few
take-requires-clause-few c = held_few c.loop-size.invariant

pub is_complete-requires : goal.is_complete-requires
is_complete-requires c = held_few c.loop-size.invariant

pub returns-in_err-ok : goal.returns-in_err-ok
returns-in_err-ok c =
    let g = framed c.args.store.now c.loop-size.at c.in-Some.size c.in-Some.ensures in
    c.from_residual.ensures ∙ sym (held_stops c.loop-size.invariant (cut c.args.store.now c.loop-size.at c.in-Some.size) g.stands c.take.result c.take.ensures.answer (sym c.in_err-ok.was ∙ c.ok.ensures.value))

pub loop-size-preserved : goal.loop-size-preserved
loop-size-preserved c =
    let g = framed c.args.store.now c.loop-size.at c.in-Some.size c.in-Some.ensures in
    held_goes c.loop-size.invariant (cut c.args.store.now c.loop-size.at c.in-Some.size) g.stands c.take.result _ c.take.ensures.answer (sym c.in_ok-ok.was ∙ c.ok.ensures.value)
    c.take.new.self c.take.ensures.taken _ (ap (λ n. c.loop-size.at + n) g.is)

pub returns : goal.returns
returns c =
    c.then_some.ensures
    ∙ sym (held_end c.loop-size.invariant (no_frame _ _ c.in_default.ensures) c.if-is_zero_from.then_some
    (elim c.if-is_zero_from.branch [
      | then-is_zero_from w ↦ w.then_some-is ∙ w.is_complete.ensures ∙ ap (λ b. both b (complete_in c.loop-size.progress)) w.if-is_zero_from.ensures
      | else-is_zero_from w ↦ w.then_some-is ∙ w.if-is_zero_from.false ∙ ap (λ b. both b (complete_in c.loop-size.progress)) w.if-is_zero_from.ensures
    ]))
