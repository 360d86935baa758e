use Prim.Native.Nat.{◌<◌}
use mathlib.Core.Path.{◌≡◌, sym, ap, ◌∙◌}
use native.Mathlib.Omega.{arith}
use lib.ListN.{length}
use borrow.Author.Rules.{rules}
use Rattle.std.specs.Prelude.{Err}
use Rattle.bmap.specs.Judge.{each_from, may_occur}
use Rattle.judge.specs.Answer.{pass_of}
use Rattle.judge.proofs.LoopLaws.{stops, on, each_on, each_stop, each_none, rests}
use Rattle.judge.proofs.CheckLaws.{no_entry, occurs_may, occurs_not}
use Rattle.judge.proofs.MaskLaws.{next_rest, rest_within, bit_set, bit_clear, bits_none}
use Rattle.judge.proofs.checks.check_entries.Goals as goal
use Rattle.judge.proofs.checks.check_entries.Goals.{then-rest-eq1+in_ok-check_entry, else-rest-eq1}

pub bounds-own-i : goal.bounds-own-i
bounds-own-i c =
    let here : c.loop-rest.i < 64 = rest_within c.args.step.acting.entries 64 c.loop-rest.i (omega (arith, c.well_formed)) c.loop-rest.invariant.0 c.loop-rest-test.true in
    omega arith

pub offset_bounds-own-i : goal.offset_bounds-own-i
offset_bounds-own-i c =
    let here : c.loop-rest.i < 64 = rest_within c.args.step.acting.entries 64 c.loop-rest.i (omega (arith, c.well_formed)) c.loop-rest.invariant.0 c.loop-rest-test.true in
    omega arith

pub check_entry-requires : goal.check_entry-requires
check_entry-requires c =
    let here : c.loop-rest.i < 64 = rest_within c.args.step.acting.entries 64 c.loop-rest.i (omega (arith, c.well_formed)) c.loop-rest.invariant.0 c.loop-rest-test.true in
    record { entry = here; few = c.requires c.loop-rest.i here }

pub overflow_add-i : goal.overflow_add-i
overflow_add-i c =
    let here : c.loop-rest.i < 64 = rest_within c.args.step.acting.entries 64 c.loop-rest.i (omega (arith, c.well_formed)) c.loop-rest.invariant.0 c.loop-rest-test.true in
    omega arith

pub returns-in_err-check_entry : goal.returns-in_err-check_entry
returns-in_err-check_entry c = λ d h n names lawful owns owned acts seen.
    let e : c.from_residual.result ≡ Err c.in_err-check_entry.field-0.0 = search rules in
    let here : c.loop-rest.i < 64 = rest_within c.args.step.acting.entries 64 c.loop-rest.i (omega (arith, c.well_formed)) c.loop-rest.invariant.0 c.loop-rest-test.true in
    let f = may_occur d h c.args.step.j names in
    let p : c.loop-rest.i < length d.entries = rest_within c.args.step.acting.entries (length d.entries) c.loop-rest.i acts.few c.loop-rest.invariant.0 c.loop-rest-test.true in
    ap pass_of e ∙ sym (c.loop-rest.invariant.1 d h n names lawful owns owned acts seen ∙ stops (λ k r. each_from k f r) d.entries no_entry c.loop-rest.i p (each_stop f c.loop-rest.i _ _
    (occurs_may d h c.args.step.j names c.loop-rest.i _ (sym (acts.occurring c.loop-rest.i p ∙ bit_set c.args.step.acting.entries c.loop-rest.i c.loop-rest.invariant.0 c.if-rest-eq1.true))
    ∙ (sym (c.check_entry.ensures d h n lawful (owns c.loop-rest.i here) owned seen) ∙ ap pass_of c.in_err-check_entry.was))))

pub loop-rest-preserved : goal.loop-rest-preserved
loop-rest-preserved c = (
  next_rest c.args.step.acting.entries c.loop-rest.i c.loop-rest.invariant.0,
  λ d h n names lawful owns owned acts seen.
      let here : c.loop-rest.i < 64 = rest_within c.args.step.acting.entries 64 c.loop-rest.i (omega (arith, c.well_formed)) c.loop-rest.invariant.0 c.loop-rest-test.true in
      let f = may_occur d h c.args.step.j names in
      let p : c.loop-rest.i < length d.entries = rest_within c.args.step.acting.entries (length d.entries) c.loop-rest.i acts.few c.loop-rest.invariant.0 c.loop-rest-test.true in
      c.loop-rest.invariant.1 d h n names lawful owns owned acts seen ∙ on (λ k r. each_from k f r) d.entries no_entry c.loop-rest.i p (each_on f c.loop-rest.i _ _ (elim c.if-rest-eq1.branch [
        | then-rest-eq1+in_ok-check_entry w ↦ occurs_may d h c.args.step.j names c.loop-rest.i _ (sym (acts.occurring c.loop-rest.i p ∙ bit_set c.args.step.acting.entries c.loop-rest.i c.loop-rest.invariant.0 w.if-rest-eq1.true)) ∙ (sym (w.check_entry.ensures d h n lawful (owns c.loop-rest.i here) owned seen) ∙ ap pass_of w.in_ok-check_entry.was)
        | else-rest-eq1 w ↦ occurs_not d h c.args.step.j names c.loop-rest.i _ (sym (acts.occurring c.loop-rest.i p ∙ bit_clear c.args.step.acting.entries c.loop-rest.i c.loop-rest.invariant.0 w.if-rest-eq1.false))
      ])),
)

pub returns : goal.returns
returns c = λ d h n names lawful owns owned acts seen. let f = may_occur d h c.args.step.j names in
    sym (c.loop-rest.invariant.1 d h n names lawful owns owned acts seen ∙ rests (λ k r. each_from k f r) d.entries no_entry c.loop-rest.i (each_none f)
    (λ k p q. each_on f k _ _ (occurs_not d h c.args.step.j names k _ (bits_none c.args.step.acting.entries c.loop-rest.i k (sym c.loop-rest.invariant.0 ∙ c.loop-rest-test.false) p ∙ sym (acts.occurring k q)))))
