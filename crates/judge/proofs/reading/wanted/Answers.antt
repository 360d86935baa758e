use Prim.Native.Nat.{ℕ, ◌+◌}
use mathlib.Core.Path.{◌≡◌, sym, ap, ◌∙◌}
use lib.ListN.{get_or, drop}
use borrow.Author.Rules.{rules}
use Rattle.std.specs.Prelude.{Ok, Err}
use Rattle.judge.specs.Answer.{wants_of}
use Rattle.bmap.specs.Judge.{sets_if}
use Rattle.judge.specs.Settings.{setting_from}
use Rattle.law.specs.Evaluate.{at_position, value_at}
use Rattle.bmap.specs.Limits.{most_depth}
use Rattle.bmap.specs.Meaning.{eval_e}
use Rattle.judge.proofs.CheckLaws.{front}
use Rattle.judge.proofs.SettingLaws.{sets_none}
use Rattle.judge.proofs.ReadingLaws.{Effect, effect_told, sets_if_lem, effect_truth, effect_value, told_some, told_none}
use Rattle.judge.proofs.reading.wanted.Goals as goal
use Rattle.judge.proofs.reading.wanted.Goals.{then-held-at-via-then-held-at, then-held-at-via-else-held-at+then-not-has}

pub returns-then-held-at : goal.returns-then-held-at
returns-then-held-at c = elim c.then-held-at.branch [
  | then-held-at-via-then-held-at w ↦ λ d h l names says occurring seen. sym (sets_none d h c.args.j names (drop c.args.at c.args.held.now) l says (λ e. w.if-held-at.true (sym (front c.args.held.now c.args.at) ∙ e)))
  | then-held-at-via-else-held-at+then-not-has w ↦ λ d h l names says occurring seen.
      let law : Effect d (drop c.args.at c.args.held.now) l = effect_told d (drop c.args.at c.args.held.now) l says (front c.args.held.now c.args.at ∙ w.if-held-at.false) in
      sym (sets_if_lem d c.args.held.now c.args.at l h c.args.j names c.args.entries law occurring (sym w.has.ensures ∙ w.if-not-has.true))
]

pub returns-in_default : goal.returns-in_default
returns-in_default c = λ d h l names says occurring seen.
    let law : Effect d (drop c.args.at c.args.held.now) l = effect_told d (drop c.args.at c.args.held.now) l says (front c.args.held.now c.args.at ∙ c.if-held-at.false) in
    let truth = effect_truth d c.args.held.now c.args.at l h c.args.j names c.args.entries law occurring c.args.history.now seen in
    absurd (told_none c.constraint_at.ensures c.in_default.is truth)

pub returns-in_err-met : goal.returns-in_err-met
returns-in_err-met c = λ d h l names says occurring seen.
    let e : c.from_residual.result ≡ Err c.in_err-met.field-0.0 = search rules in
    let law : Effect d (drop c.args.at c.args.held.now) l = effect_told d (drop c.args.at c.args.held.now) l says (front c.args.held.now c.args.at ∙ c.if-held-at.false) in
    let truth = effect_truth d c.args.held.now c.args.at l h c.args.j names c.args.entries law occurring c.args.history.now seen in
    let t = told_some c.constraint_at.ensures c.in-Some.is truth in
    let wants = sym (sets_if_lem d c.args.held.now c.args.at l h c.args.j names c.args.entries law occurring (sym c.has.ensures ∙ c.if-not-has.false)) in
    ap wants_of e ∙ (ap (sets_if law.fluent (eval_e law.expr h c.args.j)) (sym (sym t.0 ∙ c.in_err-met.was)) ∙ wants)

pub returns-then-met : goal.returns-then-met
returns-then-met c = λ d h l names says occurring seen.
    let law : Effect d (drop c.args.at c.args.held.now) l = effect_told d (drop c.args.at c.args.held.now) l says (front c.args.held.now c.args.at ∙ c.if-held-at.false) in
    let truth = effect_truth d c.args.held.now c.args.at l h c.args.j names c.args.entries law occurring c.args.history.now seen in
    let t = told_some c.constraint_at.ensures c.in-Some.is truth in
    let wants = sym (sets_if_lem d c.args.held.now c.args.at l h c.args.j names c.args.entries law occurring (sym c.has.ensures ∙ c.if-not-has.false)) in
    c.setting_at.ensures ∙ (ap (λ (n : ℕ). setting_from (get_or c.args.held.now n 0) (at_position c.args.j (value_at most_depth c.args.held.now (n + 1) c.args.history.now c.args.j))) t.1
    ∙ (effect_value d c.args.held.now c.args.at l h c.args.j names c.args.entries law occurring c.args.history.now seen ∙ (ap (sets_if law.fluent (eval_e law.expr h c.args.j)) (sym (sym t.0 ∙ (c.in_ok-met.was ∙ ap Ok c.if-met.true))) ∙ wants)))

pub returns : goal.returns
returns c = λ d h l names says occurring seen.
    let law : Effect d (drop c.args.at c.args.held.now) l = effect_told d (drop c.args.at c.args.held.now) l says (front c.args.held.now c.args.at ∙ c.if-held-at.false) in
    let truth = effect_truth d c.args.held.now c.args.at l h c.args.j names c.args.entries law occurring c.args.history.now seen in
    let t = told_some c.constraint_at.ensures c.in-Some.is truth in
    let wants = sym (sets_if_lem d c.args.held.now c.args.at l h c.args.j names c.args.entries law occurring (sym c.has.ensures ∙ c.if-not-has.false)) in
    ap (sets_if law.fluent (eval_e law.expr h c.args.j)) (sym (sym t.0 ∙ (c.in_ok-met.was ∙ ap Ok c.if-met.false))) ∙ wants
