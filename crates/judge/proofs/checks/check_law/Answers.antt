use Prim.Native.Nat.{ℕ, ◌+◌}
use mathlib.Core.Path.{◌≡◌, sym, ap, subst, ◌∙◌}
use mathlib.Core.Bool.{Bool}
use borrow.Author.Rules.{rules}
use Rattle.std.specs.Prelude.{Err}
use lib.ListN.{drop}
use Rattle.bmap.specs.Judge.{Checked, fine, next, unless}
use Rattle.judge.specs.Answer.{kind_of, pass_of}
use Rattle.judge.specs.Told.{Seen, asks_of, place_of}
use Rattle.judge.proofs.CheckLaws.{front, holds_other, holds_same, must_by_kind}
use Rattle.judge.proofs.checks.check_law.Goals as goal

pub returns-then-held-at : goal.returns-then-held-at
returns-then-held-at c = λ d h s law kind says seen. sym (holds_other d (drop c.args.at c.args.held.now) s (kind_of c.args.fault) h c.args.j c.args.l law says (λ e. c.if-held-at.true (sym (front c.args.held.now c.args.at) ∙ (e ∙ sym kind))))

pub returns-in_err-met : goal.returns-in_err-met
returns-in_err-met c = λ d h s law kind says seen.
    let e : c.from_residual.result ≡ Err c.in_err-met.field-0.0 = search rules in
    let frame = drop c.args.at c.args.held.now in
    let is = must_by_kind d frame s law says (front c.args.held.now c.args.at ∙ (c.if-held-at.false ∙ kind)) in
    let v = c.constraint_of.ensures d h law c.args.at says (ap (λ (k : ℕ). c.args.at + k) (sym (ap place_of is))) (subst (λ (b : Bool). Seen b d h c.args.history.now c.args.j) (sym (ap asks_of is)) seen) in
    let comes = holds_same d frame s (kind_of c.args.fault) h c.args.j c.args.l law is v in
    let on_from = λ (t : Checked Bool). next t (unless (kind_of c.args.fault) c.args.l) in
    ap pass_of e ∙ sym (comes ∙ ap on_from (sym c.in_err-met.ensures))

pub returns-then-met : goal.returns-then-met
returns-then-met c = λ d h s law kind says seen.
    let frame = drop c.args.at c.args.held.now in
    let is = must_by_kind d frame s law says (front c.args.held.now c.args.at ∙ (c.if-held-at.false ∙ kind)) in
    let v = c.constraint_of.ensures d h law c.args.at says (ap (λ (k : ℕ). c.args.at + k) (sym (ap place_of is))) (subst (λ (b : Bool). Seen b d h c.args.history.now c.args.j) (sym (ap asks_of is)) seen) in
    let comes = holds_same d frame s (kind_of c.args.fault) h c.args.j c.args.l law is v in
    let on_from = λ (t : Checked Bool). next t (unless (kind_of c.args.fault) c.args.l) in
    sym (comes ∙ ap on_from (sym c.in_ok-met.ensures ∙ ap fine c.if-met.true))

pub returns : goal.returns
returns c = λ d h s law kind says seen.
    let frame = drop c.args.at c.args.held.now in
    let is = must_by_kind d frame s law says (front c.args.held.now c.args.at ∙ (c.if-held-at.false ∙ kind)) in
    let v = c.constraint_of.ensures d h law c.args.at says (ap (λ (k : ℕ). c.args.at + k) (sym (ap place_of is))) (subst (λ (b : Bool). Seen b d h c.args.history.now c.args.j) (sym (ap asks_of is)) seen) in
    let comes = holds_same d frame s (kind_of c.args.fault) h c.args.j c.args.l law is v in
    let on_from = λ (t : Checked Bool). next t (unless (kind_of c.args.fault) c.args.l) in
    sym (comes ∙ ap on_from (sym c.in_ok-met.ensures ∙ ap fine c.if-met.false))
