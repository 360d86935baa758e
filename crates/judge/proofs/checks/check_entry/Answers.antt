use Prim.Native.Nat.{◌<◌}
use mathlib.Core.Path.{◌≡◌, sym, ap, ◌∙◌}
use native.Mathlib.Omega.{arith}
use lib.ListN.{length}
use Rattle.bmap.specs.Judge.{fine, reads, permitted}
use borrow.Author.Rules.{rules}
use Rattle.std.specs.Prelude.{Err}
use Rattle.judge.specs.Answer.{pass_of}
use Rattle.index.specs.Index.{no_law}
use Rattle.judge.proofs.LoopLaws.{stops, on}
use Rattle.judge.proofs.CheckLaws.{own_starts, own_ends, own_law, permitted_by}
use Rattle.judge.proofs.checks.check_entry.Goals as goal

pub loop-l-init : goal.loop-l-init
loop-l-init c = λ d h n lawful own owned seen. own_starts d h c.args.j c.args.i c.args.held.now c.args.owners.now n c.args.run lawful owned own

pub returns-in_err-allowed : goal.returns-in_err-allowed
returns-in_err-allowed c = λ d h n lawful own owned seen.
    let e : c.from_residual.result ≡ Err c.in_err-allowed.field-0.0 = search rules in
    let asked = c.loop-l.invariant d h n lawful own owned seen in
    let there : c.loop-l.l < length d.laws = own_law d h c.args.j c.args.i c.args.held.now c.args.owners.now n c.args.run lawful owned own c.loop-l.l c.loop-l-test.true in
    let says = ap (reads c.loop-l.l) (sym (c.try_law.ensures d h n lawful (omega (arith, own.ends)) owned seen)) in
    ap pass_of e ∙ sym (asked ∙ stops (permitted d h c.args.j c.args.i) d.laws no_law c.loop-l.l there (permitted_by d h c.args.j c.args.i c.loop-l.l _ _ (says ∙ sym c.in_err-allowed.ensures)))

pub returns-then-allowed : goal.returns-then-allowed
returns-then-allowed c = λ d h n lawful own owned seen.
    let asked = c.loop-l.invariant d h n lawful own owned seen in
    let there : c.loop-l.l < length d.laws = own_law d h c.args.j c.args.i c.args.held.now c.args.owners.now n c.args.run lawful owned own c.loop-l.l c.loop-l-test.true in
    let says = ap (reads c.loop-l.l) (sym (c.try_law.ensures d h n lawful (omega (arith, own.ends)) owned seen)) in
    sym (asked ∙ stops (permitted d h c.args.j c.args.i) d.laws no_law c.loop-l.l there (permitted_by d h c.args.j c.args.i c.loop-l.l _ _ (says ∙ (sym c.in_ok-allowed.ensures ∙ ap fine c.if-allowed.true))))

pub loop-l-preserved : goal.loop-l-preserved
loop-l-preserved c = λ d h n lawful own owned seen.
    let asked = c.loop-l.invariant d h n lawful own owned seen in
    let there : c.loop-l.l < length d.laws = own_law d h c.args.j c.args.i c.args.held.now c.args.owners.now n c.args.run lawful owned own c.loop-l.l c.loop-l-test.true in
    let says = ap (reads c.loop-l.l) (sym (c.try_law.ensures d h n lawful (omega (arith, own.ends)) owned seen)) in
    asked ∙ on (permitted d h c.args.j c.args.i) d.laws no_law c.loop-l.l there (permitted_by d h c.args.j c.args.i c.loop-l.l _ _ (says ∙ (sym c.in_ok-allowed.ensures ∙ ap fine c.if-allowed.false)))

pub returns : goal.returns
returns c = λ d h n lawful own owned seen. sym (c.loop-l.invariant d h n lawful own owned seen ∙ own_ends d h c.args.j c.args.i c.args.held.now c.args.owners.now n c.args.run lawful owned own c.loop-l.l c.loop-l-test.false)
