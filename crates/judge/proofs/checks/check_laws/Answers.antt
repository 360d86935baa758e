use mathlib.Core.Path.{◌≡◌, sym, ap, ◌∙◌}
use borrow.Author.Rules.{rules}
use Rattle.std.specs.Prelude.{Err}
use Rattle.bmap.specs.Judge.{each_from, holds}
use Rattle.index.specs.Index.{law_number, no_law}
use Rattle.judge.specs.Answer.{pass_of, kind_of}
use Rattle.judge.proofs.LoopLaws.{stops, on, each_on, each_stop, each_none}
use Rattle.judge.proofs.CheckLaws.{run_starts, run_ends, run_law, run_says, others_pass}
use Rattle.judge.proofs.checks.check_laws.Goals as goal

pub loop-l-init : goal.loop-l-init
loop-l-init c = λ d h s n kind lawful within seen. let f = holds s (kind_of c.args.fault) h c.args.j in
    run_starts (λ k r. each_from k f r) d c.args.held.now n c.args.kind c.args.run lawful within
    (others_pass d c.args.held.now s (kind_of c.args.fault) h c.args.j kind)

pub returns-in_err-check_law : goal.returns-in_err-check_law
returns-in_err-check_law c = λ d h s n kind lawful within seen. let e : c.from_residual.result ≡ Err c.in_err-check_law.field-0.0 = search rules in let f = holds s (kind_of c.args.fault) h c.args.j in let i = run_law d _ n c.args.kind c.args.run c.loop-l.l lawful within c.loop-l-test.true in
    ap pass_of e ∙ sym (c.loop-l.invariant d h s n kind lawful within seen ∙ stops (λ k r. each_from k f r) d.laws no_law c.loop-l.l i (each_stop f c.loop-l.l _ _
    (sym (c.check_law.ensures d h s (law_number d c.loop-l.l) kind ((run_says d _ n c.args.kind c.args.run c.loop-l.l lawful within c.loop-l-test.true)) seen) ∙ ap pass_of c.in_err-check_law.was)))

pub loop-l-preserved : goal.loop-l-preserved
loop-l-preserved c = λ d h s n kind lawful within seen. let f = holds s (kind_of c.args.fault) h c.args.j in let i = run_law d _ n c.args.kind c.args.run c.loop-l.l lawful within c.loop-l-test.true in
    c.loop-l.invariant d h s n kind lawful within seen ∙ on (λ k r. each_from k f r) d.laws no_law c.loop-l.l i (each_on f c.loop-l.l _ _
    (sym (c.check_law.ensures d h s (law_number d c.loop-l.l) kind ((run_says d _ n c.args.kind c.args.run c.loop-l.l lawful within c.loop-l-test.true)) seen) ∙ ap pass_of c.in_ok-check_law.was))

pub returns : goal.returns
returns c = λ d h s n kind lawful within seen. let f = holds s (kind_of c.args.fault) h c.args.j in
    sym (c.loop-l.invariant d h s n kind lawful within seen ∙ run_ends (λ k r. each_from k f r) d c.args.held.now n c.args.kind c.args.run lawful within
    (others_pass d c.args.held.now s (kind_of c.args.fault) h c.args.j kind) c.loop-l.l c.loop-l-test.false (each_none f))
