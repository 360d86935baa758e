use mathlib.Core.Path.{sym, ◌∙◌}
use native.Mathlib.Omega.{arith}
use lib.Dec.{eqb}
use Rattle.bmap.specs.Tree.{occurs}
use Rattle.law.specs.Check.{passes_e, passes_c, leaf_in}
use Rattle.law.proofs.CheckLaws.{pair_ends, pair_passes_lem, pair_fails}
use Rattle.law.proofs.LongLaws.{by_test}
use Rattle.law.proofs.checks.leaf_at.Goals as goal

pub returns-then-n-at-lt3 : goal.returns-then-n-at-lt3
returns-then-n-at-lt3 g c = λ t asks. by_test (eqb g.row.WANTED 3)
    (λ f. rw f (pair_ends c.args.s.now c.args.n (omega arith) (passes_c t) occurs c.args.at c.if-n-at-lt3.true))
    (λ f. rw f (pair_ends c.args.s.now c.args.n (omega arith) (passes_e t) (leaf_in c.args.row) c.args.at c.if-n-at-lt3.true))

pub returns-then-leaf_passes : goal.returns-then-leaf_passes
returns-then-leaf_passes g c = λ t asks.
    let p = sym (c.leaf_passes.ensures t asks) ∙ c.if-leaf_passes.true in
    by_test (eqb g.row.WANTED 3)
    (λ f. rw f (pair_passes_lem c.args.s.now c.args.n (omega arith) (passes_c t) occurs c.args.at (omega arith) (rw f at p)))
    (λ f. rw f (pair_passes_lem c.args.s.now c.args.n (omega arith) (passes_e t) (leaf_in c.args.row) c.args.at (omega arith) (rw f at p)))

pub returns : goal.returns
returns g c = λ t asks.
    let p = sym (c.leaf_passes.ensures t asks) ∙ c.if-leaf_passes.false in
    by_test (eqb g.row.WANTED 3)
    (λ f. rw f (pair_fails c.args.s.now c.args.n (omega arith) (passes_c t) occurs c.args.at (omega arith) (rw f at p)))
    (λ f. rw f (pair_fails c.args.s.now c.args.n (omega arith) (passes_e t) (leaf_in c.args.row) c.args.at (omega arith) (rw f at p)))
