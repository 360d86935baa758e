use borrow.Author.Tests.{eq-eqb, ne_eqb}
use Rattle.line.specs.Within.{frame_of}
use Rattle.line.proofs.read.frame_of.Goals as goal

pub returns-then-n-eq0 : goal.returns-then-n-eq0
unfolding frame_of
returns-then-n-eq0 c = simp (eq-eqb _ _ c.if-n-eq0.true)

pub returns-then-count-n : goal.returns-then-count-n
unfolding frame_of
returns-then-count-n c = simp (ne_eqb _ _ c.if-n-eq0.false, ne_eqb _ _ c.if-count-n.true)

pub returns : goal.returns
unfolding frame_of
returns c = simp (ne_eqb _ _ c.if-n-eq0.false, eq-eqb _ _ c.if-count-n.false)
